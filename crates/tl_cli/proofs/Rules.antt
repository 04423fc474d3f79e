-- The rule of an argument that is given more, step by step, and what is read of matches.
use Rattle.std.proofs.Common.{◌≡◌, ◌∙◌, Bool, true, List, Some, ap}
use Rattle.std.specs.Borrow.{Bor}
use Rattle.clap.specs.Words.{App, HasMatchesOf, Rule, Text, first_of, first_value, found_of, is_simple, matches_of, new_rule, rule_of}
use Rattle.clap.specs.declared.builder.action.ArgAction.{ArgAction}
use Rattle.clap.specs.declared.builder.action.ArgAction.TheVariants.{Set}
use Rattle.clap.specs.declared.builder.arg.Arg.{Arg}
use Rattle.clap.specs.declared.builder.value_parser.ValueParser.{ValueParser}
use Rattle.clap.specs.declared.parser.matches.ArgMatches.{ArgMatches}
use Rattle.clap.proofs.WalkLemmas.{first_value-rows}
use Rattle.tl_cli.specs.Rules.{valued_rule}

-- one value, a name for it, and a text for help
pub one_value : (new acting named helped : Arg) (id : Text) → rule_of new ≡ new_rule id
    → acting ≡ record new { action = Some Set } → rule_of named ≡ record (rule_of acting) { value_names = 1 }
    → rule_of helped ≡ rule_of named → rule_of helped ≡ valued_rule id
one_value new acting named helped id begun acts names helps =
    helps ∙ names ∙ ap (λ (a : Arg). record (rule_of a) { value_names = 1 }) acts
    ∙ ap (λ (rule : Rule). record rule { action = Some Set; value_names = 1 }) begun

-- two dashes and a name
pub with_long : (plain long : Arg) (name : Bor Text) (rule : Rule) → rule_of plain ≡ rule
    → long ≡ record plain { long = Some name } → rule_of long ≡ record rule { long = Some name.now }
with_long plain long name rule begun named =
    ap rule_of named ∙ ap (λ (r : Rule). record r { long = Some name.now }) begun

-- whether there must be one
pub with_required : (plain needed : Arg) (must : Bool) (rule : Rule) → rule_of plain ≡ rule
    → needed ≡ record plain { required = must } → rule_of needed ≡ record rule { required = must }
with_required plain needed must rule begun needs =
    ap rule_of needs ∙ ap (λ (r : Rule). record r { required = must }) begun

-- what each value has to be
pub with_parser : (plain parsed : Arg) (parser : ValueParser) (rule : Rule) → rule_of plain ≡ rule
    → parsed ≡ record plain { value_parser = parsed.value_parser } → parsed.value_parser ≡ Some parser
    → rule_of parsed ≡ record rule { parser = Some parser }
with_parser plain parsed parser rule begun parses is =
    ap rule_of parses ∙ ap (λ p. record (rule_of plain) { parser = p }) is
    ∙ ap (λ (r : Rule). record r { parser = Some parser }) begun

-- two dashes and a name, what becomes of it, what its values are, and a text for help
pub flagged : (new long acting parsed helped : Arg) (name : Bor Text) (action : ArgAction) (parser : ValueParser) (rule : Rule)
    → rule_of new ≡ rule → long ≡ record new { long = Some name } → acting ≡ record long { action = Some action }
    → parsed ≡ record acting { value_parser = parsed.value_parser } → parsed.value_parser ≡ Some parser
    → rule_of helped ≡ rule_of parsed
    → rule_of helped ≡ record rule { long = Some name.now; action = Some action; parser = Some parser }
flagged new long acting parsed helped name action parser rule begun named acts parses is helps =
    helps ∙ with_parser acting parsed parser _
    (ap rule_of acts ∙ ap (λ (r : Rule). record r { action = Some action }) (with_long new long name rule begun named))
    parses is

-- the first value of an option is what the words give it
pub first_read : (app : App) (m : ArgMatches) (words : List Text) → is_simple app ≡ true → HasMatchesOf app words m
    → (id : Text) → first_value (found_of m) id ≡ first_of id (matches_of app words)
first_read app m words simple has id =
    first_value-rows (found_of m) id ∙ ap (first_of id) (has simple).0
