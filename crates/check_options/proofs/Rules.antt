-- The rules of the two options that have one of a list of words.
use Rattle.std.proofs.Common.{◌≡◌, ◌∙◌, [], ◌∷◌, Some, ap}
use Rattle.std.specs.Borrow.{Bor}
use Rattle.clap.specs.Words.{Rule, Text, rule_of}
use Rattle.clap.specs.declared.builder.arg.Arg.{Arg}
use Rattle.clap.specs.declared.builder.value_parser.ValueParser.{ValueParser}
use Rattle.clap.specs.declared.builder.value_parser.ValueParser.TheVariants as values
use Rattle.tl_cli.proofs.Rules.{with_long, with_parser}
use Rattle.check_options.specs.Options.{IsLinksRule, IsOrderRule, WordSlice, links_rule, links_words, order_rule, order_words, texts_of}

-- two dashes and a name, a list of words, and one of them by default
pub chosen : (plain long listed usual : Arg) (name : Bor Text) (word : Text) (parser : ValueParser) (rule : Rule)
    → rule_of plain ≡ rule → long ≡ record plain { long = Some name }
    → listed ≡ record long { value_parser = listed.value_parser } → listed.value_parser ≡ Some parser
    → rule_of usual ≡ record (rule_of listed) { defaults = word ∷ [] }
    → rule_of usual ≡ record rule { long = Some name.now; parser = Some parser; defaults = word ∷ [] }
chosen plain long listed usual name word parser rule begun named lists parses defaults =
    defaults ∙ ap (λ (r : Rule). record r { defaults = word ∷ [] })
    (with_parser long listed parser _ (with_long plain long name rule begun named) lists parses)

-- the rules of the two options that have one of a list of words, by the list that they have
pub is_links : (rule made : Rule) (names : WordSlice) → rule ≡ made → made.parser ≡ Some (values.Names names)
    → texts_of names ≡ links_words → made ≡ links_rule names → IsLinksRule rule
is_links rule made names is has listed same = record { names = names; listed = listed; is = is ∙ same }

pub is_order : (rule made : Rule) (names : WordSlice) → rule ≡ made → made.parser ≡ Some (values.Names names)
    → texts_of names ≡ order_words → made ≡ order_rule names → IsOrderRule rule
is_order rule made names is has listed same = record { names = names; listed = listed; is = is ∙ same }
