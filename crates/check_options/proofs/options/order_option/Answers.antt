-- The list of words lies where the program has it.
use Rattle.std.proofs.Common.{◌∙◌, ap, refl, rules, Some}
use Rattle.clap.specs.Words.{rule_of}
use Rattle.clap.specs.declared.builder.arg.Arg.{Arg}
use Rattle.check_options.proofs.Rules.{chosen, is_order}
use Rattle.check_options.proofs.options.order_option.Goals as goal

pub returns-clause-rule : goal.returns-clause-rule
returns-clause-rule c =
    let given = c.value_parser.ensures.given in
    let is = chosen c.valued.result c.long.result c.value_parser.result c.default_value.result _ _ _ _
    c.valued.ensures.rule c.long.ensures c.value_parser.ensures.others (given.1 ∙ ap Some given.2)
    (ap rule_of c.default_value.ensures) in
    is_order _ _ _ is refl (search rules) (search rules)

pub returns-clause-local : goal.returns-clause-local
returns-clause-local c =
    ap (λ (a : Arg). a.global) c.default_value.ensures ∙ ap (λ (a : Arg). a.global) c.value_parser.ensures.others
    ∙ ap (λ (a : Arg). a.global) c.long.ensures ∙ c.valued.ensures.local
