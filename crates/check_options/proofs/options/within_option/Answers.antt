use Rattle.std.proofs.Common.{◌∙◌, ap, rules, Some}
use Rattle.clap.specs.declared.builder.arg.Arg.{Arg}
use Rattle.tl_cli.proofs.Rules.{with_long, with_parser}
use Rattle.check_options.proofs.options.within_option.Goals as goal

pub returns-clause-rule : goal.returns-clause-rule
returns-clause-rule c =
    let given = c.value_parser.ensures.given in
    with_parser c.long.result c.value_parser.result _ _
    (with_long c.valued.result c.long.result _ _ c.valued.ensures.rule c.long.ensures) c.value_parser.ensures.others
    (given.1 ∙ ap Some given.2)

pub returns-clause-local : goal.returns-clause-local
returns-clause-local c =
    ap (λ (a : Arg). a.global) c.value_parser.ensures.others
    ∙ ap (λ (a : Arg). a.global) c.long.ensures ∙ c.valued.ensures.local
