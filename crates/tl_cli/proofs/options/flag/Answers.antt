use Rattle.std.proofs.Common.{◌∙◌, ap, Some}
use Rattle.clap.specs.Words.{rule_of}
use Rattle.clap.specs.declared.builder.arg.Arg.{Arg}
use Rattle.tl_cli.proofs.Rules.{flagged}
use Rattle.tl_cli.proofs.options.flag.Goals as goal

pub returns : goal.returns
returns c =
    let given = c.value_parser-2.ensures.given in
    record {
      rule = flagged c.new.result c.long.result c.action.result c.value_parser-2.result c.help.result _ _ _ _
          c.new.ensures.rule c.long.ensures c.action.ensures c.value_parser-2.ensures.others
          (given.1 ∙ ap Some (given.2 ∙ c.value_parser.ensures)) (ap rule_of c.help.ensures);
      local = ap (λ (a : Arg). a.global) c.help.ensures ∙ ap (λ (a : Arg). a.global) c.value_parser-2.ensures.others
          ∙ ap (λ (a : Arg). a.global) c.action.ensures ∙ ap (λ (a : Arg). a.global) c.long.ensures
          ∙ c.new.ensures.optional.1;
    }
