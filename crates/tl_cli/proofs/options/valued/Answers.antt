use Rattle.std.proofs.Common.{◌∙◌, ap}
use Rattle.clap.specs.Words.{rule_of}
use Rattle.clap.specs.declared.builder.arg.Arg.{Arg}
use Rattle.tl_cli.proofs.Rules.{one_value}
use Rattle.tl_cli.proofs.options.valued.Goals as goal

pub returns : goal.returns
returns c = record {
  rule = one_value c.new.result c.action.result c.value_name.result c.help.result c.args.id.now c.new.ensures.rule
      c.action.ensures (ap rule_of c.value_name.ensures) (ap rule_of c.help.ensures);
  local = ap (λ (a : Arg). a.global) c.help.ensures ∙ ap (λ (a : Arg). a.global) c.value_name.ensures
      ∙ ap (λ (a : Arg). a.global) c.action.ensures ∙ c.new.ensures.optional.1;
}
