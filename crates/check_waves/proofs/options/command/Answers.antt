-- One rule after another.
use Rattle.std.proofs.Common.{◌∙◌, ap₂}
use Rattle.std.proofs.lemmas.Result.{IfOk-weaker}
use Rattle.clap.specs.Words.{with_rule}
use Rattle.check_waves.proofs.options.command.Goals as goal

pub returns : goal.returns
returns c =
    let one = c.in_ok-arg.ensures.shape c.system_word.ensures.local
    ∙ ap₂ with_rule c.program.ensures c.system_word.ensures.rule in
    IfOk-weaker c.arg-2.result _ _
    (λ r added. added.shape c.dump_word.ensures.local ∙ ap₂ with_rule one c.dump_word.ensures.rule)
    c.arg-2.ensures
