use Rattle.std.proofs.Common.{◌∙◌, ap₂}
use Rattle.std.proofs.lemmas.Result.{IfOk-weaker}
use Rattle.clap.specs.Words.{with_rule}
use Rattle.tl_options.proofs.options.command.Goals as goal

pub returns : goal.returns
returns c =
    let serial = c.in_ok-arg.ensures.shape c.flag.ensures.local
    ∙ ap₂ with_rule c.program.ensures c.flag.ensures.rule in
    let history = c.in_ok-arg-2.ensures.shape c.flag-2.ensures.local
    ∙ ap₂ with_rule serial c.flag-2.ensures.rule in
    IfOk-weaker c.arg-3.result _ _ (λ r added. added.shape c.workers_option.ensures.local
    ∙ ap₂ with_rule history c.workers_option.ensures.rule) c.arg-3.ensures
