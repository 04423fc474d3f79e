-- One rule after another.
use Rattle.std.proofs.Common.{◌∙◌, ap₂, refl}
use Rattle.std.proofs.lemmas.Result.{IfOk-weaker}
use Rattle.clap.specs.Words.{with_rule}
use Rattle.check_options.proofs.options.add_flags.Goals as goal

pub returns : goal.returns
returns c =
    let one = c.in_ok-arg.ensures.shape c.flag.ensures.local ∙ ap₂ with_rule refl c.flag.ensures.rule in
    let two = c.in_ok-arg-2.ensures.shape c.flag-2.ensures.local ∙ ap₂ with_rule one c.flag-2.ensures.rule in
    IfOk-weaker c.arg-3.result _ _
    (λ r added. added.shape c.flag-3.ensures.local ∙ ap₂ with_rule two c.flag-3.ensures.rule)
    c.arg-3.ensures
