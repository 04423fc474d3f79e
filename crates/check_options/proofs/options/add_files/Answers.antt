-- One rule after another.
use Rattle.std.proofs.Common.{◌∙◌, ap₂, refl}
use Rattle.std.proofs.lemmas.Result.{IfOk-weaker}
use Rattle.clap.specs.Words.{with_rule}
use Rattle.check_options.proofs.options.add_files.Goals as goal

pub returns : goal.returns
returns c =
    let one = c.in_ok-arg.ensures.shape c.coverage_option.ensures.local
    ∙ ap₂ with_rule refl c.coverage_option.ensures.rule in
    let two = c.in_ok-arg-2.ensures.shape c.system_word.ensures.local
    ∙ ap₂ with_rule one c.system_word.ensures.rule in
    IfOk-weaker c.arg-3.result _ _
    (λ r added. added.shape c.capture_word.ensures.local ∙ ap₂ with_rule two c.capture_word.ensures.rule)
    c.arg-3.ensures
