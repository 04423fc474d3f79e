use Rattle.std.proofs.Common.{◌∙◌, true, ap}
use Rattle.clap.specs.Simple.{App, app_of_fields}
use Rattle.tl_cli.proofs.options.program.Goals as goal

pub returns : goal.returns
returns c =
    ap app_of_fields c.after_help.ensures ∙ ap app_of_fields c.about.ensures ∙ ap app_of_fields c.version.ensures
    ∙ ap (λ (app : App). record app { top = record app.top { has_version = true } }) c.new.ensures.app
