use Rattle.std.proofs.Common.{◌∙◌, ap}
use Rattle.check_beats.specs.Rules.{clocks_in}
use Rattle.check_coverage.specs.Bins.{step_of}
use Rattle.check_coverage.proofs.waits.step_between.Goals as goal

pub returns : goal.returns
returns c =
    c.step_of.ensures ∙ ap step_of (c.clocks.ensures ∙ ap (clocks_in c.args.rules) c.saturating_sub.ensures)
