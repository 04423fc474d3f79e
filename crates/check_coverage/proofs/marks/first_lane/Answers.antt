use Rattle.check_beats.specs.Bus.{bus_log}
use Rattle.check_beats.proofs.Window.{window_fits}
use Rattle.check_coverage.proofs.marks.first_lane.Goals as goal

pub returns-clause-in_bus : goal.returns-clause-in_bus
returns-clause-in_bus c =
    rw (c.width-width.ensures.value, c.bytes.ensures.value) (window_fits (bus_log c.args.bus) c.args.address c.args.size)
