-- The lanes of a word of one length or another.
use Rattle.check_beats.specs.Bus.{bus_bytes}
use Rattle.check_rows.proofs.FrontLemmas.{spells-lanes}
use Rattle.check_rows.proofs.front.take_lanes.Goals as goal

pub returns-in-Ok : goal.returns-in-Ok
returns-in-Ok c =
    rw c.in-Some.ensures.rest
    (spells-lanes (bus_bytes c.args.bus) c.args.text.now _ c.lanes_length-count.result c.lanes_length-count.ensures
    c.in-Some.ensures.inside c.in-Some.ensures.comma c.in-Ok.ensures)
