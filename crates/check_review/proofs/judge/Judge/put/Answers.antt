-- The moment has one row more, with the lanes of its bus.
use Rattle.std.proofs.Common.{◌≡◌, ◌≤◌, false, sym, subst}
use Rattle.check_beats.specs.Bus.{bus_bytes}
use Rattle.check_sides.specs.Plan.{bus_of}
use Rattle.check_rows.specs.Row.{seen_row}
use Rattle.check_review.specs.View.{JudgeView}
use Rattle.check_review.proofs.Keeping.{lanes_more, lanes_of_row}
use Rattle.check_review.proofs.judge.Judge.put.Goals as goal

pub invariant_of-self-then-taken : goal.invariant_of-self-then-taken
invariant_of-self-then-taken c =
    let row = c.args.row.now in
    let layout = c.self.inside.tally.watch.layout in
    let takes = rw c.if-taken.true at c.in_ok-taken.ensures.ok in
    let fits : row.is_reset ≡ false → bus_of layout row.link ≤ bus_bytes row.bus =
    subst (λ (judge : JudgeView). row.is_reset ≡ false → bus_of judge.tally.watch.layout row.link ≤ bus_bytes row.bus)
    (sym c.self.view_is) c.requires.bus in
    record {
      lanes = lanes_more layout (seen_row row c.args.lanes.now) c.self.inside.moment.rows c.put.new.self.rows takes.rows
          (lanes_of_row layout row c.args.lanes.now c.requires.lanes fits) c.self.invariant.lanes;
      loads = c.self.invariant.loads;
    }
