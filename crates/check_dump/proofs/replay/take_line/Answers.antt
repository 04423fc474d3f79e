-- The row of the line is taken, or why it is not.
use Rattle.std.proofs.Common.{◌≡◌, subst}
use Rattle.check_rows.specs.Row.{seen_row}
use Rattle.check_review.specs.View.{JudgeView}
use Rattle.check_samples.specs.Due.{due_line}
use Rattle.check_text.specs.Buses.{link_buses}
use Rattle.check_dump.specs.Replay.{LineStops, halt_of}
use Rattle.check_dump.proofs.ReplayLemmas.{line_stops, no_due}
use Rattle.check_dump.proofs.replay.take_line.Goals as goal

pub returns-in-Err-take-clause-halt : goal.returns-in-Err-take-clause-halt
returns-in-Err-take-clause-halt c =
    let same : c.take_quietly.new.self ≡ c.args.judge.now =
    c.in-Ok-false.ensures.left c.in-Ok-false.field-0-test in
    let buses = link_buses c.args.buses.now in
    let told = c.args.told.now.items in
    let grown = c.take.new.text.items in
    let tally = c.take.new.self.tally in
    let stop = c.in-Err-take.stop in
    rw c.halt_of.ensures (λ _.
    subst (λ (j : JudgeView). LineStops buses c.args.number (due_line c.args.due.now) j tally told grown (halt_of c.args.number stop)) same
    (line_stops buses c.args.number (due_line c.args.due.now) (seen_row c.in_ok-row.row c.read_due.new.lanes)
    c.in_ok-row.ensures.value c.take_quietly.new.self tally told grown stop (λ plan rows so_far has. (
      c.in-Err-take.ensures.row.stop plan rows has.judges,
      c.in-Err-take.ensures.row.stop_covered plan rows has.judges,
      c.in-Err-take.ensures.row.stop_told plan rows so_far has,
    ))))
