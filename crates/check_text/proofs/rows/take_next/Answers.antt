-- The next row, and what becomes of it.
use Rattle.std.proofs.Common.{[], ◌∷◌, ◌++◌, Err, refl, sym, ap, subst}
use Rattle.check_records.specs.Source.{Between}
use Rattle.check_records.specs.Text.{GivesRecord}
use Rattle.check_rows.specs.Row.{seen_row}
use Rattle.check_review.specs.View.{TellsOn}
use Rattle.check_text.specs.Buses.{link_buses}
use Rattle.check_text.specs.Rows.{SpellsCapture}
use Rattle.check_text.proofs.Fitting.{bus_fits}
use Rattle.check_text.proofs.Taking.{no_row, read_stops}
use Rattle.check_text.proofs.rows.take_next.Goals as goal

pub returns-in-Ok-false-clause-next : goal.returns-in-Ok-false-clause-next
returns-in-Ok-false-clause-next g c = (rw c.in-Ok-false.field-0-test at c.in-Ok-false.ensures.ok, refl)

pub returns-in-Err-clause-next : goal.returns-in-Err-clause-next
returns-in-Err-clause-next g c = λ text.
    rw c.from.ensures (read_stops (link_buses c.args.buses.now) c.args.judge.now c.args.judge.now.tally text c.args.records.now.left c.read_in_place.new.self.left c.in-Err.fault
    (λ line is. c.in-Err.ensures.long line (ap Err is) c.requires.fresh))

pub returns-in-Err-row_at_hand-clause-next : goal.returns-in-Err-row_at_hand-clause-next
returns-in-Err-row_at_hand-clause-next g c = λ text.
    let r = c.read_in_place.new.self.row in
    let old = c.args.records.now.left in
    let new = c.read_in_place.new.self.left in
    let gives : Between old new (λ from to. GivesRecord from r to) =
    rw c.in-Ok-true.field-0-test at c.in-Ok-true.ensures.ok in
    rw c.line.ensures
    (no_row (link_buses c.args.buses.now) r c.in-Err-row_at_hand.fault old new c.args.judge.now c.args.judge.now.tally text gives
    (sym c.in-Err-row_at_hand.ensures.value))

pub returns-in-Ok-true-take_quietly-clause-next : goal.returns-in-Ok-true-take_quietly-clause-next
returns-in-Ok-true-take_quietly-clause-next g c =
    let r = c.read_in_place.new.self.row in
    let old = c.args.records.now.left in
    let new = c.read_in_place.new.self.left in
    let gives : Between old new (λ from to. GivesRecord from r to) =
    rw c.in-Ok-true.field-0-test at c.in-Ok-true.ensures.ok in
    let row = seen_row c.in-Ok.row c.row_at_hand.new.lanes in
    let spells : SpellsCapture (link_buses c.args.buses.now) r row = sym c.in-Ok.ensures.value in (
      gives,
      (
        row,
        spells,
        λ text. record {
          traced = c.in-Ok-true-take_quietly.ensures.same.trace;
          asked = c.in-Ok-true-take_quietly.ensures.same.asked;
          tells = λ plan rows so_far has.
              subst (λ lanes. TellsOn plan (rows ++ seen_row c.in-Ok.row lanes ∷ []) c.take_quietly.new.self so_far text text)
              c.as_slice.ensures
              (c.in-Ok-true-take_quietly.ensures.told plan rows so_far text has c.in-Ok-true-take_quietly.field-0-test);
        },
      ),
    )

pub returns-in-Ok-false-take_quietly-clause-next : goal.returns-in-Ok-false-take_quietly-clause-next
returns-in-Ok-false-take_quietly-clause-next g c =
    let r = c.read_in_place.new.self.row in
    let old = c.args.records.now.left in
    let new = c.read_in_place.new.self.left in
    let gives : Between old new (λ from to. GivesRecord from r to) =
    rw c.in-Ok-true.field-0-test at c.in-Ok-true.ensures.ok in
    (gives, sym c.in-Ok.ensures.value, c.in-Ok-false-take_quietly.ensures.left c.in-Ok-false-take_quietly.field-0-test)

pub take_quietly-requires-clause-bus : goal.take_quietly-requires-clause-bus
take_quietly-requires-clause-bus g c = λ beat.
    bus_fits c.args.judge.now.tally.watch.layout (link_buses c.args.buses.now) c.in-Ok.row.link c.in-Ok.row.bus
    c.requires.buses (c.in-Ok.ensures.takable.bus beat)
