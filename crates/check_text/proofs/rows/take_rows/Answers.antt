use Rattle.std.proofs.Common.{◌∙◌, List, [], ◌∷◌, ◌++◌, ℕ, refl, sym, subst}
use Rattle.check_records.specs.Source.{Between}
use Rattle.check_review.specs.View.{JudgeView, TellsOn}
use Rattle.check_rows.specs.Row.{seen_row}
use Rattle.check_text.specs.Buses.{link_buses}
use Rattle.check_text.specs.Rows.{StopsAt, Took, TookRows, halt_of}
use Rattle.check_text.proofs.Taking.{fails, halts, read_fails, row_stops, row_taken, took_more, took_none, took_quietly}
use Rattle.check_text.specs.declared.rows.Halt.TheVariants as halt
use Rattle.check_text.proofs.rows.take_rows.Goals.{in-Taken, in-Left+in_default+in_default-write_long}
use Rattle.check_text.proofs.rows.take_rows.Goals as goal

pub loop-init : goal.loop-init
loop-init g c =
    let old = g.W.Write.contents c.args.writer.now.writer.now in
    let P : List ℕ → Type 0 =
    λ text. Between c.args.records.now.left c.args.records.now.left
    (TookRows (link_buses c.args.buses.now) c.args.judge.now c.args.judge.now old old text) in
    record {
      fresh = c.requires.fresh;
      covered = refl;
      layout = refl;
      same = refl;
      taken = subst P (sym c.requires.empty) (took_none (link_buses c.args.buses.now) c.args.judge.now old c.args.records.now.left);
    }

pub returns-clause-halt : goal.returns-clause-halt
returns-clause-halt g c =
    let contents = g.W.Write.contents in
    read_fails (link_buses c.args.buses.now) c.args.judge.now (contents c.args.writer.now.writer.now) c.loop.judge.tally
    c.loop.judge
    (contents c.loop.writer.writer.now)
    c.loop.text.items c.loop.text.items c.args.records.now.left c.loop.records.left c.loop.invariant.taken refl

pub returns-in-Fault-clause-halt : goal.returns-in-Fault-clause-halt
returns-in-Fault-clause-halt g c =
    let contents = g.W.Write.contents in
    let text = c.loop.text.items in
    halts (link_buses c.args.buses.now) c.args.judge.now (contents c.args.writer.now.writer.now) c.take_next.new.judge.tally
    c.loop.judge (contents c.loop.writer.writer.now)
    text text c.args.records.now.left c.loop.records.left c.take_next.new.records.left (halt.Fault c.in-Fault.fault)
    c.loop.invariant.taken (c.in-Fault.ensures.next text)

pub returns-in-Err-clause-halt : goal.returns-in-Err-clause-halt
returns-in-Err-clause-halt g c =
    let contents = g.W.Write.contents in
    let r = c.take_next.new.records.row in
    let at = c.loop.records.left in
    let to = c.take_next.new.records.left in
    let text = c.loop.text.items in
    let grown = c.take.new.text.items in
    let next = c.in-Left.ensures.next in
    let S : JudgeView → Type 0 = λ judge. StopsAt (link_buses c.args.buses.now) judge c.take.new.self.tally text grown at to (halt_of r.line c.in-Err.stop) in
    rw (c.halt_of.ensures, c.line.ensures)
    (halts (link_buses c.args.buses.now) c.args.judge.now (contents c.args.writer.now.writer.now) c.take.new.self.tally
    c.loop.judge (contents c.loop.writer.writer.now)
    text grown c.args.records.now.left at to (halt_of r.line c.in-Err.stop) c.loop.invariant.taken
    (subst S next.2 (row_stops (link_buses c.args.buses.now) r (seen_row c.in-Left.row c.take_next.new.lanes) next.1 at to next.0 c.take_next.new.judge c.take.new.self.tally text grown c.in-Err.stop
    (λ plan rows so_far has. (
      c.in-Err.ensures.row.stop plan rows has.judges,
      c.in-Err.ensures.row.stop_covered plan rows has.judges,
      c.in-Err.ensures.row.stop_told plan rows so_far has,
    )))))

pub returns-in-Err-write_long-clause-halt : goal.returns-in-Err-write_long-clause-halt
returns-in-Err-write_long-clause-halt g c =
    let contents = g.W.Write.contents in
    let r = c.take_next.new.records.row in
    let at = c.loop.records.left in
    let to = c.take_next.new.records.left in
    let text = c.loop.text.items in
    let grown = c.take.new.text.items in
    let next = c.in-Left.ensures.next in
    let T : JudgeView → Type 0 = λ judge. Took judge (seen_row c.in-Left.row c.take_next.new.lanes) c.take.new.self text grown in
    rw c.in-Err-write_long.ensures.fault
    (fails (link_buses c.args.buses.now) c.args.judge.now (contents c.args.writer.now.writer.now) c.take.new.self.tally
    c.loop.judge c.take.new.self
    (contents c.loop.writer.writer.now) (contents c.write_long.new.writer.writer.now)
    text grown c.write_long.new.text.items c.args.records.now.left at to c.loop.invariant.taken
    (row_taken (link_buses c.args.buses.now) r (seen_row c.in-Left.row c.take_next.new.lanes) next.1 at to next.0 c.loop.judge c.take.new.self text grown
    (subst T next.2 (record {
      traced = c.in_default.ensures.same.trace;
      asked = c.in_default.ensures.same.asked;
      tells = λ plan rows so_far has.
          subst (λ lanes. TellsOn plan (rows ++ seen_row c.in-Left.row lanes ∷ []) c.take.new.self so_far text grown)
          c.as_slice.ensures (c.in_default.ensures.row.told plan rows so_far has);
    }))) c.in-Err-write_long.ensures.front)

pub loop-preserved : goal.loop-preserved
loop-preserved g c =
    let contents = g.W.Write.contents in
    let r = c.take_next.new.records.row in
    let at = c.loop.records.left in
    let to = c.take_next.new.records.left in
    let text = c.loop.text.items in
    elim c.match-take_next.branch [
      | in-Taken w ↦
          let next = w.in-Taken.ensures.next in
          rw (w.judge-is, w.writer-is, w.text-is) (record {
            fresh = w.in-Taken.ensures.goes_on;
            covered = w.in-Taken.ensures.covered ∙ c.loop.invariant.covered;
            layout = w.in-Taken.ensures.layout ∙ c.loop.invariant.layout;
            same = c.loop.invariant.same;
            taken = took_quietly (link_buses c.args.buses.now) c.args.judge.now (contents c.args.writer.now.writer.now) c.loop.judge c.take_next.new.judge
                (contents c.loop.writer.writer.now) text c.args.records.now.left at to r next.1.0 c.loop.invariant.taken next.0 next.1.1
                (next.1.2 text);
          })
      | in-Left+in_default+in_default-write_long w ↦
          let next = w.in-Left.ensures.next in
          let grown = w.take.new.text.items in
          let T : JudgeView → Type 0 = λ judge. Took judge (seen_row w.in-Left.row c.take_next.new.lanes) w.take.new.self text grown in
          rw (w.judge-is, w.writer-is, w.text-is) (record {
            fresh = w.in-Left.ensures.goes_on.0;
            covered = w.in_default.ensures.same.covered ∙ w.in-Left.ensures.covered ∙ c.loop.invariant.covered;
            layout = w.in_default.ensures.same.layout ∙ w.in-Left.ensures.layout ∙ c.loop.invariant.layout;
            same = w.in_default-write_long.ensures.same ∙ c.loop.invariant.same;
            taken = took_more (link_buses c.args.buses.now) c.args.judge.now (contents c.args.writer.now.writer.now) c.loop.judge w.take.new.self
                (contents c.loop.writer.writer.now) (contents w.write_long.new.writer.writer.now)
                text grown w.write_long.new.text.items c.args.records.now.left at to c.loop.invariant.taken
                (row_taken (link_buses c.args.buses.now) r (seen_row w.in-Left.row c.take_next.new.lanes) next.1 at to next.0 c.loop.judge w.take.new.self text grown
                (subst T next.2 (record {
                  traced = w.in_default.ensures.same.trace;
                  asked = w.in_default.ensures.same.asked;
                  tells = λ plan rows so_far has.
                      subst (λ lanes. TellsOn plan (rows ++ seen_row w.in-Left.row lanes ∷ []) w.take.new.self so_far text
                      grown) w.as_slice.ensures (w.in_default.ensures.row.told plan rows so_far has);
                }))) w.in_default-write_long.ensures.moves;
          })
    ]
