-- The judge has taken the rows so far, and what it told is written, but for the text that is left. Its links are the same.
use Rattle.std.proofs.Common.{◌≡◌, None}
use Rattle.check_records.specs.Source.{Between}
use Rattle.check_review.specs.View.{is_covered}
use Rattle.check_text.specs.Buses.{link_buses}
use Rattle.check_text.specs.Rows.{TookRows}
use Rattle.check_text.proofs.rows.take_rows.Given as goal

abbrev pub invariant-loop : goal.invariant-loop
invariant-loop g l = record {
  fresh : l.records.fault ≡ None;
  covered : is_covered l.judge ≡ is_covered l.fn.judge;
  layout : l.judge.tally.watch.layout ≡ l.fn.judge.tally.watch.layout;
  same : l.writer.writer.ghost_name ≡ l.fn.writer.writer.ghost_name;
  taken : Between l.fn.records.left l.records.left
      (TookRows (link_buses l.buses) l.fn.judge l.judge (g.W.Write.contents l.fn.writer.writer.now)
      (g.W.Write.contents l.writer.writer.now) l.text.items);
}
