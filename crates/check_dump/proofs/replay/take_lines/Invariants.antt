-- The judge has taken the rows so far, and what it told is written, but for the text that is left. Its links are the same.
use Rattle.std.proofs.Common.{◌≡◌}
use Rattle.check_vcd.specs.Words.{Both}
use Rattle.check_review.specs.View.{is_covered}
use Rattle.check_text.specs.Buses.{link_buses}
use Rattle.check_dump.specs.Lines.{IsInside, coming}
use Rattle.check_dump.specs.Replay.{TookLines}
use Rattle.check_dump.proofs.replay.take_lines.Given as goal

abbrev pub invariant-loop : goal.invariant-loop
invariant-loop g l = record {
  inside : IsInside l.lines;
  covered : is_covered l.judge ≡ is_covered l.fn.judge;
  layout : l.judge.tally.watch.layout ≡ l.fn.judge.tally.watch.layout;
  same : l.writer.writer.ghost_name ≡ l.fn.writer.writer.ghost_name;
  taken : Both (coming l.fn.lines) (coming l.lines)
      (TookLines (link_buses l.buses) l.fn.judge l.judge l.place (g.W.Write.contents l.fn.writer.writer.now)
      (g.W.Write.contents l.writer.writer.now) l.told.items);
}
