-- The rows so far are taken, and written but for the text that is left.
use Rattle.std.proofs.Common.{◌≡◌}
use Rattle.check_vcd.specs.Words.{Both}
use Rattle.check_waves.specs.Out.{Pushing}
use Rattle.check_waves.proofs.engine.push_rows.Given as goal

abbrev pub invariant-loop : goal.invariant-loop
invariant-loop g l = record {
  same : l.writer.writer.ghost_name ≡ l.fn.writer.writer.ghost_name;
  pushing : Both l.fn.rows l.rows (Pushing l.fn.text.items l.text.items (g.W.Write.contents l.fn.writer.writer.now)
      (g.W.Write.contents l.writer.writer.now));
}
