-- A row more, which has no bits.
use Rattle.std.proofs.Common.{refl}
use Rattle.check_samples.specs.Resets.{reset_line}
use Rattle.check_samples.specs.declared.due.KeptRow.TheVariants as kept
use Rattle.check_samples.proofs.DueLemmas.{one-line}
use Rattle.check_samples.proofs.due.DueRows.add_reset.Goals as goal

pub returns : goal.returns
returns c =
    rw (c.in_ok-push.ensures.items, ← c.self.view_is)
    (one-line c.self.inside.bits.items c.self.inside.rows.items (kept.Reset c.args.time) (reset_line c.args.time) refl)
