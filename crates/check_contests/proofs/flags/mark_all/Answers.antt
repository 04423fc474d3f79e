use Rattle.std.proofs.Common.{refl}
use Rattle.check_contests.proofs.flags.mark_all.Goals as goal

pub loop-entry-init : goal.loop-entry-init
loop-entry-init c = record {
  counted = refl;
  flagged = λ k below. c.requires.fresh k below;
  outside = λ address beside. refl;
}
