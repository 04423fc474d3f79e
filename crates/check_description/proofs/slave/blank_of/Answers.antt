-- The ranges of the memory are some of the port's.
use Rattle.std.proofs.Common.{subst, sym}
use Rattle.check_description.specs.Ranges.{AreRangesOfPort}
use Rattle.check_description.proofs.slave.blank_of.Goals as goal

pub ranges_kept-requires : goal.ranges_kept-requires
ranges_kept-requires c =
    subst AreRangesOfPort (sym c.deref.ensures.value) c.args.port.now.lawful

pub mirrors_kept-requires : goal.mirrors_kept-requires
mirrors_kept-requires c =
    subst AreRangesOfPort (sym c.deref-2.ensures.value) c.args.port.now.lawful
