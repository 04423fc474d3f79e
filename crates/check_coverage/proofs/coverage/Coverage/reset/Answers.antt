-- Nothing is in flight or answered any more.
use Rattle.std.proofs.Common.{refl}
use Rattle.check_coverage.proofs.Covered.{covers_reset}
use Rattle.check_coverage.proofs.coverage.Coverage.reset.Goals as goal

pub returns : goal.returns
returns c plan later earlier rows same covers =
    covers_reset plan later earlier rows c.args.self.now _ same covers refl refl c.clear.ensures.items
    c.clear-2.ensures.empty c.clear-3.ensures.empty
