-- The times since other beats, and whether it is corrupt.
use Rattle.std.proofs.Common.{true}
use Rattle.check_coverage.specs.Bins.{corrupt_bins, reply_times_bins}
use Rattle.check_bins.proofs.Counted.{adds_ok}
use Rattle.check_coverage.proofs.parts.count_reply_part.Goals as goal

pub returns : goal.returns
returns c = λ this is_this.
    adds_ok c.args.counts.now c.count_reply_times.new.counts c.count_corrupt.new.counts
    (reply_times_bins c.args.rules c.args.time c.args.times this) (corrupt_bins c.args.is_corrupt true this)
    c.count_corrupt.result (c.in_ok-count_reply_times.ensures this is_this) (c.count_corrupt.ensures this is_this)
