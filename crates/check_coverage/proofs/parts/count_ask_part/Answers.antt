-- The time since the beat before, and whether it is corrupt.
use Rattle.std.proofs.Common.{false}
use Rattle.check_coverage.specs.Bins.{corrupt_bins, gap_bins}
use Rattle.check_bins.specs.declared.bin.CountedChannel.TheVariants as channel
use Rattle.check_bins.proofs.Counted.{adds_ok}
use Rattle.check_coverage.proofs.parts.count_ask_part.Goals as goal

pub returns : goal.returns
returns c = λ this is_this.
    adds_ok c.args.counts.now c.count_gap.new.counts c.count_corrupt.new.counts
    (gap_bins c.args.rules channel.A c.args.time c.args.before this) (corrupt_bins c.args.is_corrupt false this)
    c.count_corrupt.result (c.in_ok-count_gap.ensures this is_this) (c.count_corrupt.ensures this is_this)
