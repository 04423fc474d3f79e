-- The first beat, and later ones.
use Rattle.check_coverage.specs.Bins.{gap_bins, latency_bins}
use Rattle.check_bins.specs.declared.bin.CountedChannel.TheVariants as channel
use Rattle.check_bins.proofs.Counted.{adds_ok}
use Rattle.check_coverage.proofs.waits.count_reply_times.Goals as goal

pub returns : goal.returns
returns c = λ this is_this.
    adds_ok c.args.counts.now c.count_latency.new.counts c.count_gap.new.counts
    (latency_bins c.args.rules c.args.time c.args.times this)
    (gap_bins c.args.rules channel.D c.args.time c.args.times.replied this) c.count_gap.result
    (c.in_ok-count_latency.ensures this is_this) (c.count_gap.ensures this is_this)
