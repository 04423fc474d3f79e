use Rattle.std.proofs.Common.{◌≡◌, ◌+◌, ◌<◌, arith}
use Rattle.check_bins.specs.Counting.{bin_cmp, capped, count_of}
use Rattle.check_bins.proofs.Counted.{adds_one, stays_some}
use Rattle.check_bins.proofs.counts.Counts.add.Goals as goal

pub invariant_of-self : goal.invariant_of-self
invariant_of-self c =
    let some : 0 < c.saturating_add-count.result = omega (arith, c.saturating_add-count.ensures) in
    record {
      some = stays_some _ c.args.self.now.counts c.insert.new.self c.args.bin c.saturating_add-count.result c.insert.result
          c.args.self.now.some some c.insert.ensures.entries c.insert.ensures.err;
    }

pub returns : goal.returns
unfolding bin_cmp
returns c =
    let is : c.saturating_add-count.result ≡ capped (count_of c.args.self.now c.args.bin + 1) =
    omega (arith, c.saturating_add-count.ensures, c.count.ensures) in
    adds_one c.args.self.now.counts c.insert.new.self c.args.bin c.saturating_add-count.result c.in_ok-insert.ensures.updates is
