-- It is counted if it is corrupt.
use Rattle.std.proofs.Common.{List, [], ◌∷◌, subst}
use Rattle.std.specs.Prelude.{OnOk, if◌then◌else◌}
use Rattle.check_bins.specs.declared.bin.Bin.{Bin}
use Rattle.check_bins.specs.declared.bin.Bin.TheVariants as bin
use Rattle.check_bins.specs.Counting.{Adds}
use Rattle.check_coverage.proofs.parts.count_corrupt.Goals as goal

pub returns : goal.returns
returns c = λ this is_this.
    subst (λ (l : List Bin). OnOk c.add_if.result (Adds c.args.counts.now c.add_if.new.self l))
    (λ i. if c.args.is_corrupt
    then bin.Corrupt (c.pair.ensures this is_this i) (c.operation.ensures this is_this i) c.args.is_reply ∷ [] else [])
    c.add_if.ensures
