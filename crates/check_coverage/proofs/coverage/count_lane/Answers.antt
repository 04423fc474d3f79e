-- It is counted if it is narrower.
use Rattle.std.proofs.Common.{◌≡◌, ◌%◌, List, [], ◌∷◌, subst}
use Rattle.std.specs.Prelude.{OnOk, nat_lt, if◌then◌else◌}
use Rattle.check_beats.specs.Bus.{bus_bytes}
use Rattle.check_bins.specs.declared.bin.Bin.{Bin}
use Rattle.check_bins.specs.declared.bin.Bin.TheVariants as bin
use Rattle.check_bins.specs.Counting.{Adds}
use Rattle.check_coverage.proofs.coverage.count_lane.Goals as goal

pub returns : goal.returns
returns c = λ this is_this.
    let bytes : c.bytes-bytes.result ≡ bus_bytes c.args.bus = c.bytes-bytes.ensures.value in
    subst (λ (l : List Bin). OnOk c.add_if.result (Adds c.args.counts.now c.add_if.new.self l))
    (λ i. if nat_lt (is_this i).span (bytes i)
    then bin.Lane (is_this i).master (is_this i).first.size ((is_this i).first.address % bytes i) ∷ [] else [])
    c.add_if.ensures
