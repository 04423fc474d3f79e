-- What the last beat of a reply adds.
use Rattle.std.proofs.Common.{List, [], ◌∷◌, ◌++◌, true, false, subst}
use Rattle.std.specs.Prelude.{OnOk, if◌then◌else◌}
use Rattle.check_bins.specs.declared.bin.Bin.{Bin}
use Rattle.check_bins.specs.declared.bin.Bin.TheVariants as bin
use Rattle.check_bins.specs.declared.bin.CountedChannel.TheVariants as channel
use Rattle.check_coverage.specs.Bins.{overtook_at, overtook_bins, refused_bins}
use Rattle.check_bins.specs.Counting.{Adds}
use Rattle.check_coverage.proofs.Adding.{adds_two}
use Rattle.check_bins.proofs.Counted.{adds_ok, adds_then}
use Rattle.check_coverage.proofs.coverage.count_reply.Goals as goal

pub returns : goal.returns
returns c = λ before this is is_this.
    let answered : Bin = bin.Answered c.pair.result c.operation.result c.args.beat.now.denied in
    let beats : Bin = bin.Beats c.pair-2.result channel.D c.beat_count_on_bus-beats.result in
    let overtook : List Bin = overtook_bins before this in
    let refused : List Bin = refused_bins c.args.beat.now.denied this in
    let rest : List Bin = overtook ++ refused in
    let last : OnOk c.add_if.result (Adds c.count_overtaken-2.new.counts c.add_if.new.self refused) =
    subst (λ (l : List Bin). OnOk c.add_if.result (Adds c.count_overtaken-2.new.counts c.add_if.new.self l))
    (λ i. if c.args.beat.now.denied then bin.Refused (is_this i).port (c.cause.ensures this is_this i) ∷ [] else [])
    c.add_if.ensures in
    subst (λ (l : List Bin). OnOk c.add_if.result (Adds c.args.counts.now c.add_if.new.self l))
    (λ i. bin.Answered (c.pair.ensures this is_this i) (c.operation.ensures this is_this i) c.args.beat.now.denied
    ∷ bin.Beats (c.pair-2.ensures this is_this i) channel.D (c.beat_count_on_bus-beats.ensures.value i) ∷ rest)
    (adds_two c.args.counts.now c.add.new.self c.add-2.new.self c.add_if.new.self answered beats rest
    c.add_if.result c.in_ok-add.ensures c.in_ok-add-2.ensures
    (adds_ok c.add-2.new.self c.count_overtaken-2.new.counts c.add_if.new.self overtook refused c.add_if.result
    (adds_then c.add-2.new.self c.count_overtaken.new.counts c.count_overtaken-2.new.counts (overtook_at false before this)
    (overtook_at true before this) (c.in_ok-count_overtaken.ensures before this is is_this)
    (c.in_ok-count_overtaken-2.ensures before this is is_this))
    last))
