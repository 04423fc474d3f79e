-- What the last beat of a request adds.
use Rattle.std.proofs.Common.{◌++◌, List, ◌∷◌, subst}
use Rattle.std.specs.Prelude.{OnOk}
use Rattle.check_beats.specs.Bus.{bus_bytes}
use Rattle.check_bins.specs.declared.bin.Bin.{Bin}
use Rattle.check_bins.specs.declared.bin.Bin.TheVariants as bin
use Rattle.check_bins.specs.declared.bin.CountedChannel.TheVariants as channel
use Rattle.check_coverage.specs.declared.flight.CountedFlight.{CountedFlight}
use Rattle.check_coverage.specs.Bins.{contested_bins, lane_bins, mask_bins, place_bins}
use Rattle.check_bins.specs.Counting.{Adds}
use Rattle.check_coverage.proofs.Adding.{adds_two}
use Rattle.check_bins.proofs.Counted.{adds_ok}
use Rattle.check_coverage.proofs.coverage.count_ask.Goals as goal

pub returns : goal.returns
returns c = λ plan after this has is is_this.
    let asked : Bin = bin.Asked c.pair.result c.operation.result c.args.flight.now.is_unaligned in
    let beats : Bin = bin.Beats c.pair-2.result channel.A c.beat_count_on_bus-beats.result in
    let contested : List Bin = contested_bins plan after this in
    let place : List Bin = place_bins this.port this.place in
    let lane : List Bin = lane_bins (bus_bytes c.args.bus) this in
    let rest : List Bin = mask_bins this ++ (contested ++ (place ++ lane)) in
    subst (λ (l : List Bin). OnOk c.count_lane.result (Adds c.args.counts.now c.count_lane.new.counts l))
    (λ i. bin.Asked (c.pair.ensures this is_this i) (c.operation.ensures this is_this i) (is_this i).is_unaligned
    ∷ bin.Beats (c.pair-2.ensures this is_this i) channel.A (c.beat_count_on_bus-beats.ensures.value i) ∷ rest)
    (adds_two c.args.counts.now c.add.new.self c.add-2.new.self c.count_lane.new.counts asked beats rest
    c.count_lane.result c.in_ok-add.ensures c.in_ok-add-2.ensures
    (adds_ok c.add-2.new.self c.count_mask.new.counts c.count_lane.new.counts (mask_bins this)
    (contested ++ (place ++ lane)) c.count_lane.result (c.in_ok-count_mask.ensures this is_this)
    (adds_ok c.count_mask.new.counts c.count_contested.new.counts c.count_lane.new.counts contested (place ++ lane)
    c.count_lane.result (c.in_ok-count_contested.ensures plan after this has is is_this)
    (adds_ok c.count_contested.new.counts c.count_place.new.counts c.count_lane.new.counts place lane c.count_lane.result
    (subst (λ (f : CountedFlight). Adds c.count_contested.new.counts c.count_place.new.counts (place_bins f.port f.place))
    is_this c.in_ok-count_place.ensures)
    (c.count_lane.ensures this is_this)))))
