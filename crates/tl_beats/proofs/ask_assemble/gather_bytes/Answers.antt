use Rattle.std.proofs.Common.{rules, arith, ◌≡◌, ◌%◌, min}
use Rattle.tl_types.specs.Operation.{carries_bytes, byte_count}
use Rattle.tl_beats.specs.Beats.{low}
use Rattle.tl_beats.proofs.Places.{first_fits, bytes_of_size}
use Rattle.tl_beats.proofs.Reading.{bytes_none, bytes_more, bytes_all}
use Rattle.tl_beats.proofs.ask_assemble.gather_bytes.Goals as goal

pub loop-beat-init : goal.loop-beat-init
loop-beat-init c = rw c.requires.none (bytes_none c.args.beats.now c.args.first.now c.args.op)

-- a beat has no more bytes than lanes from the first one on
pub push_lanes-requires-clause-in_bus : goal.push_lanes-requires-clause-in_bus
push_lanes-requires-clause-in_bus c =
    let first = c.args.first.now in
    let lane : c.first_lane-lane.result ≡ low first.address first.size % 8 = search rules in
    let count : c.min-count.result ≡ min (byte_count c.args.op first.size) 8 = search rules in
    omega (arith, lane, count, first_fits first.address first.size, bytes_of_size (carries_bytes c.args.op) first.size)

pub loop-beat-preserved : goal.loop-beat-preserved
loop-beat-preserved c =
    let first = c.args.first.now in
    let lane : c.first_lane-lane.result ≡ low first.address first.size % 8 = search rules in
    let count : c.min-count.result ≡ min (byte_count c.args.op first.size) 8 = search rules in
    bytes_more c.args.beats.now first c.args.op c.loop-beat.beat-index _ c.first_lane-lane.result c.min-count.result c.loop-beat.bytes _ c.loop-beat-test.true c.requires.count c.loop-beat.invariant lane count c.push_lanes.ensures

pub returns : goal.returns
returns c = bytes_all c.args.beats.now c.args.first.now c.args.op c.loop-beat.beat-index c.loop-beat.bytes c.requires.count
    (omega arith) c.loop-beat.invariant
