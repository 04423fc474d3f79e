use Rattle.std.proofs.Common.{◌≡◌, ◌∙◌, ap, ℕ, ◌+◌, length, slice_index, Option, rules, arith}
use Rattle.std.specs.Int.{bit_at}
use Rattle.std.proofs.lemmas.Nat.Bits.{bit_at_ones}
use Rattle.tl_beats.specs.Beats.{StandsAt}
use Rattle.tl_beats.proofs.Gaining.{gains_none, gains_push}
use Rattle.tl_beats.proofs.Whole.{gains_whole}
use Rattle.tl_beats.proofs.ask_assemble.push_lanes.Goals as goal

pub loop-k-init : goal.loop-k-init
loop-k-init c = gains_none _ c.args.bytes.now

pub loop-k-preserved : goal.loop-k-preserved
loop-k-preserved c =
    let P : ℕ → Option ℕ → Type 0 =
    λ k given. StandsAt c.args.beat.now.mask c.args.beat.now.lanes (c.args.first + k) given in
    rw c.push.ensures (gains_push P c.loop-k.k c.args.bytes.now c.loop-k.bytes c.byte_at.result c.loop-k.invariant c.byte_at.ensures)

-- lanes that are all set are appended at once
pub returns-then-beat : goal.returns-then-beat
returns-then-beat c =
    let beat = c.args.beat.now in
    let first = c.args.first in
    let count = c.args.count in
    let wide : length beat.lanes ≡ 8 = search rules in
    let whole : count ≡ 8 = search rules in
    let set : beat.mask ≡ 255 = search rules in
    let from_lane_zero : first ≡ 0 = omega arith in
    let counted : length beat.lanes ≡ count = omega (arith, wide, whole) in
    rw c.push_given.ensures (gains_whole beat first count c.args.bytes.now beat.lanes counted
    (λ k h. ap (λ m. bit_at m (first + k)) set
    ∙ bit_at_ones 8 (first + k) (omega (arith, h, whole, from_lane_zero))) (λ k h.
    let lane : k ≡ first + k = omega (arith, from_lane_zero) in
    ap (λ l. slice_index beat.lanes l) lane))
