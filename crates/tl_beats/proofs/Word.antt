-- The bytes of a request of one word whose lanes are all set.
use Rattle.std.proofs.Common.{◌≡◌, ◌∙◌, ℕ, ◌+◌, ◌/◌, ◌<◌, List, [], length, map, Some, slice_get, slice_index, ap, sym, subst, arith, ⊎_elim}
use Rattle.std.specs.Int.{bit_at}
use Rattle.std.proofs.lemmas.List.{length-map}
use Rattle.std.proofs.lemmas.Nat.Bits.{bit_at_ones}
use Rattle.tl_types.specs.Operation.{carries_bytes, byte_count}
use Rattle.tl_types.specs.declared.operation.AskOp.{AskOp}
use Rattle.tl_beats.specs.Beats.{lane_of, StandsAt}
use Rattle.tl_beats.specs.Reading.{GainsLanes, AreBytesOf}
use Rattle.tl_beats.specs.declared.beat.ABeat.{ABeat}
use Rattle.tl_beats.proofs.Places.{wide_first}
use Rattle.tl_beats.proofs.Whole.{gains_whole}

pub word_bytes : (beats : List ABeat) (first : ABeat) (op : AskOp) → slice_get beats 0 ≡ Some first
    → byte_count op first.size ≡ 8 → first.mask ≡ 255 → length first.lanes ≡ 8
    → AreBytesOf beats first op (map (λ byte. Some byte) first.lanes)
word_bytes beats first op head word set eight =
    let begins = wide_first (carries_bytes op) first.address first.size (omega (arith, word)) in
    let gains : GainsLanes first 0 8 [] (map (λ byte. Some byte) first.lanes) =
    gains_whole first 0 8 [] first.lanes eight
    (λ k h. ap (λ m. bit_at m (0 + k)) set ∙ bit_at_ones 8 (0 + k) (omega (arith, h)))
    (λ k h.
    let lane : k ≡ 0 + k = omega arith in
    ap (λ l. slice_index first.lanes l) lane) in
    record {
      counted = length-map first.lanes (λ byte. Some byte) ∙ eight ∙ sym word;
      each = λ j given beat at found. ⊎_elim
          (λ before. absurd (cc))
          (λ gained.
          let k = gained.0 in
          let here : j ≡ k = omega (arith, gained.1) in
          let below : k < 8 = gained.2 in
          let in_first : 0 ≡ j / 8 = omega (arith, here, below) in
          let found_first : slice_get beats 0 ≡ Some beat = ap (λ i. slice_get beats i) in_first ∙ found in
          let same : first ≡ beat = cc in
          let lane : 0 + k ≡ lane_of first.address first.size j = omega (arith, begins, here, below) in
          subst (λ (y : ABeat). StandsAt y.mask y.lanes (lane_of first.address first.size j) given) same
          (subst (λ (l : ℕ). StandsAt first.mask first.lanes l given) lane gained.3))
          (gains.each j given at);
    }
