-- The bytes of a reply, taken from the lanes of its beats.
use Rattle.std.proofs.Common.{◌≡◌, ◌∙◌, ℕ, suc, zero, ◌+◌, ◌/◌, ◌%◌, ◌^◌, ◌<◌, ◌≤◌, Bool, true, false, if◌then◌else◌, List, length, take, drop, replicate, Some, slice_get, slice_index, ap, sym, arith, length-drop}
use Rattle.std.specs.Prelude.{IsTrue}
use Rattle.std.proofs.lemmas.List.{length-take, length-replicate, get_or-replicate}
use Rattle.std.proofs.lemmas.Option.{slice_get_within, get_or_from_slice_get}
use Rattle.tl_types.proofs.Lists.{slice_get-take, slice_get-drop}
use Rattle.tl_types.specs.Operation.{reply_carries_bytes, reply_byte_count}
use Rattle.tl_types.specs.declared.operation.ReplyOp.{ReplyOp}
use Rattle.tl_beats.specs.Beats.{low, lane_of}
use Rattle.tl_beats.specs.Reading.{AreLanesOf, AreReplyBytesOf, StandsInReply}
use Rattle.tl_beats.specs.declared.beat.DBeat.{DBeat}
use Rattle.tl_beats.proofs.Places.{first_fits, low-wide}

-- an element of the front of a list is that of the list
taken : (n : ℕ) (xs : List ℕ) (j x : ℕ) → slice_get (take n xs) j ≡ Some x → slice_get xs j ≡ Some x
taken n xs j x at =
    let within : j < length (take n xs) = slice_get_within (take n xs) j x at in
    sym (slice_get-take n xs j (omega (arith, within, length-take n xs))) ∙ at

-- a byte of a message that fills the bus stands at its own place
lane_in_wide : (address size j : ℕ) → 8 ≤ 2 ^ size → lane_of address size j ≡ j % 8
lane_in_wide address zero j wide = absurd (omega (arith, wide))
lane_in_wide address (suc zero) j wide = absurd (omega (arith, wide))
lane_in_wide address (suc (suc zero)) j wide = absurd (omega (arith, wide))
lane_in_wide address (suc (suc (suc n))) j wide = omega (arith, low-wide address n)

-- a byte of a message of one beat stands so far past the first lane
lane_in_narrow : (address size j : ℕ) → j < 2 ^ size → 2 ^ size ≤ 8 → lane_of address size j ≡ low address size % 8 + j
lane_in_narrow address size j below narrow = omega (arith, below, narrow, first_fits address size)

carries_all : (carries : Bool) (size : ℕ) → 8 ≤ (if carries then 2 ^ size else 0) → 8 ≤ 2 ^ size
carries_all true size wide = wide
carries_all false size wide = absurd (omega (arith, wide))

carries_within : (carries : Bool) (size j : ℕ) → j < (if carries then 2 ^ size else 0)
    → (if carries then 2 ^ size else 0) ≤ 8 → (j < 2 ^ size) × (2 ^ size ≤ 8)
carries_within true size j below narrow = (below, narrow)
carries_within false size j below narrow = absurd (omega (arith, below))

stands_given : (denied : Bool) (lanes : List ℕ) (lane byte : ℕ) → denied ≡ false → slice_index lanes lane ≡ byte
    → StandsInReply denied lanes lane byte
stands_given denied lanes lane byte not_denied is =
    record { given = λ _. is; zero_of_denied = λ yes. let no : true ≡ false = sym yes ∙ not_denied in absurd (cc) }

-- the bytes of a reply that fills the bus are the lanes of its beats
pub wide_bytes : (beats : List DBeat) (first : DBeat) (op : ReplyOp) (address : ℕ) (lanes : List ℕ)
    → first.denied ≡ false → 8 ≤ reply_byte_count op first.size → reply_byte_count op first.size ≤ length lanes
    → AreLanesOf beats lanes → AreReplyBytesOf beats first op address (take (reply_byte_count op first.size) lanes)
wide_bytes beats first op address lanes not_denied wide room are =
    let count = reply_byte_count op first.size in
    record {
      counted = omega (arith, length-take count lanes, room);
      each = λ j byte beat at found.
          let here : slice_index lanes j ≡ byte = get_or_from_slice_get lanes j byte 0 (taken count lanes j byte at) in
          let lane : lane_of address first.size j ≡ j % 8 =
          lane_in_wide address first.size j (carries_all (reply_carries_bytes op) first.size wide) in
          stands_given first.denied beat.lanes (lane_of address first.size j) byte not_denied
          (ap (λ l. slice_index beat.lanes l) lane ∙ sym (are j beat found) ∙ here);
    }

-- the bytes of a reply of a word at most are some lanes of its one beat
pub narrow_bytes : (beats : List DBeat) (first : DBeat) (op : ReplyOp) (address lane : ℕ)
    → slice_get beats 0 ≡ Some first → length first.lanes ≡ 8 → first.denied ≡ false
    → reply_byte_count op first.size ≤ 8 → lane ≡ low address first.size % 8 → lane + reply_byte_count op first.size ≤ 8
    → AreReplyBytesOf beats first op address (take (reply_byte_count op first.size) (drop lane first.lanes))
narrow_bytes beats first op address lane head eight not_denied narrow lane_is in_bus =
    let count = reply_byte_count op first.size in
    let part = take count (drop lane first.lanes) in
    let counted : length part ≡ count =
    omega (arith, length-take count (drop lane first.lanes), length-drop lane first.lanes, eight, in_bus) in
    record {
      counted = counted;
      each = λ j byte beat at found.
          let below : j < count = rw (← counted) (slice_get_within part j byte at) in
          let there = carries_within (reply_carries_bytes op) first.size j below narrow in
          let in_first : slice_get first.lanes (lane + j) ≡ Some byte =
          sym (slice_get-drop lane first.lanes j) ∙ taken count (drop lane first.lanes) j byte at in
          let here : slice_index first.lanes (lane + j) ≡ byte =
          get_or_from_slice_get first.lanes (lane + j) byte 0 in_first in
          let place : lane_of address first.size j ≡ lane + j =
          lane_in_narrow address first.size j there.0 there.1 ∙ ap (λ l. l + j) (sym lane_is) in
          let beat_zero : j / 8 ≡ 0 = omega (arith, below, narrow) in
          let found_first : slice_get beats 0 ≡ Some beat = ap (λ k. slice_get beats k) (sym beat_zero) ∙ found in
          let same : first ≡ beat = cc in
          stands_given first.denied beat.lanes (lane_of address first.size j) byte not_denied
          (ap (λ (x : DBeat). slice_index x.lanes (lane_of address first.size j)) (sym same)
          ∙ ap (λ l. slice_index first.lanes l) place ∙ here);
    }

-- the bytes of a denied reply are zero
pub denied_bytes : (beats : List DBeat) (first : DBeat) (op : ReplyOp) (address room : ℕ) → IsTrue first.denied
    → reply_byte_count op first.size ≤ room → AreReplyBytesOf beats first op address
    (take (reply_byte_count op first.size) (replicate room 0))
denied_bytes beats first op address room denied fits =
    let count = reply_byte_count op first.size in
    let zeros : List ℕ = replicate room 0 in
    let long : length zeros ≡ room = length-replicate room 0 in
    record {
      counted = omega (arith, length-take count zeros, long, fits);
      each = λ j byte beat at found.
          let there : slice_get zeros j ≡ Some byte = taken count zeros j byte at in
          let within : j < room = rw (← long) (slice_get_within zeros j byte there) in
          let zero_is : byte ≡ 0 =
          sym (get_or_from_slice_get zeros j byte 0 there) ∙ get_or-replicate room j 0 0 within in
          record {
            given = λ no. let yes : true ≡ false = sym denied ∙ no in absurd (cc);
            zero_of_denied = λ _. zero_is;
          };
    }
