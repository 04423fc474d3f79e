-- A beat of a reply whose lanes are filled by places spells its part of the reply.
use Rattle.std.proofs.Common.{◌≡◌, ◌∙◌, ℕ, ◌+◌, ◌-◌, ◌*◌, ◌/◌, ◌%◌, ◌^◌, ◌<◌, ◌≤◌, ◌⊎◌, inl, inr, min, Bool, true, false, if◌then◌else◌, List, length, take, drop, Some, nat_lt, slice_get, slice_index, unwrap_or, ap, sym, refl, arith}
use Rattle.std.specs.Prelude.{All, IsTrue, ◌&&◌}
use Rattle.std.proofs.lemmas.Bool.{cases_lt}
use Rattle.std.proofs.lemmas.Bool.Decides.{nat_tests}
use Rattle.std.proofs.lemmas.Option.{slice_get_within, slice_get_past, unwrap_or-slice_get, get_or_from_slice_get}
use Rattle.tl_types.specs.Operation.{reply_carries_bytes, reply_byte_count}
use Rattle.tl_types.specs.Response.{Response}
use Rattle.tl_types.specs.declared.operation.ReplyOp.{ReplyOp}
use Rattle.tl_beats.specs.Replies.{IsLawfulFlag}
use Rattle.tl_beats.specs.Beats.{low, lane_of, beat_count, IsActive}
use Rattle.tl_beats.specs.Packing.{plain_at_place}
use Rattle.tl_beats.proofs.Places.{place_beat, place_is_active, bytes_of_size, beat_of_size}
use Rattle.tl_beats.proofs.Words.{slice_get-word}

-- nothing stands past the end
pub slice_index-past : (bytes : List ℕ) (i : ℕ) → length bytes ≤ i → slice_index bytes i ≡ 0
slice_index-past bytes i past =
    sym (unwrap_or-slice_get bytes i 0) ∙ ap (λ o. unwrap_or o 0) (slice_get_past bytes i past)

pub slice_index-word : (bytes : List ℕ) (s n k : ℕ) → n ≡ min (length bytes) (s + 8) - s → s ≤ length bytes → k < 8
    → slice_index (take n (drop s bytes)) k ≡ slice_index bytes (s + k)
slice_index-word bytes s n k e starts in_bus =
    sym (unwrap_or-slice_get (take n (drop s bytes)) k 0)
    ∙ ap (λ o. unwrap_or o 0) (slice_get-word bytes s n k e starts in_bus) ∙ unwrap_or-slice_get bytes (s + k) 0

-- byte j is at the place first + j, and none before
pub plain_at_place-first : (bytes : List ℕ) (first j place : ℕ) → place ≡ first + j
    → plain_at_place bytes first place ≡ slice_index bytes j
plain_at_place-first bytes first j place e =
    let above : nat_lt place first ≡ false = grind (arith, nat_tests) in
    let index : place - first ≡ j = omega arith in
    rw (above, index) refl

pub plain_at_place-before : (bytes : List ℕ) (first place : ℕ) → place < first → plain_at_place bytes first place ≡ 0
plain_at_place-before bytes first place h =
    let below : nat_lt place first ≡ true = grind (arith, nat_tests) in
    rw below refl

pub plain_at_place-past : (bytes : List ℕ) (first place : ℕ) → first + length bytes ≤ place
    → plain_at_place bytes first place ≡ 0
plain_at_place-past bytes first place h =
    plain_at_place-first bytes first (place - first) place (omega arith)
    ∙ slice_index-past bytes (place - first) (omega arith)

-- what stands at a lane of beat b, seen from its own bytes and from those of the reply
pub plain_at_place-word : (bytes : List ℕ) (first b n k : ℕ) → (first ≡ 0) ⊎ (b ≡ 0)
    → n ≡ min (length bytes) (8 * b + 8) - 8 * b → 8 * b ≤ length bytes → k < 8
    → plain_at_place (take n (drop (8 * b) bytes)) first k ≡ plain_at_place bytes first (8 * b + k)
plain_at_place-word bytes first b n k aligned e starts in_bus = go aligned (cases_lt k first)
  where
    go : (first ≡ 0) ⊎ (b ≡ 0) → (k < first) ⊎ (first ≤ k)
        → plain_at_place (take n (drop (8 * b) bytes)) first k ≡ plain_at_place bytes first (8 * b + k)
    go (inl at_zero) (inl below) = absurd (omega (arith, at_zero, below))
    go (inr only) (inl below) =
        plain_at_place-before (take n (drop (8 * b) bytes)) first k below
        ∙ sym (plain_at_place-before bytes first (8 * b + k) (omega (arith, only, below)))
    go _ (inr above) =
        plain_at_place-first (take n (drop (8 * b) bytes)) first (k - first) k (omega (arith, above))
        ∙ slice_index-word bytes (8 * b) n (k - first) e starts (omega (arith, in_bus))
        ∙ sym (plain_at_place-first bytes first (8 * b + (k - first)) (8 * b + k) (omega (arith, above)))

-- where all bytes are zero, each place is
pub plain_at_place-zero : (bytes : List ℕ) (first place : ℕ) → All (λ byte. byte ≡ 0) bytes
    → plain_at_place bytes first place ≡ 0
plain_at_place-zero bytes first place zero = go (cases_lt place first)
  where
    within : (i : ℕ) → (i < length bytes) ⊎ (length bytes ≤ i) → slice_index bytes i ≡ 0
    within i (inl h) = zero i 0 h
    within i (inr h) = slice_index-past bytes i h

    go : (place < first) ⊎ (first ≤ place) → plain_at_place bytes first place ≡ 0
    go (inl below) = plain_at_place-before bytes first place below
    go (inr above) = plain_at_place-first bytes first (place - first) place (omega (arith, above))
        ∙ within (place - first) (cases_lt _ _)

-- what stands at a lane of beat b that has a whole word
pub filled_wide : (bytes : List ℕ) (first b : ℕ) → first ≡ 0 → 8 * b + 8 ≤ length bytes → (k : ℕ) → k < 8
    → slice_index (take 8 (drop (8 * b) bytes)) k ≡ plain_at_place bytes first (8 * b + k)
filled_wide bytes first b at_zero within k in_bus =
    slice_index-word bytes (8 * b) 8 k (omega (arith, within)) (omega (arith, within)) in_bus
    ∙ sym (plain_at_place-first bytes first (8 * b + k) (8 * b + k) (omega (arith, at_zero)))

module _ (reply : Response) (address b : ℕ) (lanes : List ℕ)
    (counted : length reply.bytes ≡ reply_byte_count reply.op reply.size)
    (beat : b < beat_count (reply_carries_bytes reply.op) reply.size)
    (filled : (k : ℕ) → k < 8 → slice_index lanes k ≡ plain_at_place reply.bytes (low address reply.size % 8)
    (8 * b + k)) where
  no_more : length reply.bytes ≤ 2 ^ reply.size
  no_more = omega (arith, counted, bytes_of_size (reply_carries_bytes reply.op) reply.size)

  -- each byte of beat b stands where it is to stand
  pub reply_bytes_stand : (j byte : ℕ) → slice_get reply.bytes j ≡ Some byte → j / 8 ≡ b
      → slice_index lanes (lane_of address reply.size j) ≡ byte
  reply_bytes_stand j byte at in_beat =
      let within : j < length reply.bytes = slice_get_within reply.bytes j byte at in
      let first = low address reply.size % 8 in
      let lane = lane_of address reply.size j in
      let same_beat : (first + j) / 8 ≡ j / 8 = place_beat address reply.size j (omega (arith, within, no_more)) in
      let place : 8 * b + lane ≡ first + j = omega arith in
      filled lane (omega arith) ∙ plain_at_place-first reply.bytes first j (8 * b + lane) place
      ∙ get_or_from_slice_get reply.bytes j byte 0 at

  -- no byte stands at a lane that is not active
  pub reply_idle : (k : ℕ) → k < 8 → (IsActive address reply.size k → ⊥) → slice_index lanes k ≡ 0
  reply_idle k in_bus idle = filled k in_bus ∙ go (cases_lt _ _) (cases_lt _ _)
    where
      go : (8 * b + k < low address reply.size % 8) ⊎ (low address reply.size % 8 ≤ 8 * b + k)
          → (8 * b + k < low address reply.size % 8 + length reply.bytes)
          ⊎ (low address reply.size % 8 + length reply.bytes ≤ 8 * b + k)
          → plain_at_place reply.bytes (low address reply.size % 8) (8 * b + k) ≡ 0
      go (inl before) _ = plain_at_place-before reply.bytes _ _ before
      go (inr above) (inr past) = plain_at_place-past reply.bytes _ _ past
      go (inr above) (inl below) =
          let active = place_is_active address reply.size b k in_bus
          (beat_of_size (reply_carries_bytes reply.op) reply.size b beat) above (omega (arith, below, no_more)) in
          absurd (idle record { above = active.0; below = active.1 })

  -- none stands in a reply that carries no bytes
  pub reply_empty : reply_carries_bytes reply.op ≡ false → (k : ℕ) → k < 8 → slice_index lanes k ≡ 0
  reply_empty none k in_bus =
      let no_byte : length reply.bytes ≡ 0 = counted ∙ ap (λ carries. if carries then 2 ^ reply.size else 0) none in
      filled k in_bus ∙ plain_at_place-zero reply.bytes _ _ (λ i byte at. absurd (omega (arith, at, no_byte)))

both : (a b : Bool) → IsTrue (a && b) → IsTrue a × IsTrue b
both true true h = (refl, refl)
both true false h = absurd (cc)
both false true h = absurd (cc)
both false false h = absurd (cc)

-- the mark of packing is a lawful flag
pub flag_of_marked : (op : ReplyOp) (denied corrupt : Bool) → corrupt ≡ (reply_carries_bytes op && denied)
    → IsLawfulFlag op denied corrupt
flag_of_marked op denied corrupt marked = record {
  carries = λ set. (both (reply_carries_bytes op) denied (sym marked ∙ set)).0;
  of_denied = λ set. (both (reply_carries_bytes op) denied (sym marked ∙ set)).1;
}
