-- A beat of a request: its mask and its lanes, place by place.
use Rattle.std.proofs.Common.{◌≡◌, ◌∙◌, ℕ, ◌+◌, ◌-◌, ◌*◌, ◌/◌, ◌%◌, ◌^◌, ◌<◌, ◌≤◌, ◌⊎◌, inl, inr, min, max, List, length, take, drop, Option, Some, None, slice_get, slice_index, unwrap_or, ap, sym, refl, arith, lit≤}
use Rattle.std.specs.Prelude.{option_map}
use Rattle.std.specs.Int.{bit_at}
use Rattle.std.proofs.Math.Nat.{pow-le-pow_right}
use Rattle.std.proofs.lemmas.Bool.{cases_lt}
use Rattle.std.proofs.lemmas.Nat.{pow_pos}
use Rattle.std.proofs.lemmas.Nat.Bits.{bit_at-zero, bit_at_cat_low, bit_at_cat_high}
use Rattle.std.proofs.lemmas.Option.{slice_get-map, unwrap_or-slice_get}
use Rattle.std.proofs.lemmas.List.{length-map}
use Rattle.tl_types.specs.Request.{Request}
use Rattle.tl_types.specs.Bytes.{mask_bit, plain_of, IsMaskOf}
use Rattle.tl_beats.specs.Beats.{low}
use Rattle.tl_beats.specs.Packing.{byte_at_place, plain_at_place}
use Rattle.tl_beats.proofs.Spelling.{byte_at_place-first, byte_at_place-before}
use Rattle.tl_beats.proofs.ReplySpelling.{plain_at_place-first, plain_at_place-before, plain_at_place-word}
use Rattle.tl_beats.proofs.Words.{first_or_only, starts_within}

-- a beat of a message is one of its words
pub word_within : (size b : ℕ) → size ≤ 8 → b < max 1 (2 ^ size / 8) → 8 * b < 256
word_within size b in_limit beat = let most : 2 ^ size ≤ 2 ^ 8 = pow-le-pow_right (lit≤ tt) in_limit in
    omega (arith, most, beat)

-- the plain byte at a place is the byte there, or zero
plain_byte : (bytes : List (Option ℕ)) (i : ℕ)
    → slice_index (plain_of bytes) i ≡ unwrap_or (unwrap_or (slice_get bytes i) None) 0
plain_byte bytes i = sym (unwrap_or-slice_get (plain_of bytes) i 0)
    ∙ ap (λ o. unwrap_or o 0) (slice_get-map (λ byte. unwrap_or byte 0) bytes i) ∙ at (slice_get bytes i)
  where
    at : (o : Option (Option ℕ)) → unwrap_or (option_map (λ byte. unwrap_or byte 0) o) 0 ≡ unwrap_or
        (unwrap_or o None) 0
    at None = refl
    at (Some byte) = refl

pub plain_at_place-given : (bytes : List (Option ℕ)) (first place : ℕ)
    → plain_at_place (plain_of bytes) first place ≡ unwrap_or (byte_at_place bytes first place) 0
plain_at_place-given bytes first place = go (cases_lt place first)
  where
    go : (place < first) ⊎ (first ≤ place) → plain_at_place (plain_of bytes) first place ≡ unwrap_or
        (byte_at_place bytes first place) 0
    go (inl below) = plain_at_place-before (plain_of bytes) first place below
        ∙ sym (ap (λ o. unwrap_or o 0) (byte_at_place-before bytes first place below))
    go (inr above) =
        plain_at_place-first (plain_of bytes) first (place - first) place (omega (arith, above))
        ∙ plain_byte bytes (place - first) ∙ sym
        (ap (λ o. unwrap_or o 0) (byte_at_place-first bytes first (place - first) place (omega (arith, above))))

-- a bit of a mask that is moved to the first lane
low_bit : (n k : ℕ) → k < 8 → bit_at (n % 256) k ≡ bit_at n k
low_bit n k in_bus = let parts : n / 256 * 2 ^ 8 + n % 256 ≡ n = omega arith in
    sym (bit_at_cat_low (n / 256) 8 (n % 256) k in_bus) ∙ ap (λ m. bit_at m k) parts

moved_below : (mask first k : ℕ) → k < 8 → k < first → bit_at (mask * 2 ^ first % 256) k ≡ 0
moved_below mask first k in_bus below =
    let e : mask * 2 ^ first ≡ mask * 2 ^ first + 0 = omega arith in
    low_bit (mask * 2 ^ first) k in_bus ∙ ap (λ m. bit_at m k) e ∙ bit_at_cat_low mask first 0 k below ∙ bit_at-zero k

moved_above : (mask first k : ℕ) → k < 8 → first ≤ k → bit_at (mask * 2 ^ first % 256) k ≡ bit_at mask (k - first)
moved_above mask first k in_bus above =
    let e : mask * 2 ^ first ≡ mask * 2 ^ first + 0 = omega arith in
    low_bit (mask * 2 ^ first) k in_bus ∙ ap (λ m. bit_at m k) e ∙ bit_at_cat_high mask first 0 k (pow_pos first) above

-- the mask of a word, moved to the first lane, has a bit just where a byte stands
masked : (bytes : List (Option ℕ)) (first b mask : ℕ) → (first ≡ 0) ⊎ (b ≡ 0) → IsMaskOf bytes b mask → (k : ℕ) → k < 8
    → bit_at (mask * 2 ^ first % 256) k ≡ mask_bit (byte_at_place bytes first (8 * b + k))
masked bytes first b mask aligned is k in_bus = go aligned (cases_lt k first)
  where
    go : (first ≡ 0) ⊎ (b ≡ 0) → (k < first) ⊎ (first ≤ k)
        → bit_at (mask * 2 ^ first % 256) k ≡ mask_bit (byte_at_place bytes first (8 * b + k))
    go (inl at_zero) (inl below) = absurd (omega (arith, at_zero, below))
    go (inr only) (inl below) =
        moved_below mask first k in_bus below ∙ sym
        (ap mask_bit (byte_at_place-before bytes first (8 * b + k) (omega (arith, only, below))))
    go _ (inr above) =
        moved_above mask first k in_bus above ∙ is (k - first) (omega (arith, in_bus))
        ∙ sym (ap mask_bit (byte_at_place-first bytes first (8 * b + (k - first)) (8 * b + k)
        (omega (arith, above))))

-- a mask and lanes have what stands in beat b of a request
pub record IsPlaced (ask : Request) (b mask : ℕ) (lanes : List ℕ) : Type 0 where
  pub masked : (k : ℕ) → k < 8 → bit_at mask k ≡ mask_bit
      (byte_at_place ask.bytes (low ask.address ask.size % 8) (8 * b + k))
  pub filled : (k : ℕ) → k < 8 → slice_index lanes k ≡ unwrap_or
      (byte_at_place ask.bytes (low ask.address ask.size % 8) (8 * b + k)) 0

pub placed : (ask : Request) (b first mask n : ℕ) (plain lanes : List ℕ) → length ask.bytes ≡ 2 ^ ask.size
    → b < max 1 (2 ^ ask.size / 8) → first ≡ low ask.address ask.size % 8 → plain ≡ plain_of ask.bytes
    → n ≡ min (length plain) (8 * b + 8) - 8 * b → IsMaskOf ask.bytes b mask
    → ((k : ℕ) → k < 8 → slice_index lanes k ≡ plain_at_place (take n (drop (8 * b) plain)) first k)
    → IsPlaced ask b (mask * 2 ^ first % 256) lanes
placed ask b first mask n plain lanes counted beat lane plain_is end is stands =
    let at = low ask.address ask.size % 8 in
    let aligned = first_or_only ask.address ask.size b beat in
    let total : length plain ≡ 2 ^ ask.size =
    ap length plain_is ∙ length-map ask.bytes (λ byte. unwrap_or byte 0) ∙ counted in
    let starts : 8 * b ≤ length plain = omega (arith, total, starts_within ask.size b beat) in
    record {
      masked = λ k in_bus. ap (λ f. bit_at (mask * 2 ^ f % 256) k) lane
          ∙ masked ask.bytes at b mask aligned is k in_bus;
      filled = λ k in_bus. stands k in_bus ∙ ap (λ f. plain_at_place (take n (drop (8 * b) plain)) f k) lane
          ∙ plain_at_place-word plain at b n k aligned end starts in_bus
          ∙ ap (λ bs. plain_at_place bs at (8 * b + k)) plain_is ∙ plain_at_place-given ask.bytes at (8 * b + k);
    }

-- a lane that is not set is zero
pub none_of_clear : (given : Option ℕ) → mask_bit given ≡ 0 → unwrap_or given 0 ≡ 0
none_of_clear None clear = refl
none_of_clear (Some byte) clear = absurd (omega (arith, clear))
