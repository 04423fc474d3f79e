-- Masks of whole words: all bytes of words known, and words that are marked or put.
use Rattle.std.proofs.Common.{◌≡◌, ◌∙◌, ⊎_elim, ℕ, ◌+◌, ◌*◌, ◌/◌, ◌%◌, ◌<◌, ◌≤◌, Bool, true, List, [], ◌∷◌, length, take, drop, set, get_or, Some, refl, sym, ap, arith}
use Rattle.std.specs.Prelude.{All}
use Rattle.std.specs.Int.{bit_at}
use Rattle.std.proofs.lemmas.Bool.{cases_lt}
use Rattle.std.proofs.lemmas.Nat.Bits.{bit_at_above, same_from_bits}
use Rattle.std.proofs.lemmas.List.{length-map, length-take-le, length-drop}
use Rattle.std.proofs.lemmas.List.Elements.{All-get_or, All-from_get_or}
use Rattle.tl_types.specs.Bytes.{bit_in}
use Rattle.tl_types.proofs.Given.{bit_in-set_here, bit_in-word}
use Rattle.tl_ops.specs.Store.{with_window}
use Rattle.tl_ops.specs.Window.{merged}
use Rattle.check_cells.proofs.Lanes.{ones_bit}
use Rattle.check_memory.specs.Known.{known}
use Rattle.check_memory.specs.Place.{known_bit}

abbrev pub IsFull : ℕ → Type 0
IsFull mask = mask ≡ 255

pub full_bits : (masks : List ℕ) → All IsFull masks → (place : ℕ) → place < 8 * length masks → bit_in masks place ≡ 1
unfolding bit_in
full_bits masks full place below =
    let is : get_or masks (place / 8) 0 ≡ 255 = All-get_or IsFull masks (place / 8) 0 (omega (arith, below)) full in
    ap (λ mask. bit_at mask (place % 8)) is ∙ ones_bit true (place % 8) (omega arith)

pub full_from_bits : (masks : List ℕ) → ((i : ℕ) → get_or masks i 0 < 256)
    → ((place : ℕ) → place < 8 * length masks → bit_in masks place ≡ 1) → All IsFull masks
full_from_bits masks small set_all = All-from_get_or IsFull masks 0 full
  where
    bits : (i : ℕ) → i < length masks → (k : ℕ) → bit_at (get_or masks i 0) k ≡ bit_at 255 k
    bits i within k = ⊎_elim
        (λ (below : k < 8). sym (bit_in-word masks i k below) ∙ set_all (8 * i + k) (omega (arith, within, below))
        ∙ sym (ones_bit true k below))
        (λ above. bit_at_above (get_or masks i 0) 8 k (small i) above ∙ sym (bit_at_above 255 8 k (omega arith) above))
        (cases_lt k 8)

    full : (i : ℕ) → i < length masks → get_or masks i 0 ≡ 255
    full i within = same_from_bits (get_or masks i 0) 255 (bits i within)

pub marked_here : (masks : List ℕ) (word mask : ℕ) (shows : Bool) (place : ℕ) → word < length masks
    → mask ≡ 255 * known_bit shows → place / 8 ≡ word → bit_in (set masks word mask) place ≡ known_bit shows
marked_here masks word mask shows place within is here =
    bit_in-set_here masks word mask place within here ∙ ap (λ m. bit_at m (place % 8)) is
    ∙ ones_bit shows (place % 8) (omega arith)

-- bytes that are all given are what a put leaves
merged-known : (old new : List ℕ) → length new ≡ length old → merged old (known new) ≡ new
merged-known [] [] paired = refl
merged-known [] (byte ∷ new) paired = absurd (omega (arith, paired))
merged-known (was ∷ old) [] paired = absurd (omega (arith, paired))
merged-known (was ∷ old) (byte ∷ new) paired = ap (λ bytes. byte ∷ bytes) (merged-known old new (omega (arith, paired)))

pub put-known : (lanes : List ℕ) (start : ℕ) (new : List ℕ) → start + length new ≤ length lanes
    → with_window lanes start (merged (take (length (known new)) (drop start lanes)) (known new))
    ≡ with_window lanes start new
put-known lanes start new inside =
    let long : length (known new) ≡ length new = length-map new (λ byte. Some byte) in
    let wide : length (take (length new) (drop start lanes)) ≡ length new =
    length-take-le (length new) (drop start lanes) (omega (arith, inside, length-drop start lanes)) in
    ap (λ n. with_window lanes start (merged (take n (drop start lanes)) (known new))) long
    ∙ ap (with_window lanes start) (merged-known (take (length new) (drop start lanes)) new (sym wide))
