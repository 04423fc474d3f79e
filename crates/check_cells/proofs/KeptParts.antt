-- Parts of messages that are kept, byte by byte and as numbers.
use Rattle.std.proofs.Common.{◌≡◌, ◌∙◌, ◌↔◌, ⊎_elim, ℕ, ◌+◌, ◌-◌, ◌*◌, ◌/◌, ◌%◌, ◌^◌, ◌<◌, ◌≤◌, true, nat_eq, List, length, take, drop, get_or, slice_get, Option, Some, None, sym, ap, arith, rules}
use Rattle.std.specs.Int.{bit_at}
use Rattle.std.proofs.Math.Seq.{take-add}
use Rattle.std.proofs.lemmas.List.{ext_get_or, get_or-take, get_or-drop, get_or-map, drop-take, take_at, length-take-le, length-drop, get_or_past}
use Rattle.std.proofs.lemmas.Bool.{cases_lt}
use Rattle.std.proofs.lemmas.Nat.Bits.{bit_at_ones}
use Rattle.std.proofs.lemmas.Option.{get_or_from_slice_get}
use Rattle.tl_types.specs.Bytes.{bit_in, given_in}
use Rattle.tl_types.proofs.Given.{given_in-all, length-given_in}
use Rattle.tl_ops.specs.Cell.{lanes_of, cell_of}
use Rattle.tl_ops.specs.Number.{number, low_bytes}
use Rattle.tl_ops.proofs.Bytes.{length-low_bytes, number-low_bytes}
use Rattle.tl_ops.proofs.LaneLists.{length-lanes_of, cell_read}
use Rattle.check_cells.specs.Known.{IsBelow, IsKeptIn, known}
use Rattle.check_cells.proofs.Written.{cell_shown}

-- ---- places

-- two parts next to one another
pub kept_join : (less more : List (Option ℕ)) (from mid to : ℕ) → IsKeptIn less more from mid
    → IsKeptIn less more mid to → IsKeptIn less more from to
kept_join less more from mid to first second place byte above below is =
    ⊎_elim (λ lower. first place byte above lower is) (λ upper. second place byte upper below is) (cases_lt place mid)

-- a place more
pub kept_more : (less more : List (Option ℕ)) (from n next : ℕ) (a b : Option ℕ) → next ≡ n + 1
    → slice_get less n ≡ Some a → slice_get more n ≡ Some b → ((byte : ℕ) → a ≡ Some byte → b ≡ Some byte)
    → IsKeptIn less more from n → IsKeptIn less more from next
kept_more less more from n next a b follows here there keeps before = kept_join less more from n next before
    (λ place byte above below is.
    let at : n ≡ place = omega (arith, above, below, follows) in
    let was : a ≡ Some byte =
    sym (get_or_from_slice_get less n a None here) ∙ ap (λ k. get_or less k None) at ∙ is in
    ap (λ k. get_or more k None) (sym at) ∙ get_or_from_slice_get more n b None there ∙ keeps byte was)

-- a byte that is not kept
pub not_kept : (less more : List (Option ℕ)) (from to place : ℕ) (a b : Option ℕ) → from ≤ place → place < to
    → slice_get less place ≡ Some a → slice_get more place ≡ Some b
    → (((byte : ℕ) → a ≡ Some byte → b ≡ Some byte) → ⊥) → IsKeptIn less more from to → ⊥
not_kept less more from to place a b above below here there lost kept =
    lost (λ byte is. sym (get_or_from_slice_get more place b None there)
    ∙ kept place byte above below (get_or_from_slice_get less place a None here ∙ is))

-- all places
pub below_from_kept : (less more : List (Option ℕ)) (n : ℕ) → length less ≡ n → length more ≡ n
    → IsKeptIn less more 0 n → IsBelow less more
below_from_kept less more n long long' kept = record {
  counted = long' ∙ sym long;
  kept = λ place byte is. ⊎_elim
      (λ below. kept place byte (omega arith) below is)
      (λ past. absurd (lost byte (sym (get_or_past less place None (omega (arith, past, long))) ∙ is)))
      (cases_lt place n);
}
  where
    lost : (byte : ℕ) → None ≡ Some byte → ⊥
    lost byte is = cc

pub kept_from_below : (less more : List (Option ℕ)) (from to : ℕ) → IsBelow less more → IsKeptIn less more from to
kept_from_below less more from to below place byte above under is = below.kept place byte is

-- ---- numbers

-- the bytes of a part that is known
pub part_known : (words masks : List ℕ) (len start width mask : ℕ) (now : List (Option ℕ))
    → take len (given_in (bit_in masks) (lanes_of words)) ≡ now → start / 8 < length words
    → start % 8 + width ≤ 8 → start + width ≤ len → mask ≡ 2 ^ width - 1
    → ((k : ℕ) → k < width → bit_at mask k ≡ bit_in masks (start + k))
    → take width (drop start now) ≡ known (low_bytes width (cell_of (get_or words (start / 8) 0) (start % 8) width))
part_known words masks len start width mask now is within in_word inside ones bits =
    let lanes = lanes_of words in
    let cells = given_in (bit_in masks) lanes in
    let cell = cell_of (get_or words (start / 8) 0) (start % 8) width in
    let spare = len - (start + width) in
    let room : start + (width + spare) ≡ len = omega (arith, inside) in
    let rest = drop start cells in
    let wide : length (take width rest) ≡ width = length-take-le width rest
    (omega (
      arith,
      length-drop start cells,
      length-given_in (bit_in masks) lanes,
      length-lanes_of words,
      within,
      in_word,
    )) in
    ap (λ l. take width (drop start l)) (sym is)
    ∙ ap (λ n. take width (drop start (take n cells))) (sym room)
    ∙ ap (take width) (drop-take start (width + spare) cells ∙ take-add width spare rest)
    ∙ take_at (take width rest) (take spare (drop width rest)) width wide
    ∙ sym (cell_shown masks lanes start width mask cell (cell_read words start width within in_word) bits)
    ∙ given_in-all (bit_at mask) (low_bytes width cell)
    (λ k below. ap (λ m. bit_at m k) ones ∙ bit_at_ones width k (omega (arith, below, length-low_bytes width cell)))

byte_at : (cells : List (Option ℕ)) (start width x k : ℕ) → take width (drop start cells) ≡ known (low_bytes width x)
    → k < width → get_or cells (start + k) None ≡ Some (get_or (low_bytes width x) k 0)
byte_at cells start width x k is below =
    sym (get_or-take width (drop start cells) k None below ∙ get_or-drop start cells k None)
    ∙ ap (λ l. get_or l k None) is
    ∙ get_or-map (λ byte. Some byte) (low_bytes width x) k 0 None (omega (arith, below, length-low_bytes width x))

some_same : (a b : ℕ) → Some a ≡ Some b → a ≡ b
some_same a b is = cc

same_if : (x y : ℕ) → nat_eq x y ≡ true → x ≡ y
same_if x y is = search rules

if_same : (x y : ℕ) → x ≡ y → nat_eq x y ≡ true
if_same x y is = rw is (search rules)

-- two parts that are known are kept if they are one number
pub same_part : (less more : List (Option ℕ)) (start width x y : ℕ)
    → take width (drop start less) ≡ known (low_bytes width x)
    → take width (drop start more) ≡ known (low_bytes width y) → x < 2 ^ (8 * width) → y < 2 ^ (8 * width)
    → (nat_eq x y ≡ true) ↔ IsKeptIn less more start (start + width)
same_part less more start width x y here there small small' = (
  λ same place byte above below is.
      let e : start + (place - start) ≡ place = omega (arith, above) in
      let in' : place - start < width = omega (arith, above, below) in
      let one : x ≡ y = same_if x y same in
      ap (λ p. get_or more p None) (sym e) ∙ byte_at more start width y (place - start) there in'
      ∙ ap (λ z. Some (get_or (low_bytes width z) (place - start) 0)) (sym one)
      ∙ sym (byte_at less start width x (place - start) here in') ∙ ap (λ p. get_or less p None) e ∙ is,
  λ kept.
      let bytes : low_bytes width x ≡ low_bytes width y =
      ext_get_or 0 (low_bytes width x) (low_bytes width y) (length-low_bytes width x ∙ sym (length-low_bytes width y))
      (λ k below.
      let in' : k < width = omega (arith, below, length-low_bytes width x) in
      some_same _ _ (sym (kept (start + k) (get_or (low_bytes width x) k 0) (omega arith)
      (omega (arith, in')) (byte_at less start width x k here in'))
      ∙ byte_at more start width y k there in')) in
      if_same x y (sym (number-low_bytes width x small) ∙ ap number bytes ∙ number-low_bytes width y small'),
)
