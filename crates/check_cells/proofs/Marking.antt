-- Marks of bytes, kept as bits of masks.
use Rattle.std.proofs.Common.{◌≡◌, ◌∙◌, ⊎_elim, ℕ, suc, ◌+◌, ◌-◌, ◌<◌, ◌≤◌, ◌^◌, Bool, true, false, [], ◌∷◌, ◌++◌, List, length, get_or, slice_get, Option, Some, None, sym, ap, refl, arith}
use Rattle.std.specs.Prelude.{replicate, slice_index_or, ◌==◌}
use Rattle.std.specs.Int.{bit_at}
use Rattle.std.proofs.lemmas.List.{ext_get_or, get_or_append_left, get_or-append_right, get_or-replicate, get_or_past, length-append, length-replicate}
use Rattle.std.proofs.lemmas.List.FromFn.{length-map-range_with_len, get_or-map-range_with_len}
use Rattle.std.specs.List.{list_any}
use Rattle.std.proofs.lemmas.List.Folds.{list_any_at}
use Rattle.std.proofs.lemmas.Bool.{cases_lt}
use Rattle.std.proofs.lemmas.Option.{get_or_from_slice_get}
use Rattle.tl_types.specs.Bytes.{bit_in}
use Rattle.check_cells.specs.Bit.{known_bit}
use Rattle.check_cells.specs.Known.{IsBelowBut}
use Rattle.check_cells.specs.Marks.{marks_in}

pub length-marks_in : (bits : List ℕ) (len : ℕ) → length (marks_in bits len) ≡ len
length-marks_in bits len = length-map-range_with_len (λ place. bit_in bits place == 1) 0 len

-- the mark of a byte
pub mark_at : (bits : List ℕ) (len place : ℕ) → place < len → get_or (marks_in bits len) place false ≡ (bit_in bits place == 1)
mark_at bits len place below =
    get_or-map-range_with_len (λ place. bit_in bits place == 1) 0 len place place false below (omega arith)

-- there is none past the last byte
pub mark_past : (bits : List ℕ) (len place : ℕ) → len ≤ place → get_or (marks_in bits len) place false ≡ false
mark_past bits len place past =
    get_or_past (marks_in bits len) place false (omega (arith, past, length-marks_in bits len))

-- where no bit is set no mark is
pub none_marked : (bits : List ℕ) (len : ℕ) → ((place : ℕ) → bit_in bits place ≡ 0)
    → (place : ℕ) → get_or (marks_in bits len) place false ≡ false
none_marked bits len unset place = ⊎_elim
    (λ below. mark_at bits len place below ∙ ap (λ b. b == 1) (unset place))
    (λ past. mark_past bits len place past)
    (cases_lt place len)

mark_of : (mark : Bool) → (known_bit mark == 1) ≡ mark
mark_of false = refl
mark_of true = refl

-- equal marks more
pub marks_pushed : (before after : List ℕ) (len count : ℕ) (mark : Bool)
    → ((k : ℕ) → k < count → bit_in after (len + k) ≡ known_bit mark)
    → ((place : ℕ) → place < len → bit_in after place ≡ bit_in before place)
    → marks_in after (len + count) ≡ marks_in before len ++ replicate count mark
marks_pushed before after len count mark inside outside =
    let old = marks_in before len in
    let counted : length old ≡ len = length-marks_in before len in
    ext_get_or false (marks_in after (len + count)) (old ++ replicate count mark)
    (length-marks_in after (len + count)
    ∙ sym (length-append old (replicate count mark) ∙ ap (λ n. n + length (replicate count mark)) counted
    ∙ ap (λ n. len + n) (length-replicate count mark)))
    (λ k under.
    let within : k < len + count = omega (arith, under, length-marks_in after (len + count)) in
    mark_at after (len + count) k within
    ∙ ⊎_elim
    (λ below. ap (λ b. b == 1) (outside k below)
    ∙ sym (get_or_append_left old (replicate count mark) false k (omega (arith, below, counted))
    ∙ mark_at before len k below))
    (λ past.
    let e : len + (k - len) ≡ k = omega (arith, past) in
    let few : k - len < count = omega (arith, past, within) in
    ap (λ p. bit_in after p == 1) (sym e) ∙ ap (λ b. b == 1) (inside (k - len) few) ∙ mark_of mark
    ∙ sym (get_or-append_right old (replicate count mark) len k false counted past
    ∙ get_or-replicate count (k - len) mark false few))
    (cases_lt k len))

-- ---- bytes that are not marked

-- up to a place each byte that is known on the left, and not marked, is known on the right and is the same
abbrev pub KeptButTo : List Bool → List (Option ℕ) → List (Option ℕ) → ℕ → Type 0
KeptButTo marks less more to =
    (place byte : ℕ) → place < to → slice_index_or marks place false ≡ false → slice_index_or less place None ≡ Some byte
    → slice_index_or more place None ≡ Some byte

-- a place more
pub kept_but_more : (marks : List Bool) (less more : List (Option ℕ)) (n : ℕ) (a b : Option ℕ)
    → slice_get less n ≡ Some a → slice_get more n ≡ Some b
    → (slice_index_or marks n false ≡ false → (byte : ℕ) → a ≡ Some byte → b ≡ Some byte)
    → KeptButTo marks less more n → KeptButTo marks less more (n + 1)
kept_but_more marks less more n a b here there keeps before place byte below clean is = ⊎_elim
    (λ lower. before place byte lower clean is)
    (λ upper.
    let at : n ≡ place = omega (arith, upper, below) in
    let was : a ≡ Some byte =
    sym (get_or_from_slice_get less n a None here) ∙ ap (λ k. get_or less k None) at ∙ is in
    ap (λ k. get_or more k None) (sym at) ∙ get_or_from_slice_get more n b None there
    ∙ keeps (ap (λ k. get_or marks k false) at ∙ clean) byte was)
    (cases_lt place n)

-- a marked place more
pub kept_marked : (marks : List Bool) (less more : List (Option ℕ)) (n : ℕ) → slice_index_or marks n false ≡ true
    → KeptButTo marks less more n → KeptButTo marks less more (n + 1)
kept_marked marks less more n marked before place byte below clean is = ⊎_elim
    (λ lower. before place byte lower clean is)
    (λ upper.
    let at : n ≡ place = omega (arith, upper, below) in
    absurd (differ (sym marked ∙ ap (λ k. get_or marks k false) at ∙ clean)))
    (cases_lt place n)
  where
    differ : true ≡ false → ⊥
    differ is = cc

-- a byte that is not kept
pub not_kept_but : (marks : List Bool) (less more : List (Option ℕ)) (place : ℕ) (a b : Option ℕ)
    → slice_get less place ≡ Some a → slice_get more place ≡ Some b → slice_index_or marks place false ≡ false
    → (((byte : ℕ) → a ≡ Some byte → b ≡ Some byte) → ⊥) → IsBelowBut marks less more → ⊥
not_kept_but marks less more place a b here there clean lost below =
    lost (λ byte is. sym (get_or_from_slice_get more place b None there)
    ∙ below.kept place byte clean (get_or_from_slice_get less place a None here ∙ is))

-- all places
pub below_but : (marks : List Bool) (less more : List (Option ℕ)) (n : ℕ) → length less ≡ n → length more ≡ n
    → KeptButTo marks less more n → IsBelowBut marks less more
below_but marks less more n long long' kept = record {
  counted = long' ∙ sym long;
  kept = λ place byte clean is. ⊎_elim
      (λ below. kept place byte below clean is)
      (λ past. absurd (lost byte (sym (get_or_past less place None (omega (arith, past, long))) ∙ is)))
      (cases_lt place n);
}
  where
    lost : (byte : ℕ) → None ≡ Some byte → ⊥
    lost byte is = cc

-- ---- bits

-- the bit of a number that has only one
pub bit_is : (x : ℕ) → x < 2 ^ 1 → x ≡ bit_at x 0
bit_is x small = search arith

-- ---- whether one is set

-- a mark that is set is found
pub set_is_found : (marks : List Bool) (place : ℕ) → get_or marks place false ≡ true → list_any (λ mark. mark) marks ≡ true
set_is_found marks place is =
    list_any_at (λ mark. mark) marks place false
    (⊎_elim (λ below. below)
    (λ past. let isnt : get_or marks place false ≡ false = get_or_past marks place false past in cc)
    (cases_lt place (length marks)))
    is

-- if no mark is set, none is found
pub none_is_found : (marks : List Bool) → ((place : ℕ) → get_or marks place false ≡ false)
    → list_any (λ mark. mark) marks ≡ false
none_is_found [] none = refl
none_is_found (true ∷ marks) none = let isnt : true ≡ false = none 0 in cc
none_is_found (false ∷ marks) none = none_is_found marks (λ place. none (suc place))

-- the first marks are not set
pub record AreUnsetTo (marks : List Bool) (count : ℕ) : Type 0 where
  pub none : (place : ℕ) → place < count → get_or marks place false ≡ false

-- nor is one more
pub unset_more : (marks : List Bool) (count : ℕ) → AreUnsetTo marks count → get_or marks count false ≡ false
    → AreUnsetTo marks (count + 1)
unset_more marks count before one = record {
  none = λ place below. ⊎_elim (λ less. before.none place less)
      (λ past. let is : place ≡ count = omega (arith, below, past) in ap (λ p. get_or marks p false) is ∙ one)
      (cases_lt place count);
}

-- if all are not set, none is found
pub unset_is_none : (marks : List Bool) (count : ℕ) → length marks ≤ count → AreUnsetTo marks count
    → list_any (λ mark. mark) marks ≡ false
unset_is_none marks count all unset =
    none_is_found marks
    (λ place. ⊎_elim (λ below. unset.none place below)
    (λ past. get_or_past marks place false (omega (arith, past, all)))
    (cases_lt place count))
