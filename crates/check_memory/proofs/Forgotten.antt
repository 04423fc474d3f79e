-- What cells are once some of them are forgotten.
use Rattle.std.proofs.Common.{◌≡◌, ◌∙◌, ◌⊎◌, inl, inr, ⊎_elim, ℕ, zero, suc, ◌+◌, ◌<◌, ◌≤◌, Bool, false, List, [], ◌∷◌, length, take, drop, set, map, get_or, Option, None, refl, sym, ap, arith}
use Rattle.std.specs.List.{zip}
use Rattle.std.proofs.lemmas.List.{length-drop, length-set, get_or-drop, get_or-set_same, get_or-set_other, ext_get_or}
use Rattle.std.proofs.lemmas.Bool.{cases_eq, cases_lt}
use Rattle.tl_types.specs.Bytes.{bit_in, given_byte, given_in}
use Rattle.tl_types.proofs.Given.{length-given_in}
use Rattle.check_memory.specs.Cells.{forgotten_cell, forgotten}
use Rattle.check_memory.proofs.Replaced.{length-replaced, get_or-replaced_in, get_or-replaced_out, replaced_by_places}

-- cells under their flags
abbrev pub marked : List Bool → List (Option ℕ) → List (Option ℕ)
marked flags cells = map (λ pair. forgotten_cell pair.0 pair.1) (zip flags cells)

pub length-marked : (flags : List Bool) (cells : List (Option ℕ)) → length flags ≤ length cells
    → length (marked flags cells) ≡ length flags
length-marked [] cells room = refl
length-marked (flag ∷ flags) [] room = absurd (omega (arith, room))
length-marked (flag ∷ flags) (cell ∷ cells) room = ap suc (length-marked flags cells (omega (arith, room)))

pub get_or-marked : (flags : List Bool) (cells : List (Option ℕ)) (k : ℕ) → length flags ≤ length cells → k < length flags
    → get_or (marked flags cells) k None ≡ forgotten_cell (get_or flags k false) (get_or cells k None)
get_or-marked [] cells k room below = absurd (omega (arith, below))
get_or-marked (flag ∷ flags) [] k room below = absurd (omega (arith, room))
get_or-marked (flag ∷ flags) (cell ∷ cells) zero room below = refl
get_or-marked (flag ∷ flags) (cell ∷ cells) (suc k) room below =
    get_or-marked flags cells k (omega (arith, room)) (omega (arith, below))

-- cells past the last flag count for nothing
pub marked-take : (flags : List Bool) (cells : List (Option ℕ))
    → marked flags (take (length flags) cells) ≡ marked flags cells
marked-take [] cells = refl
marked-take (flag ∷ flags) [] = refl
marked-take (flag ∷ flags) (cell ∷ cells) = ap (λ rest. forgotten_cell flag cell ∷ rest) (marked-take flags cells)

-- ---- cells from a place on

length_here : (flags : List Bool) (start : ℕ) (cells : List (Option ℕ)) → start + length flags ≤ length cells
    → length (marked flags (drop start cells)) ≡ length flags
length_here flags start cells inside =
    length-marked flags (drop start cells) (omega (arith, inside, length-drop start cells))

pub length-forgotten : (flags : List Bool) (start : ℕ) (cells : List (Option ℕ)) → start + length flags ≤ length cells
    → length (forgotten flags start cells) ≡ length cells
length-forgotten flags start cells inside =
    length-replaced cells (marked flags (drop start cells)) start
    (omega (arith, inside, length_here flags start cells inside))

pub get_or-forgotten_in : (flags : List Bool) (start : ℕ) (cells : List (Option ℕ)) (k : ℕ)
    → start + length flags ≤ length cells → k < length flags
    → get_or (forgotten flags start cells) (start + k) None
    ≡ forgotten_cell (get_or flags k false) (get_or cells (start + k) None)
get_or-forgotten_in flags start cells k inside below =
    let long = length_here flags start cells inside in
    get_or-replaced_in cells (marked flags (drop start cells)) start k (omega (arith, inside, long))
    (omega (arith, below, long))
    ∙ get_or-marked flags (drop start cells) k (omega (arith, inside, length-drop start cells)) below
    ∙ ap (forgotten_cell (get_or flags k false)) (get_or-drop start cells k None)

pub get_or-forgotten_out : (flags : List Bool) (start : ℕ) (cells : List (Option ℕ)) (place : ℕ)
    → start + length flags ≤ length cells → (place < start) ⊎ (start + length flags ≤ place)
    → get_or (forgotten flags start cells) place None ≡ get_or cells place None
get_or-forgotten_out flags start cells place inside beside =
    let long = length_here flags start cells inside in
    get_or-replaced_out cells (marked flags (drop start cells)) start place (omega (arith, inside, long))
    (⊎_elim (λ before. inl before) (λ past. inr (omega (arith, past, long))) beside)

-- cells that are told place by place
pub forgotten_by_places : (flags : List Bool) (start : ℕ) (cells left : List (Option ℕ))
    → start + length flags ≤ length cells → length left ≡ length cells
    → ((k : ℕ) → k < length flags
    → get_or left (start + k) None ≡ forgotten_cell (get_or flags k false) (get_or cells (start + k) None))
    → ((place : ℕ) → (place < start) ⊎ (start + length flags ≤ place)
    → get_or left place None ≡ get_or cells place None)
    → left ≡ forgotten flags start cells
forgotten_by_places flags start cells left inside long here there =
    let counted = length_here flags start cells inside in
    let room : length flags ≤ length (drop start cells) = omega (arith, inside, length-drop start cells) in
    replaced_by_places cells left (marked flags (drop start cells)) start (omega (arith, inside, counted)) long
    (λ k below.
    let flagged : k < length flags = omega (arith, below, counted) in
    here k flagged
    ∙ sym (get_or-marked flags (drop start cells) k room flagged
    ∙ ap (forgotten_cell (get_or flags k false)) (get_or-drop start cells k None)))
    (λ place beside.
    there place (⊎_elim (λ before. inl before) (λ past. inr (omega (arith, past, counted))) beside))

-- ---- one byte of a page

same_bit : (bits bits' : ℕ → ℕ) (lanes : List ℕ) (place : ℕ) → bits' place ≡ bits place
    → get_or (given_in bits' lanes) place None ≡ get_or (given_in bits lanes) place None
same_bit bits bits' [] place is = refl
same_bit bits bits' (byte ∷ lanes) zero is = ap (λ b. given_byte b byte) is
same_bit bits bits' (byte ∷ lanes) (suc place) is = same_bit (λ k. bits (suc k)) (λ k. bits' (suc k)) lanes place is

pub clear_bit : (bits : ℕ → ℕ) (lanes : List ℕ) (place : ℕ) → bits place ≡ 0
    → get_or (given_in bits lanes) place None ≡ None
clear_bit bits [] place is = refl
clear_bit bits (byte ∷ lanes) zero is = ap (λ b. given_byte b byte) is
clear_bit bits (byte ∷ lanes) (suc place) is = clear_bit (λ k. bits (suc k)) lanes place is

pub byte_forgotten : (masks masks' lanes : List ℕ) (place : ℕ) → place < length lanes → bit_in masks' place ≡ 0
    → ((other : ℕ) → (other < place) ⊎ (place + 1 ≤ other) → bit_in masks' other ≡ bit_in masks other)
    → given_in (bit_in masks') lanes ≡ set (given_in (bit_in masks) lanes) place None
byte_forgotten masks masks' lanes place within is outside =
    let cells = given_in (bit_in masks) lanes in
    let long : length (given_in (bit_in masks') lanes) ≡ length lanes = length-given_in (bit_in masks') lanes in
    let was : length cells ≡ length lanes = length-given_in (bit_in masks) lanes in
    ext_get_or None (given_in (bit_in masks') lanes) (set cells place None)
    (long ∙ sym (length-set cells place None ∙ was))
    (λ i below. ⊎_elim
    (λ same. ap (λ k. get_or (given_in (bit_in masks') lanes) k None) same ∙ clear_bit (bit_in masks') lanes place is
    ∙ sym (ap (λ k. get_or (set cells place None) k None) same
    ∙ get_or-set_same cells place None None (omega (arith, within, was))))
    (λ apart. same_bit (bit_in masks) (bit_in masks') lanes i
    (outside i (beside i apart))
    ∙ sym (get_or-set_other cells place i None None apart))
    (cases_eq i place))
  where
    beside : (i : ℕ) → (i ≡ place → ⊥) → (i < place) ⊎ (place + 1 ≤ i)
    beside i apart = ⊎_elim (λ before. inl before) (λ from. inr (omega (arith, from, apart))) (cases_lt i place)
