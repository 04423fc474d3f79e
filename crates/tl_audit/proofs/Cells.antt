-- What is read in rows after one cell was written, and in rows of one thing.
use Rattle.std.proofs.Common.{◌≡◌, ℕ, ◌<◌, ⊎_elim, List, length, map, set, Some, None, Option, slice_get, refl, arith}
use Rattle.std.proofs.lemmas.Bool.Decides.{eqb_tells}
use Rattle.std.proofs.Common.{[], ◌∷◌, ◌++◌, suc, zero, take, drop, replicate, option_map, get_or, Vec, IsSome}
use Rattle.std.proofs.lemmas.List.{append-nil, drop_all, take_all}
use Rattle.std.proofs.lemmas.Bool.{false≢true}
use Rattle.std.proofs.lemmas.List.{map-set}
use Rattle.std.proofs.lemmas.Option.{slice_get_within, slice_get-map, get_or_from_slice_get}
use Rattle.std.specs.Global.{Global}
use Rattle.std.specs.Vec.{with_item}
use Rattle.tl_types.proofs.Lists.{slice_get-set_same, slice_get-set_other}
use Rattle.tl_audit.specs.Marks.{IsSetAt, cell, rows_in}

-- a row is replaced by itself with one cell written
pub set_at : {A : Type 0} (rows : List (List A)) (row : List A) (p i : ℕ) (x y : A) → slice_get rows p ≡ Some row
    → slice_get row i ≡ Some y
    → IsSetAt p i x rows (set rows p (set row i x))
set_at rows row p i x y there here q j = ⊎_elim
    (λ same. ⊎_elim
    (λ also. rw (
      same.0,
      also.0,
      ← same.1,
      ← also.1,
      slice_get-set_same rows p (set row i x) (slice_get_within rows p row there),
      slice_get-set_same row i x (slice_get_within row i y here),
      there,
      here,
    ) refl)
    (λ apart. rw (
      same.0,
      apart.0,
      ← same.1,
      slice_get-set_same rows p (set row i x) (slice_get_within rows p row there),
      slice_get-set_other row i j x apart.1,
      there,
    ) refl)
    (eqb_tells i j))
    (λ other. rw (other.0, slice_get-set_other rows p q (set row i x) other.1) refl)
    (eqb_tells p q)

-- the same of rows in vectors
pub put_at : {A : Type 0} (rows : List (Vec A Global)) (default : Vec A Global) (p i : ℕ) (x : A)
    → IsSome (cell (rows_in rows) p i)
    → IsSetAt p i x (rows_in rows) (rows_in (set rows p (with_item (get_or rows p default) i x)))
put_at {A} rows default p i x there = by_row (slice_get rows p) refl where
  by_cell : (v : Vec A Global) → slice_get rows p ≡ Some v → (o : Option A) → slice_get v.items i ≡ o
      → IsSetAt p i x (rows_in rows) (rows_in (set rows p (with_item (get_or rows p default) i x)))
  by_cell v at None none =
      absurd (false≢true (rw (slice_get-map (λ (w : Vec A Global). w.items) rows p, at, none) at there))
  by_cell v at (Some y) here =
      let row : slice_get (rows_in rows) p ≡ Some v.items =
      rw (slice_get-map (λ (w : Vec A Global). w.items) rows p, at) refl in
      rw (get_or_from_slice_get rows p v default at, map-set (λ (w : Vec A Global). w.items) rows p (with_item v i x))
      (set_at (rows_in rows) v.items p i x y row here)

  by_row : (o : Option (Vec A Global)) → slice_get rows p ≡ o
      → IsSetAt p i x (rows_in rows) (rows_in (set rows p (with_item (get_or rows p default) i x)))
  by_row None none = absurd (false≢true (rw (slice_get-map (λ (w : Vec A Global). w.items) rows p, none) at there))
  by_row (Some v) at = by_cell v at (slice_get v.items i) refl

-- a vector's row
pub row_at : {A : Type 0} (vectors : List (Vec A Global)) (k : ℕ) (v : Vec A Global) → slice_get vectors k ≡ Some v
    → slice_get (rows_in vectors) k ≡ Some v.items
row_at {A} vectors k v at = rw (slice_get-map (λ (w : Vec A Global). w.items) vectors k, at) refl

-- there is a row where there is a cell
pub cell_within : {A : Type 0} (rows : List (List A)) (p i : ℕ) (x : A) → cell rows p i ≡ Some x → p < length rows
cell_within {A} rows p i x there = by_row (slice_get rows p) refl where
  by_row : (o : Option (List A)) → slice_get rows p ≡ o → p < length rows
  by_row None none = absurd (let never = rw none at there in cc)
  by_row (Some row) at = slice_get_within rows p row at

-- ---- rows as they are made

-- what is written over all of a list is what it holds then
pub all_written : {A : Type 0} (new old : List A) (n : ℕ) → n ≡ length old → length new ≡ length old
    → take n (new ++ drop (length new) old) ≡ new
all_written new old n many same =
    rw (drop_all (length new) old (omega arith), append-nil new) (take_all n new (omega arith))

-- rows as long as those of other rows, of one thing
blank_row : {A B : Type 0} (x : A) (row : List B) (i : ℕ)
    → slice_get (replicate (length row) x) i ≡ option_map (λ (_ : B). x) (slice_get row i)
blank_row x [] i = refl
blank_row x (y ∷ row) zero = refl
blank_row x (y ∷ row) (suc i) = blank_row x row i

pub blank_cell : {A B : Type 0} (x : A) (rows : List (List B)) (p i : ℕ)
    → cell (map (λ row. replicate (length row) x) rows) p i ≡ option_map (λ (_ : B). x) (cell rows p i)
blank_cell {A} {B} x rows p i = by_row (slice_get rows p) refl where
  by_row : (o : Option (List B)) → slice_get rows p ≡ o
      → cell (map (λ row. replicate (length row) x) rows) p i ≡ option_map (λ (_ : B). x) (cell rows p i)
  by_row None none = rw (slice_get-map (λ (row : List B). replicate (length row) x) rows p, none) refl
  by_row (Some row) there =
      rw (slice_get-map (λ (row : List B). replicate (length row) x) rows p, there) (blank_row x row i)

replicate_at : {A : Type 0} (n k : ℕ) (x : A) → k < n → slice_get (replicate n x) k ≡ Some x
replicate_at zero k x below = absurd (omega arith)
replicate_at (suc n) zero x below = refl
replicate_at (suc n) (suc k) x below = replicate_at n k x (omega arith)

-- rows of one width
pub square_cell : {A : Type 0} (x : A) (rows width p i : ℕ) → p < rows → i < width
    → cell (replicate rows (replicate width x)) p i ≡ Some x
square_cell x rows width p i row within =
    rw (replicate_at rows p (replicate width x) row) (replicate_at width i x within)

-- a cell of a list that a map gives is one of the list
pub cell_of : {A B : Type 0} (x y : A) (o : Option B) → option_map (λ (_ : B). x) o ≡ Some y → IsSome o × (x ≡ y)
cell_of x y None is = absurd cc
cell_of x y (Some b) is = (refl, cc)
