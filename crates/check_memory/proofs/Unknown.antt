-- Cells of which those are unknown that a test names.
use Rattle.std.proofs.Common.{◌≡◌, ◌∙◌, ◌⊎◌, inl, inr, ⊎_elim, ℕ, zero, suc, ◌+◌, ◌-◌, ◌<◌, ◌≤◌, Bool, true, false, ◌||◌, if◌then◌else◌, List, [], ◌∷◌, ◌++◌, length, take, drop, get_or, Option, Some, None, refl, sym, ap, arith}
use Rattle.std.specs.Prelude.{slice_get}
use Rattle.std.proofs.lemmas.List.{ext_get_or, length-take, length-drop, get_or-take, get_or-drop}
use Rattle.std.proofs.lemmas.Bool.{cases_lt}
use Rattle.check_memory.specs.Known.{replaced}
use Rattle.check_memory.specs.Cells.{unknown_where}
use Rattle.check_memory.proofs.Replaced.{length-replaced, get_or-replaced_in, get_or-replaced_out}
use Rattle.check_memory.proofs.Told.{IsTold, Told}

-- ---- one cell

known_if : (test : Bool) (cell : Option ℕ) (byte : ℕ) → (if test then None else cell) ≡ Some byte
    → (test ≡ false) × (cell ≡ Some byte)
known_if true cell byte is = cc
known_if false cell byte is = (refl, is)

-- what is known of them is not named by the test, and was known
pub known_where : (test : ℕ → Bool) (cells : List (Option ℕ)) (k byte : ℕ)
    → get_or (unknown_where test cells) k None ≡ Some byte → (test k ≡ false) × (get_or cells k None ≡ Some byte)
known_where test [] k byte is = cc
known_where test (cell ∷ cells) zero byte is = known_if (test 0) cell byte is
known_where test (cell ∷ cells) (suc k) byte is = known_where (λ place. test (suc place)) cells k byte is

none_either : (b : Bool) (cell : Option ℕ) → cell ≡ None → cell ≡ (if b then None else cell)
none_either true cell none = none
none_either false cell none = refl

pub get_or-unknown : (test : ℕ → Bool) (cells : List (Option ℕ)) (k : ℕ)
    → get_or (unknown_where test cells) k None ≡ (if test k then None else get_or cells k None)
get_or-unknown test [] k = none_either (test k) (get_or [] k None) refl
get_or-unknown test (cell ∷ cells) zero = refl
get_or-unknown test (cell ∷ cells) (suc k) = get_or-unknown (λ place. test (suc place)) cells k

pub chosen_none : (b : Bool) (cell byte : Option ℕ) → b ≡ true → byte ≡ None → byte ≡ (if b then None else cell)
chosen_none b cell byte is none = rw is none

pub chosen_cell : (b : Bool) (cell byte : Option ℕ) → b ≡ false → byte ≡ cell → byte ≡ (if b then None else cell)
chosen_cell b cell byte is same = rw is same

pub got : (cells : List (Option ℕ)) (k : ℕ) (cell : Option ℕ) → slice_get cells k ≡ Some cell → get_or cells k None ≡ cell
got [] k cell is = cc
got (c ∷ cells) zero cell is = cc
got (c ∷ cells) (suc k) cell is = got cells k cell is

-- ---- all of them

pub length-unknown_where : (test : ℕ → Bool) (cells : List (Option ℕ))
    → length (unknown_where test cells) ≡ length cells
length-unknown_where test [] = refl
length-unknown_where test (cell ∷ cells) = ap suc (length-unknown_where (λ place. test (suc place)) cells)

-- none is made unknown
pub unknown_none : (test : ℕ → Bool) (cells : List (Option ℕ)) → ((k : ℕ) → k < length cells → test k ≡ false)
    → unknown_where test cells ≡ cells
unknown_none test [] none = refl
unknown_none test (cell ∷ cells) none =
    let first : test 0 ≡ false = none 0 (omega arith) in
    rw first (ap (λ cs. cell ∷ cs)
    (unknown_none (λ k. test (suc k)) cells (λ k below. none (suc k) (omega (arith, below)))))

-- one more
unknown-suc : (test : ℕ → Bool) (cells : List (Option ℕ)) (k : ℕ) (new : Option ℕ) → k < length cells
    → new ≡ (if test k then None else get_or cells k None)
    → unknown_where test (take (suc k) cells) ≡ unknown_where test (take k cells) ++ new ∷ []
unknown-suc test [] k new below is = absurd (omega (arith, below))
unknown-suc test (cell ∷ cells) zero new below is = ap (λ (c : Option ℕ). c ∷ []) (sym is)
unknown-suc test (cell ∷ cells) (suc k) new below is =
    ap (λ (rest : List (Option ℕ)). (if test 0 then None else cell) ∷ rest)
    (unknown-suc (λ place. test (suc place)) cells k new (omega (arith, below)) is)

pub unknown-more : (test : ℕ → Bool) (cells : List (Option ℕ)) (k : ℕ) (new : Option ℕ) → k < length cells
    → new ≡ (if test k then None else get_or cells k None)
    → unknown_where test (take (k + 1) cells) ≡ unknown_where test (take k cells) ++ new ∷ []
unknown-more test cells k new below is =
    let next : k + 1 ≡ suc k = omega arith in
    ap (λ n. unknown_where test (take n cells)) next ∙ unknown-suc test cells k new below is

-- tests that say the same
pub unknown-same : (test test' : ℕ → Bool) (cells : List (Option ℕ)) → ((k : ℕ) → test k ≡ test' k)
    → unknown_where test cells ≡ unknown_where test' cells
unknown-same test test' [] same = refl
unknown-same test test' (cell ∷ cells) same =
    ap (λ (b : Bool). (if b then None else cell) ∷ unknown_where (λ k. test (suc k)) cells) (same 0)
    ∙ ap (λ (rest : List (Option ℕ)). (if test' 0 then None else cell) ∷ rest)
    (unknown-same (λ k. test (suc k)) (λ k. test' (suc k)) cells (λ k. same (suc k)))

one_or_other : (b c : Bool) (cell : Option ℕ)
    → (if c then None else (if b then None else cell)) ≡ (if b || c then None else cell)
one_or_other true true cell = refl
one_or_other true false cell = refl
one_or_other false c cell = refl

-- one test after the other
pub unknown-twice : (test test' : ℕ → Bool) (cells : List (Option ℕ))
    → unknown_where test' (unknown_where test cells) ≡ unknown_where (λ k. test k || test' k) cells
unknown-twice test test' [] = refl
unknown-twice test test' (cell ∷ cells) =
    ap (λ (c : Option ℕ). c ∷ unknown_where (λ k. test' (suc k)) (unknown_where (λ k. test (suc k)) cells))
    (one_or_other (test 0) (test' 0) cell)
    ∙ ap (λ (rest : List (Option ℕ)). (if test 0 || test' 0 then None else cell) ∷ rest)
    (unknown-twice (λ k. test (suc k)) (λ k. test' (suc k)) cells)

-- ---- a window of them

pub window-unknown : (test : ℕ → Bool) (cells : List (Option ℕ)) (start n : ℕ)
    → take n (drop start (unknown_where test cells))
    ≡ unknown_where (λ place. test (start + place)) (take n (drop start cells))
window-unknown test cells start n =
    let there = drop start (unknown_where test cells) in
    let here = drop start cells in
    let long : length (take n there) ≡ length (take n here) =
    omega (
      arith,
      length-take n there,
      length-take n here,
      length-drop start (unknown_where test cells),
      length-drop start cells,
      length-unknown_where test cells,
    ) in
    ext_get_or None (take n there) (unknown_where (λ place. test (start + place)) (take n here))
    (long ∙ sym (length-unknown_where (λ place. test (start + place)) (take n here)))
    (λ k below.
    let within : k < n = omega (arith, below, length-take n there) in
    get_or-take n there k None within ∙ get_or-drop start (unknown_where test cells) k None
    ∙ get_or-unknown test cells (start + k)
    ∙ ap (λ (c : Option ℕ). if test (start + k) then None else c)
    (sym (get_or-take n here k None within ∙ get_or-drop start cells k None))
    ∙ sym (get_or-unknown (λ place. test (start + place)) (take n here) k))

pub hidden_twice : (b : Bool) (cell : Option ℕ) → (if b then None else cell) ≡ (if b then None else if b then None else cell)
hidden_twice true cell = refl
hidden_twice false cell = refl

-- what is replaced in cells, or in what is seen of them, is seen as the same
pub unknown-replaced : (test : ℕ → Bool) (cells new : List (Option ℕ)) (start : ℕ) → start + length new ≤ length cells
    → unknown_where test (replaced cells start new)
    ≡ unknown_where test (replaced (unknown_where test cells) start new)
unknown-replaced test cells new start inside =
    ext_get_or None (unknown_where test (replaced cells start new)) (unknown_where test (replaced less start new))
    (length-unknown_where test (replaced cells start new) ∙ length-replaced cells new start inside
    ∙ sym (length-unknown_where test (replaced less start new) ∙ length-replaced less new start inside' ∙ counted))
    (λ place below. get_or-unknown test (replaced cells start new) place ∙ same place
    ∙ sym (get_or-unknown test (replaced less start new) place))
  where
    less : List (Option ℕ)
    less = unknown_where test cells

    counted : length less ≡ length cells
    counted = length-unknown_where test cells

    inside' : start + length new ≤ length less
    inside' = omega (arith, inside, counted)

    out : (place : ℕ) → (place < start) ⊎ (start + length new ≤ place)
        → (if test place then None else get_or (replaced cells start new) place None)
        ≡ (if test place then None else get_or (replaced less start new) place None)
    out place beside =
        ap (λ (c : Option ℕ). if test place then None else c) (get_or-replaced_out cells new start place inside beside)
        ∙ hidden_twice (test place) (get_or cells place None)
        ∙ ap (λ (c : Option ℕ). if test place then None else c)
        (sym (get_or-replaced_out less new start place inside' beside ∙ get_or-unknown test cells place))

    here : (k : ℕ) → k < length new
        → get_or (replaced cells start new) (start + k) None ≡ get_or (replaced less start new) (start + k) None
    here k below = get_or-replaced_in cells new start k inside below ∙ sym (get_or-replaced_in less new start k inside' below)

    same : (place : ℕ)
        → (if test place then None else get_or (replaced cells start new) place None)
        ≡ (if test place then None else get_or (replaced less start new) place None)
    same place = ⊎_elim
        (λ before. out place (inl before))
        (λ from. ⊎_elim
        (λ (below : place < start + length new).
        let e : start + (place - start) ≡ place = omega (arith, from) in
        let P : ℕ → Option ℕ = λ p. get_or (replaced cells start new) p None in
        let Q : ℕ → Option ℕ = λ p. get_or (replaced less start new) p None in
        ap (λ (c : Option ℕ). if test place then None else c)
        (ap P (sym e) ∙ here (place - start) (omega (arith, from, below)) ∙ ap Q e))
        (λ past. out place (inr past))
        (cases_lt place (start + length new)))
        (cases_lt place start)

-- ---- what is known of bytes

told_if : (b : Bool) (cell : Option ℕ) (byte : ℕ) → IsTold cell byte → IsTold (if b then None else cell) byte
told_if true cell byte told = tt
told_if false cell byte told = told

pub told-unknown : (test : ℕ → Bool) (cells : List (Option ℕ)) (bytes : List ℕ) → Told cells bytes
    → Told (unknown_where test cells) bytes
told-unknown test [] [] told = tt
told-unknown test [] (byte ∷ bytes) told = absurd told
told-unknown test (cell ∷ cells) [] told = absurd told
told-unknown test (cell ∷ cells) (byte ∷ bytes) told =
    (told_if (test 0) cell byte told.0, told-unknown (λ place. test (suc place)) cells bytes told.1)
