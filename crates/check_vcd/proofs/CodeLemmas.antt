-- A table whose keys are bytes, after one of its entries was put.
use Rattle.std.proofs.Common.{◌≡◌, ◌≢◌, Bool, true, false, cond, ℕ, suc, zero, ◌+◌, ◌-◌, ◌*◌, ◌<◌, ◌≤◌, List, [], ◌∷◌, length, Option, None, Some, ap, arith, refl, sym, ◌∙◌, subst}
use Rattle.std.proofs.lemmas.Bool.{and_parts, cases_Bool, cond-true, cond-false, leb-true, true≢false}
use Rattle.std.specs.Prelude.{◌&&◌, nat_le, slice_get, slice_set, replicate}
use Rattle.std.proofs.lemmas.Option.{slice_get_past}
use Rattle.std.proofs.lemmas.Slice.Eq.{bytes_eq-Decides}
use Rattle.std.specs.Cmp.Lexicographic.{nat_list_eq_equiv}
use Rattle.std.specs.HashMap.{HashMap, UpdatesBy, get_by}
use Rattle.std.specs.Map.{AreApart, IsKeyTest, KeepsOthers, lookup}
use Rattle.std.specs.Str.{bytes_eq}
use mathlib.Core.Logic.{⊎_elim}
use Rattle.check_vcd.specs.Codes.{as_widest, cell_at, coded_from, find_in, is_sign, known_by, place_of}
use Rattle.check_vcd.specs.Header.{Var}
use Rattle.check_vcd.specs.declared.codes.Coded.{Coded}
use Rattle.check_vcd.specs.declared.codes.Codes.{Codes}

apart : (bs cs ks : List ℕ) → bytes_eq bs cs ≡ false → bytes_eq bs ks ≡ true → bytes_eq cs ks ≡ false
apart bs cs ks not is =
    nat_list_eq_equiv.symm cs ks ∙ sym (nat_list_eq_equiv.congr bs ks cs is) ∙ not

others : {K X : Type 0} (eq : K → K → Bool) (test other : K → Bool) (old new : List (K × X))
    → KeepsOthers eq test old new → IsKeyTest eq other → AreApart test other → lookup other new ≡ lookup other old
unfolding KeepsOthers
others eq test other old new keeps is apart = keeps other is apart

-- the entry at these bytes was put, and the others are what they were
pub put-at : {K X S : Type 0} (view : K → List ℕ) (bs : List ℕ) (m n : HashMap K X S) (w : Option X)
    → UpdatesBy (λ x y. bytes_eq (view x) (view y)) (λ k. bytes_eq bs (view k)) m n w → (cs : List ℕ)
    → get_by (λ k. bytes_eq cs (view k)) n ≡ cond (bytes_eq bs cs) w (get_by (λ k. bytes_eq cs (view k)) m)
put-at {K} view bs m n w updates cs =
    ⊎_elim
    (λ (is : bytes_eq bs cs ≡ true).
    subst (λ (l : List ℕ). get_by (λ (k : K). bytes_eq l (view k)) n ≡ w) ((bytes_eq-Decides bs cs).0 is) updates.1
    ∙ sym (cond-true (bytes_eq bs cs) w (get_by (λ (k : K). bytes_eq cs (view k)) m) is))
    (λ (not : bytes_eq bs cs ≡ false).
    others (λ (x y : K). bytes_eq (view x) (view y)) (λ (k : K). bytes_eq bs (view k)) (λ (k : K). bytes_eq cs (view k))
    m.entries n.entries updates.3 (λ x y. nat_list_eq_equiv.congr cs (view x) (view y))
    (λ k. apart bs cs (view k) not)
    ∙ sym (cond-false (bytes_eq bs cs) w (get_by (λ (k : K). bytes_eq cs (view k)) m) not))
    (cases_Bool (bytes_eq bs cs))

-- ---- short identifiers

-- what is so of a sign, if the identifier of it has a place
sign_is : (only place : ℕ) → place_of (only ∷ []) ≡ Some place → (33 ≤ only) × (only ≤ 126) × (place ≡ only - 33)
sign_is only place is = go (is_sign only) refl
  where
    go : (sign : Bool) → is_sign only ≡ sign → (33 ≤ only) × (only ≤ 126) × (place ≡ only - 33)
    go true holds =
        let parts = and_parts (nat_le 33 only) (nat_le only 126) holds in
        let at : Some (only - 33) ≡ Some place = rw holds at is in
        (leb-true 33 only parts.0, leb-true only 126 parts.1, cc at)
    go false none = let at : None ≡ Some place = rw none at is in absurd (cc at)

signs_are : (low high place : ℕ) → place_of (low ∷ high ∷ []) ≡ Some place
    → (33 ≤ low) × (low ≤ 126) × (33 ≤ high) × (high ≤ 126) × (place ≡ 94 + (low - 33) + 94 * (high - 33))
signs_are low high place is = go (is_sign low && is_sign high) refl
  where
    go : (signs : Bool) → (is_sign low && is_sign high) ≡ signs
        → (33 ≤ low) × (low ≤ 126) × (33 ≤ high) × (high ≤ 126) × (place ≡ 94 + (low - 33) + 94 * (high - 33))
    go true holds =
        let both = and_parts (is_sign low) (is_sign high) holds in
        let first = and_parts (nat_le 33 low) (nat_le low 126) both.0 in
        let second = and_parts (nat_le 33 high) (nat_le high 126) both.1 in
        let at : Some (94 + (low - 33) + 94 * (high - 33)) ≡ Some place = rw holds at is in
        (leb-true 33 low first.0, leb-true low 126 first.1, leb-true 33 high second.0, leb-true high 126 second.1, cc at)
    go false none = let at : None ≡ Some place = rw none at is in absurd (cc at)

-- no two identifiers have one place
one_place : (code other : List ℕ) (place : ℕ) → place_of code ≡ Some place → place_of other ≡ Some place → code ≡ other
one_place [] other place is at = absurd (cc is)
one_place (a ∷ b ∷ c ∷ code) other place is at = absurd (cc is)
one_place (a ∷ []) [] place is at = absurd (cc at)
one_place (a ∷ []) (b ∷ c ∷ d ∷ other) place is at = absurd (cc at)
one_place (a ∷ []) (b ∷ []) place is at =
    let one = sign_is a place is in
    let two = sign_is b place at in
    ap (λ x. x ∷ []) (omega (arith, one.0, one.1, one.2, two.0, two.1, two.2))
one_place (a ∷ []) (b ∷ c ∷ []) place is at =
    let one = sign_is a place is in
    let two = signs_are b c place at in
    absurd (omega (arith, one.0, one.1, one.2, two.0, two.1, two.2, two.3, two.4))
one_place (a ∷ b ∷ []) [] place is at = absurd (cc at)
one_place (a ∷ b ∷ []) (c ∷ d ∷ e ∷ other) place is at = absurd (cc at)
one_place (a ∷ b ∷ []) (c ∷ []) place is at =
    let one = signs_are a b place is in
    let two = sign_is c place at in
    absurd (omega (arith, one.0, one.1, one.2, one.3, one.4, two.0, two.1, two.2))
one_place (a ∷ b ∷ []) (c ∷ d ∷ []) place is at =
    let one = signs_are a b place is in
    let two = signs_are c d place at in
    let high : b ≡ d = omega (arith, one.0, one.1, one.2, one.3, one.4, two.0, two.1, two.2, two.3, two.4) in
    let low : a ≡ c = omega (arith, one.0, one.1, one.2, one.3, one.4, two.0, two.1, two.2, two.3, two.4, high) in
    rw (low, high) refl

set_there : {X : Type 0} (cells : List X) (place : ℕ) (cell : X) → place < length cells
    → slice_get (slice_set cells place cell) place ≡ Some cell
set_there [] place cell inside = absurd (omega (arith, inside))
set_there (x ∷ cells) zero cell inside = refl
set_there (x ∷ cells) (suc place) cell inside = set_there cells place cell (omega (arith, inside))

set_elsewhere : {X : Type 0} (cells : List X) (place other : ℕ) (cell : X) → other ≢ place
    → slice_get (slice_set cells place cell) other ≡ slice_get cells other
set_elsewhere [] place other cell not = refl
set_elsewhere (x ∷ cells) zero zero cell not = absurd (not refl)
set_elsewhere (x ∷ cells) zero (suc other) cell not = refl
set_elsewhere (x ∷ cells) (suc place) zero cell not = refl
set_elsewhere (x ∷ cells) (suc place) (suc other) cell not =
    set_elsewhere cells place other cell (λ is. not (ap suc is))

-- the cell of an identifier was put, and the others are what they were
pub put-cell : (cells : List (Option Coded)) (place : ℕ) (coded : Coded) (code other : List ℕ) (hashed : Option Coded)
    → place_of code ≡ Some place → place < length cells
    → known_by (cell_at (slice_set cells place (Some coded)) (place_of other)) hashed
    ≡ cond (bytes_eq code other) (Some coded) (known_by (cell_at cells (place_of other)) hashed)
put-cell cells place coded code other hashed at inside =
    ⊎_elim
    (λ (is : bytes_eq code other ≡ true).
    let same : code ≡ other = (bytes_eq-Decides code other).0 is in
    let other_at : place_of other ≡ Some place = ap place_of (sym same) ∙ at in
    ap (λ (p : Option ℕ). known_by (cell_at (slice_set cells place (Some coded)) p) hashed) other_at
    ∙ ap (λ (c : Option (Option Coded)). known_by c hashed) (set_there cells place (Some coded) inside)
    ∙ sym (cond-true (bytes_eq code other) (Some coded) (known_by (cell_at cells (place_of other)) hashed) is))
    (λ (not : bytes_eq code other ≡ false).
    elsewhere (place_of other) (λ is.
    let same : code ≡ other = one_place code other place at is in
    true≢false (sym ((bytes_eq-Decides code other).1 same) ∙ not))
    ∙ sym (cond-false (bytes_eq code other) (Some coded) (known_by (cell_at cells (place_of other)) hashed) not))
    (cases_Bool (bytes_eq code other))
  where
    elsewhere : (p : Option ℕ) → (p ≡ Some place → ⊥)
        → known_by (cell_at (slice_set cells place (Some coded)) p) hashed ≡ known_by (cell_at cells p) hashed
    elsewhere None not = refl
    elsewhere (Some q) not =
        ap (λ (c : Option (Option Coded)). known_by c hashed)
        (set_elsewhere cells place q (Some coded) (λ is. not (ap Some is)))

-- the entry of one that has no cell was put
pub put-hashed : {K S : Type 0} (view : K → List ℕ) (cells : List (Option Coded)) (bs : List ℕ) (m n : HashMap K Coded S)
    (coded : Coded) → cell_at cells (place_of bs) ≡ None
    → UpdatesBy (λ x y. bytes_eq (view x) (view y)) (λ k. bytes_eq bs (view k)) m n (Some coded) → (cs : List ℕ)
    → known_by (cell_at cells (place_of cs)) (get_by (λ k. bytes_eq cs (view k)) n)
    ≡ cond (bytes_eq bs cs) (Some coded) (known_by (cell_at cells (place_of cs)) (get_by (λ k. bytes_eq cs (view k)) m))
put-hashed {K} view cells bs m n coded none updates cs =
    ⊎_elim
    (λ (is : bytes_eq bs cs ≡ true).
    let same : bs ≡ cs = (bytes_eq-Decides bs cs).0 is in
    let cell : cell_at cells (place_of cs) ≡ None = ap (λ (l : List ℕ). cell_at cells (place_of l)) (sym same) ∙ none in
    ap (λ (c : Option (Option Coded)). known_by c (get_by (λ k. bytes_eq cs (view k)) n)) cell
    ∙ put-at view bs m n (Some coded) updates cs
    ∙ cond-true (bytes_eq bs cs) (Some coded) (get_by (λ k. bytes_eq cs (view k)) m) is
    ∙ sym (cond-true (bytes_eq bs cs) (Some coded)
    (known_by (cell_at cells (place_of cs)) (get_by (λ k. bytes_eq cs (view k)) m)) is))
    (λ (not : bytes_eq bs cs ≡ false).
    ap (λ (h : Option Coded). known_by (cell_at cells (place_of cs)) h)
    (put-at view bs m n (Some coded) updates cs
    ∙ cond-false (bytes_eq bs cs) (Some coded) (get_by (λ k. bytes_eq cs (view k)) m) not)
    ∙ sym (cond-false (bytes_eq bs cs) (Some coded)
    (known_by (cell_at cells (place_of cs)) (get_by (λ k. bytes_eq cs (view k)) m)) not))
    (cases_Bool (bytes_eq bs cs))

-- where an identifier has no place, or a place past the table, it has no cell
pub no-cell : (cells : List (Option Coded)) (place : ℕ) → length cells ≤ place → slice_get cells place ≡ None
no-cell cells place past = slice_get_past cells place past

-- a table of nothing knows no identifier
pub nothing-known : (count : ℕ) (place : Option ℕ) → known_by (cell_at (replicate count None) place) None ≡ None
nothing-known count None = refl
nothing-known zero (Some place) = refl
nothing-known (suc count) (Some zero) = refl
nothing-known (suc count) (Some (suc place)) = nothing-known count (Some place)

-- ---- the identifiers of signals

-- an identifier is as wide as the widest signal
pub put-widest : (old new : Codes) (var : Var) (vars : List Var) (code : List ℕ)
    → ((other : List ℕ) → find_in new other
    ≡ cond (bytes_eq var.code other) (Some (as_widest (find_in old var.code) var.width)) (find_in old other))
    → coded_from (find_in new code) vars code ≡ coded_from (find_in old code) (var ∷ vars) code
put-widest old new var vars code put =
    ⊎_elim
    (λ (is : bytes_eq var.code code ≡ true).
    let same = (bytes_eq-Decides var.code code).0 is in
    rw (put code, is) (ap (λ (l : List ℕ). coded_from (Some (as_widest (find_in old l) var.width)) vars code) same))
    (λ (not : bytes_eq var.code code ≡ false). rw (put code, not) refl)
    (cases_Bool (bytes_eq var.code code))
