-- What a port serves, once it has accepted a slot and once it has answered one.
use Rattle.std.proofs.Common.{◌≡◌, ◌≢◌, ℕ, cond, eqb, eq-eqb, ne_eqb, List, [], ◌∷◌, ◌++◌, refl, ap, sym, subst, ◌∙◌, Some, None, zero, suc, ◌<◌, ◌≤◌, length, arith}
use mathlib.Core.Logic.{dite}
use native.Mathlib.Decide.{ℕ_discrete}
use Rattle.tl_types.specs.Request.{Request}
use Rattle.tl_rule.specs.Serving.{ask_at, drop_slot, HasDistinctSlots}

-- an item is that of the slot i, or not
module _ (f : ℕ × Request) (fs : List (ℕ × Request)) (i : ℕ) where
  pub first_is : f.0 ≡ i → ask_at (f ∷ fs) i ≡ Some f.1
  first_is e = ap (λ b. cond b (Some f.1) (ask_at fs i)) (eq-eqb f.0 i e)

  pub first_not : f.0 ≢ i → ask_at (f ∷ fs) i ≡ ask_at fs i
  first_not ne = ap (λ b. cond b (Some f.1) (ask_at fs i)) (ne_eqb f.0 i ne)

  dropped_is : f.0 ≡ i → drop_slot i (f ∷ fs) ≡ fs
  dropped_is e = ap (λ b. cond b fs (f ∷ drop_slot i fs)) (eq-eqb f.0 i e)

  dropped_not : f.0 ≢ i → drop_slot i (f ∷ fs) ≡ f ∷ drop_slot i fs
  dropped_not ne = ap (λ b. cond b fs (f ∷ drop_slot i fs)) (ne_eqb f.0 i ne)

  -- where the slot is not served, the first item is another's, and nor is it served by the rest
  pub first_other : ask_at (f ∷ fs) i ≡ None → (f.0 ≢ i) × (ask_at fs i ≡ None)
  first_other none = let other : f.0 ≢ i =
      (λ e. let s = first_is e in absurd (cc)) in (other, sym (first_not other) ∙ none)

-- a slot more, which is not served yet
pub push_here : (fs : List (ℕ × Request)) (i : ℕ) (ask : Request) → ask_at fs i ≡ None
    → ask_at (fs ++ (i, ask) ∷ []) i ≡ Some ask
push_here [] i ask none = first_is (i, ask) [] i refl
push_here (f ∷ fs) i ask none = let t = first_other f fs i none in
    first_not f (fs ++ (i, ask) ∷ []) i t.0 ∙ push_here fs i ask t.1

pub push_else : (fs : List (ℕ × Request)) (i j : ℕ) (ask : Request) → j ≢ i
    → ask_at (fs ++ (i, ask) ∷ []) j ≡ ask_at fs j
push_else [] i j ask ne = first_not (i, ask) [] j (λ e. ne (sym e))
push_else (f ∷ fs) i j ask ne = ap (λ rest. cond (eqb f.0 j) (Some f.1) rest) (push_else fs i j ask ne)

pub push_once : (fs : List (ℕ × Request)) (i : ℕ) (ask : Request) → HasDistinctSlots fs → ask_at fs i ≡ None
    → HasDistinctSlots (fs ++ (i, ask) ∷ [])
push_once [] i ask once none = (refl, tt)
push_once (f ∷ fs) i ask once none = let t =
    first_other f fs i none in (push_else fs i f.0 ask t.0 ∙ once.0, push_once fs i ask once.1 t.1)

-- a slot less
pub drop_else : (fs : List (ℕ × Request)) (i j : ℕ) → j ≢ i → ask_at (drop_slot i fs) j ≡ ask_at fs j
drop_else [] i j ne = refl
drop_else (f ∷ fs) i j ne = dite (ℕ_discrete f.0 i)
    (λ e. ap (λ l. ask_at l j) (dropped_is f fs i e) ∙ sym (first_not f fs j (λ z. ne (sym z ∙ e))))
    (λ n. ap (λ l. ask_at l j) (dropped_not f fs i n)
    ∙ ap (λ rest. cond (eqb f.0 j) (Some f.1) rest) (drop_else fs i j ne))

pub drop_here : (fs : List (ℕ × Request)) (i : ℕ) → HasDistinctSlots fs → ask_at (drop_slot i fs) i ≡ None
drop_here [] i once = refl
drop_here (f ∷ fs) i once = dite (ℕ_discrete f.0 i)
    (λ e. ap (λ l. ask_at l i) (dropped_is f fs i e) ∙ ap (λ k. ask_at fs k) (sym e) ∙ once.0)
    (λ n. ap (λ l. ask_at l i) (dropped_not f fs i n) ∙ first_not f (drop_slot i fs) i n ∙ drop_here fs i once.1)

pub drop_once : (fs : List (ℕ × Request)) (i : ℕ) → HasDistinctSlots fs → HasDistinctSlots (drop_slot i fs)
drop_once [] i once = tt
drop_once (f ∷ fs) i once = dite (ℕ_discrete f.0 i)
    (λ e. subst HasDistinctSlots (sym (dropped_is f fs i e)) once.1)
    (λ n. subst HasDistinctSlots (sym (dropped_not f fs i n)) (drop_else fs i f.0 n ∙ once.0, drop_once fs i once.1))

-- ---- how many slots are served at once

drop_length : (fs : List (ℕ × Request)) (i : ℕ) → length fs ≤ suc (length (drop_slot i fs))
drop_length [] i = omega arith
drop_length (f ∷ fs) i = dite (ℕ_discrete f.0 i)
    (λ e. let s = ap (λ (l : List (ℕ × Request)). length l) (dropped_is f fs i e) in omega arith)
    (λ n. let s = ap (λ (l : List (ℕ × Request)). length l) (dropped_not f fs i n) in let r = drop_length fs i in
    omega arith)

-- no more than there are slots
pub serves_few : (n : ℕ) (fs : List (ℕ × Request)) → HasDistinctSlots fs
    → ((i : ℕ) (ask : Request) → ask_at fs i ≡ Some ask → i < n) → length fs ≤ n
serves_few zero [] once inside = omega arith
serves_few zero (f ∷ fs) once inside = let none : f.0 < 0 = inside f.0 f.1 (first_is f fs f.0 refl) in
    absurd (omega arith)
serves_few (suc n) fs once inside =
    let rest = serves_few n (drop_slot n fs) (drop_once fs n once) (λ i ask is.
    let ne : i ≢ n = (λ e. let z = subst (λ (k : ℕ). ask_at (drop_slot n fs) k ≡ Some ask) e is in
    let w = drop_here fs n once in absurd (cc)) in
    let low = inside i ask (sym (drop_else fs n i ne) ∙ is) in omega arith) in
    let long = drop_length fs n in omega arith
