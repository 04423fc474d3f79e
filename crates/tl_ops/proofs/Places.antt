-- A list whose window is replaced, place by place.
use Rattle.std.proofs.Common.{◌≡◌, ℕ, zero, suc, ◌+◌, ◌-◌, ◌<◌, ◌≤◌, ⊎_elim, List, [], ◌∷◌, ◌++◌, length, take, drop, slice_get, refl, ◌∙◌, ap, arith}
use Rattle.std.proofs.lemmas.List.{length-take-le, append_assoc}
use Rattle.tl_types.proofs.Lists.{slice_get-take}
use Rattle.tl_ops.specs.Store.{with_window}
use Rattle.tl_ops.specs.Laws.{WindowByPlaces}

slice_get-append_left : (xs ys : List ℕ) (k : ℕ) → k < length xs → slice_get (xs ++ ys) k ≡ slice_get xs k
slice_get-append_left [] ys k below = absurd (omega (arith, below))
slice_get-append_left (x ∷ xs) ys zero below = refl
slice_get-append_left (x ∷ xs) ys (suc k) below = slice_get-append_left xs ys k (omega (arith, below))

slice_get-append_right : (xs ys : List ℕ) (k : ℕ) → slice_get (xs ++ ys) (length xs + k) ≡ slice_get ys k
slice_get-append_right [] ys k = ap (slice_get ys) (omega arith)
slice_get-append_right (x ∷ xs) ys k =
    let e : suc (length xs) + k ≡ suc (length xs + k) = omega arith in
    rw e (slice_get-append_right xs ys k)

slice_get-drop : (n : ℕ) (xs : List ℕ) (k : ℕ) → slice_get (drop n xs) k ≡ slice_get xs (n + k)
slice_get-drop zero xs k = ap (slice_get xs) (omega arith)
slice_get-drop (suc n) [] k = refl
slice_get-drop (suc n) (x ∷ xs) k =
    let e : suc n + k ≡ suc (n + k) = omega arith in
    rw e (slice_get-drop n xs k)

-- what stands in the second part of a list, and in the third
in_second : (xs ys : List ℕ) (n k : ℕ) → length xs ≡ n → n ≤ k → slice_get (xs ++ ys) k ≡ slice_get ys (k - n)
in_second xs ys n k wide from =
    let e : k ≡ length xs + (k - n) = omega arith in
    ap (slice_get (xs ++ ys)) e ∙ slice_get-append_right xs ys (k - n)

pub window_by_places : (bytes new : List ℕ) (start : ℕ) → start + length new ≤ length bytes
    → WindowByPlaces bytes start new
window_by_places bytes new start fits =
    let wide : length (take start bytes) ≡ start = length-take-le start bytes (omega arith) in
    let rest = drop (start + length new) bytes in
    let second : (k : ℕ) → start ≤ k → slice_get (with_window bytes start new) k ≡ slice_get (new ++ rest) (k - start) =
    λ k from. rw append_assoc (in_second (take start bytes) (new ++ rest) start k wide from) in
    record {
      inside = λ k from below. second k from ∙ slice_get-append_left new rest (k - start) (omega arith);
      outside = λ k where_. ⊎_elim
          (λ before. rw append_assoc (slice_get-append_left (take start bytes) (new ++ rest) k (omega arith)
          ∙ slice_get-take start bytes k before))
          (λ past. second k (omega arith) ∙ in_second new rest (length new) (k - start) refl (omega arith)
          ∙ slice_get-drop (start + length new) bytes (k - start - length new) ∙ ap (slice_get bytes) (omega arith))
          where_;
    }
