-- Requests that give the same bytes.
use Rattle.std.proofs.Common.{◌≡◌, ◌∙◌, ℕ, suc, ◌+◌, ◌<◌, ◌≤◌, ⊎_elim, Bool, List, [], ◌∷◌, length, map, Option, Some, slice_get, refl, sym, ap, arith}
use Rattle.std.specs.Prelude.{is_some, option_map}
use Rattle.std.proofs.lemmas.Bool.{cases_lt}
use Rattle.std.proofs.lemmas.List.{length-map}
use Rattle.std.proofs.lemmas.Option.{slice_get-map}

-- which of some bytes are given
abbrev pub given_in : List (Option ℕ) → List Bool
given_in bytes = map (λ byte. is_some byte) bytes

-- the first bytes of two requests are given in both, or in neither
pub record AreAlikeTo (sent seen : List (Option ℕ)) (count : ℕ) : Type 0 where
  pub each : (place : ℕ) (one other : Option ℕ) → place < count → slice_get sent place ≡ Some one
      → slice_get seen place ≡ Some other → is_some one ≡ is_some other

-- one more
pub alike_more : (sent seen : List (Option ℕ)) (count : ℕ) (one other : Option ℕ) → AreAlikeTo sent seen count
    → slice_get sent count ≡ Some one → slice_get seen count ≡ Some other → is_some one ≡ is_some other
    → AreAlikeTo sent seen (count + 1)
alike_more sent seen count one other before here there same = record {
  each = λ place a b below at also. ⊎_elim
      (λ less. before.each place a b less at also)
      (λ past.
      let is : place ≡ count = omega (arith, below, past) in
      let first : one ≡ a = some_same one a (sym here ∙ ap (slice_get sent) (sym is) ∙ at) in
      let second : other ≡ b = some_same other b (sym there ∙ ap (slice_get seen) (sym is) ∙ also) in
      ap (λ o. is_some o) (sym first) ∙ same ∙ ap (λ o. is_some o) second)
      (cases_lt place count);
}
  where
    some_same : (a b : Option ℕ) → Some a ≡ Some b → a ≡ b
    some_same a b is = cc

-- fewer
pub alike_less : (sent seen : List (Option ℕ)) (few count : ℕ) → few ≤ count → AreAlikeTo sent seen count
    → AreAlikeTo sent seen few
alike_less sent seen few count within all = record {
  each = λ place one other below at also. all.each place one other (omega (arith, below, within)) at also;
}

-- if all are, the same are given
pub alike_all : (sent seen : List (Option ℕ)) → length sent ≡ length seen → AreAlikeTo sent seen (length sent)
    → given_in seen ≡ given_in sent
alike_all [] [] counted alike = refl
alike_all [] (y ∷ seen) counted alike = absurd (omega (arith, counted))
alike_all (x ∷ sent) [] counted alike = absurd (omega (arith, counted))
alike_all (x ∷ sent) (y ∷ seen) counted alike =
    let first : is_some x ≡ is_some y = alike.each 0 x y (omega arith) refl refl in
    let rest : given_in seen ≡ given_in sent =
    alike_all sent seen (omega (arith, counted))
    (record { each = λ place a b below at also. alike.each (suc place) a b (omega (arith, below)) at also }) in
    λ i. sym first i ∷ rest i

-- the same are given in lists of one length alone
pub alike_counted : (sent seen : List (Option ℕ)) → given_in seen ≡ given_in sent → length sent ≡ length seen
alike_counted sent seen same =
    sym (length-map sent (λ byte. is_some byte)) ∙ ap length (sym same) ∙ length-map seen (λ byte. is_some byte)

-- and each is given in both or in neither
pub alike_at : (sent seen : List (Option ℕ)) (place : ℕ) (one other : Option ℕ) → given_in seen ≡ given_in sent
    → slice_get sent place ≡ Some one → slice_get seen place ≡ Some other → is_some one ≡ is_some other
alike_at sent seen place one other same here there =
    some_same (is_some one) (is_some other)
    (sym (slice_get-map (λ byte. is_some byte) sent place ∙ ap (option_map (λ byte. is_some byte)) here)
    ∙ ap (λ l. slice_get l place) (sym same)
    ∙ slice_get-map (λ byte. is_some byte) seen place ∙ ap (option_map (λ byte. is_some byte)) there)
  where
    some_same : (a b : Bool) → Some a ≡ Some b → a ≡ b
    some_same a b is = cc
