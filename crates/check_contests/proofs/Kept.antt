-- Those kept, by their wide sources.
use Rattle.std.proofs.Common.{◌≡◌, ◌∙◌, ℕ, Bool, true, false, if◌then◌else◌, ◌==◌, List, [], ◌∷◌, ◌++◌, map, Option, Some, None, refl, sym, ap}
use Rattle.std.specs.Prelude.{option_map}
use Rattle.std.specs.List.{list_any}
use Rattle.std.proofs.lemmas.Bool.{eq-eqb, ne_eqb, eqb-true, eqb-false, or_parts}
use Rattle.check_contests.specs.Contests.{Accepted, kept_of, kept_answering}
use Rattle.check_contests.specs.Below.{AreApart}

-- ---- those kept

pub wide_of : (kept : List Accepted) (wide : ℕ) (entry : Accepted) → kept_of kept wide ≡ Some entry
    → entry.wide ≡ wide
wide_of [] wide entry is = cc
wide_of (first ∷ kept) wide entry is = by_cases (first.wide == wide) refl is (λ rest. wide_of kept wide entry rest)
  where
    by_cases : (b : Bool) → (first.wide == wide) ≡ b → (if b then Some first else kept_of kept wide) ≡ Some entry
        → (kept_of kept wide ≡ Some entry → entry.wide ≡ wide) → entry.wide ≡ wide
    by_cases true here is' rest =
        let same : first ≡ entry = cc in ap (λ (e : Accepted). e.wide) (sym same) ∙ eqb-true first.wide wide here
    by_cases false here is' rest = rest is'

-- what none of them has, that of a wide source has not
pub none_of : (test : Accepted → Bool) (kept : List Accepted) (wide : ℕ) (entry : Accepted)
    → list_any test kept ≡ false → kept_of kept wide ≡ Some entry → test entry ≡ false
none_of test [] wide entry none is = cc
none_of test (first ∷ kept) wide entry none is =
    let parts = or_parts (test first) (list_any test kept) none in
    by_cases (first.wide == wide) is parts.0 (λ rest. none_of test kept wide entry parts.1 rest)
  where
    by_cases : (b : Bool) → (if b then Some first else kept_of kept wide) ≡ Some entry → test first ≡ false
        → (kept_of kept wide ≡ Some entry → test entry ≡ false) → test entry ≡ false
    by_cases true is' here rest = let same : first ≡ entry = cc in ap test (sym same) ∙ here
    by_cases false is' here rest = rest is'

-- changed each by itself
pub kept-map : (f : Accepted → Accepted) (kept : List Accepted) (wide : ℕ)
    → ((entry : Accepted) → (f entry).wide ≡ entry.wide)
    → kept_of (map f kept) wide ≡ option_map f (kept_of kept wide)
kept-map f [] wide same = refl
kept-map f (first ∷ kept) wide same = by_cases (first.wide == wide) refl (kept-map f kept wide same)
  where
    by_cases : (b : Bool) → (first.wide == wide) ≡ b → kept_of (map f kept) wide ≡ option_map f (kept_of kept wide)
        → (if (f first).wide == wide then Some (f first) else kept_of (map f kept) wide)
        ≡ option_map f (if first.wide == wide then Some first else kept_of kept wide)
    by_cases true here rest =
        let there : ((f first).wide == wide) ≡ true = rw (same first) here in rw (there, here) refl
    by_cases false here rest =
        let there : ((f first).wide == wide) ≡ false = rw (same first) here in rw (there, here) rest

pub apart-map : (f : Accepted → Accepted) (kept : List Accepted) → ((entry : Accepted) → (f entry).wide ≡ entry.wide)
    → AreApart kept → AreApart (map f kept)
apart-map f [] same apart = tt
apart-map f (first ∷ kept) same apart = (
  ap (kept_of (map f kept)) (same first) ∙ kept-map f kept first.wide same ∙ ap (option_map f) apart.0,
  apart-map f kept same apart.1,
)

-- one more
pub kept-other : (kept : List Accepted) (entry : Accepted) (wide : ℕ) → (entry.wide ≡ wide → ⊥)
    → kept_of (kept ++ entry ∷ []) wide ≡ kept_of kept wide
kept-other [] entry wide apart = rw (ne_eqb entry.wide wide apart) refl
kept-other (first ∷ kept) entry wide apart =
    ap (λ rest. if first.wide == wide then Some first else rest) (kept-other kept entry wide apart)

pub kept-new : (kept : List Accepted) (entry : Accepted) (wide : ℕ) → entry.wide ≡ wide → kept_of kept wide ≡ None
    → kept_of (kept ++ entry ∷ []) wide ≡ Some entry
kept-new [] entry wide same none = rw (eq-eqb entry.wide wide same) refl
kept-new (first ∷ kept) entry wide same none =
    by_cases (first.wide == wide) none (λ rest. kept-new kept entry wide same rest)
  where
    by_cases : (b : Bool) → (if b then Some first else kept_of kept wide) ≡ None
        → (kept_of kept wide ≡ None → kept_of (kept ++ entry ∷ []) wide ≡ Some entry)
        → (if b then Some first else kept_of (kept ++ entry ∷ []) wide) ≡ Some entry
    by_cases true none' rest = cc
    by_cases false none' rest = rest none'

pub apart-new : (kept : List Accepted) (entry : Accepted) → kept_of kept entry.wide ≡ None → AreApart kept
    → AreApart (kept ++ entry ∷ [])
apart-new [] entry none apart = (refl, tt)
apart-new (first ∷ kept) entry none apart =
    by_cases (first.wide == entry.wide) refl none (λ rest. apart-new kept entry rest apart.1)
  where
    by_cases : (b : Bool) → (first.wide == entry.wide) ≡ b
        → (if b then Some first else kept_of kept entry.wide) ≡ None
        → (kept_of kept entry.wide ≡ None → AreApart (kept ++ entry ∷ [])) → AreApart ((first ∷ kept) ++ entry ∷ [])
    by_cases true here none' rest = cc
    by_cases false here none' rest = (
      kept-other kept entry first.wide (λ same. eqb-false first.wide entry.wide here (sym same)) ∙ apart.0,
      rest none',
    )

-- one less
pub answering-other : (kept : List Accepted) (wide other : ℕ) → (other ≡ wide → ⊥)
    → kept_of (kept_answering kept wide) other ≡ kept_of kept other
answering-other [] wide other apart = refl
answering-other (first ∷ kept) wide other apart =
    by_cases (first.wide == wide) refl (answering-other kept wide other apart)
  where
    by_cases : (b : Bool) → (first.wide == wide) ≡ b
        → kept_of (kept_answering kept wide) other ≡ kept_of kept other
        → kept_of (if b then kept else first ∷ kept_answering kept wide) other ≡ kept_of (first ∷ kept) other
    by_cases true here rest =
        let there : (first.wide == other) ≡ false =
        ne_eqb first.wide other (λ same. apart (sym same ∙ eqb-true first.wide wide here)) in
        rw there refl
    by_cases false here rest = ap (λ (o : Option Accepted). if first.wide == other then Some first else o) rest

pub answering-same : (kept : List Accepted) (wide : ℕ) → AreApart kept
    → kept_of (kept_answering kept wide) wide ≡ None
answering-same [] wide apart = refl
answering-same (first ∷ kept) wide apart =
    by_cases (first.wide == wide) refl (answering-same kept wide apart.1)
  where
    by_cases : (b : Bool) → (first.wide == wide) ≡ b → kept_of (kept_answering kept wide) wide ≡ None
        → kept_of (if b then kept else first ∷ kept_answering kept wide) wide ≡ None
    by_cases true here rest = ap (kept_of kept) (sym (eqb-true first.wide wide here)) ∙ apart.0
    by_cases false here rest = rw here rest

pub apart-answering : (kept : List Accepted) (wide : ℕ) → AreApart kept → AreApart (kept_answering kept wide)
apart-answering [] wide apart = tt
apart-answering (first ∷ kept) wide apart =
    by_cases (first.wide == wide) refl (apart-answering kept wide apart.1)
  where
    by_cases : (b : Bool) → (first.wide == wide) ≡ b → AreApart (kept_answering kept wide)
        → AreApart (if b then kept else first ∷ kept_answering kept wide)
    by_cases true here rest = apart.1
    by_cases false here rest = (
      answering-other kept wide first.wide (λ same. eqb-false first.wide wide here same) ∙ apart.0,
      rest,
    )
