-- The entries of requests and replies with their places.
use Rattle.std.proofs.Common.{◌≡◌, ℕ, zero, suc, List, [], ◌∷◌, ◌++◌, length, Some, IsSomeAnd, slice_get, refl, ap, arith}
use Rattle.tl_types.specs.Request.{Request}
use Rattle.tl_types.specs.Response.{Response}
use Rattle.tl_types.specs.declared.trace.Entry.{Entry}
use Rattle.tl_journal.specs.Trace.{entries_of, served_entry, place_of}
use Rattle.tl_journal.specs.declared.trace.Place.{Place}

pub length-entries_of : (pairs : List (Request × Response)) (places : List Place) → length places ≡ length pairs
    → length (entries_of pairs places) ≡ length pairs
length-entries_of [] places counted = refl
length-entries_of (pair ∷ pairs) [] counted = absurd (omega (arith, counted))
length-entries_of (pair ∷ pairs) (place ∷ places) counted =
    ap suc (length-entries_of pairs places (omega (arith, counted)))

pub entries_of-push : (pairs : List (Request × Response)) (places : List Place) (pair : Request × Response)
    (place : Place) → length places ≡ length pairs
    → entries_of (pairs ++ pair ∷ []) (places ++ place ∷ []) ≡ entries_of pairs places
    ++ served_entry pair.0 pair.1 place ∷ []
entries_of-push [] [] pair place counted = refl
entries_of-push [] (other ∷ places) pair place counted = absurd (omega (arith, counted))
entries_of-push (other ∷ pairs) [] pair place counted = absurd (omega (arith, counted))
entries_of-push (first ∷ pairs) (other ∷ places) pair place counted =
    ap (λ (rest : List Entry). served_entry first.0 first.1 other ∷ rest)
    (entries_of-push pairs places pair place (omega (arith, counted)))

pub slice_get-entries_of : (pairs : List (Request × Response)) (places : List Place) (k : ℕ) (pair : Request × Response)
    (place : Place) → slice_get pairs k ≡ Some pair → slice_get places k ≡ Some place
    → slice_get (entries_of pairs places) k ≡ Some (served_entry pair.0 pair.1 place)
slice_get-entries_of [] places k pair place here there = absurd (cc)
slice_get-entries_of (first ∷ pairs) [] k pair place here there = absurd (cc)
slice_get-entries_of (first ∷ pairs) (other ∷ places) zero pair place here there =
    let same : first ≡ pair = cc in
    let at : other ≡ place = cc in
    rw (same, at) refl
slice_get-entries_of (first ∷ pairs) (other ∷ places) (suc k) pair place here there =
    slice_get-entries_of pairs places k pair place here there

pub place_of-entries_of : (pairs : List (Request × Response)) (places : List Place) (k : ℕ) (place : Place)
    → length places ≡ length pairs → slice_get places k ≡ Some place
    → IsSomeAnd (slice_get (entries_of pairs places) k) (λ entry. place ≡ place_of entry)
place_of-entries_of [] [] k place counted there = absurd (cc)
place_of-entries_of [] (other ∷ places) k place counted there = absurd (omega (arith, counted))
place_of-entries_of (first ∷ pairs) [] k place counted there = absurd (cc)
place_of-entries_of (first ∷ pairs) (other ∷ places) zero place counted there = let same : place ≡ other = cc in same
place_of-entries_of (first ∷ pairs) (other ∷ places) (suc k) place counted there =
    place_of-entries_of pairs places k place (omega (arith, counted)) there
