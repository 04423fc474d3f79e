-- Whether the name at a place is one of those before it.
use Rattle.std.proofs.Common.{◌≡◌, ◌∙◌, ℕ, ◌<◌, List, length, map, take, get_or, Bool, true, false, Bor, Some, slice_get, option_map, refl, ap}
use Rattle.std.proofs.lemmas.List.{take-map}
use Rattle.std.proofs.lemmas.Option.{slice_get-get_or, slice_get-map}
use Rattle.check_keys.specs.Known.{is_among}
use Rattle.check_description.specs.Name.{StoodBefore}

-- what contracts see of a name
abbrev pub shown : Bor (List ℕ) → List ℕ
shown name = name.now

name_at : (names : List (Bor (List ℕ))) (place : ℕ) (d : Bor (List ℕ)) → place < length names
    → slice_get (map shown names) place ≡ Some (shown (get_or names place d))
name_at names place d within =
    slice_get-map shown names place ∙ ap (option_map shown) (slice_get-get_or names place d within)

pub stood : (names : List (Bor (List ℕ))) (place : ℕ) (d : Bor (List ℕ)) (answer : Bool) → place < length names
    → answer ≡ is_among (map shown (take place names)) (shown (get_or names place d)) → answer ≡ true
    → StoodBefore (map shown names) place
stood names place d answer within is given =
    rw (name_at names place d within, take-map shown place names, ← is, given) refl

pub not_stood : (names : List (Bor (List ℕ))) (place : ℕ) (d : Bor (List ℕ)) (answer : Bool) → place < length names
    → answer ≡ is_among (map shown (take place names)) (shown (get_or names place d)) → answer ≡ false
    → StoodBefore (map shown names) place → ⊥
not_stood names place d answer within is refused before =
    let none : false ≡ true = rw (name_at names place d within, take-map shown place names, ← is, refused) at before in
    absurd cc
