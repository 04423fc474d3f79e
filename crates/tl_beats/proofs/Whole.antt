-- Lanes that a mask sets all of, and what they add to the bytes of a request.
use Rattle.std.proofs.Common.{◌≡◌, ◌∙◌, ℕ, ◌+◌, ◌<◌, List, ◌++◌, length, map, Option, Some, slice_get, slice_index, ap, sym, refl, subst, arith}
use Rattle.std.specs.Prelude.{option_map}
use Rattle.std.specs.Int.{bit_at}
use Rattle.std.proofs.lemmas.List.{length-map}
use Rattle.std.proofs.lemmas.Option.{slice_get-map, slice_get-get_or}
use Rattle.tl_beats.specs.Beats.{StandsAt}
use Rattle.tl_beats.specs.Reading.{GainsLanes}
use Rattle.tl_beats.specs.declared.beat.ABeat.{ABeat}
use Rattle.tl_beats.proofs.Gaining.{gains_append, gains_so}

some_is : (a b : ℕ) (given : Option ℕ) → Some (Some a) ≡ Some given → a ≡ b → given ≡ Some b
some_is a b given e same = cc

-- lanes that are all set are gained as bytes that are all given
pub gains_whole : (beat : ABeat) (first count : ℕ) (old : List (Option ℕ)) (lanes : List ℕ) → length lanes ≡ count
    → ((k : ℕ) → k < count → bit_at beat.mask (first + k) ≡ 1)
    → ((k : ℕ) → k < count → slice_index lanes k ≡ slice_index beat.lanes (first + k))
    → GainsLanes beat first count old (old ++ map (λ byte. Some byte) lanes)
gains_whole beat first count old lanes counted set read =
    let all : List (Option ℕ) = map (λ byte. Some byte) lanes in
    let many : length all ≡ count = length-map lanes (λ byte. Some byte) ∙ counted in
    subst (λ (n : ℕ). GainsLanes beat first n old (old ++ all)) many
    (gains_so (λ k given. slice_get all k ≡ Some given) (λ k given. StandsAt beat.mask beat.lanes (first + k) given)
    (length all) old (old ++ all) (λ k given h at. stands k given (omega (arith, h, many)) at)
    (gains_append old all))
  where
    stands : (k : ℕ) (given : Option ℕ) → k < count → slice_get (map (λ byte. Some byte) lanes) k ≡ Some given
        → StandsAt beat.mask beat.lanes (first + k) given
    stands k given below at =
        let found : slice_get (map (λ byte. Some byte) lanes) k ≡ Some (Some (slice_index lanes k)) =
        slice_get-map (λ byte. Some byte) lanes k
        ∙ ap (option_map (λ byte. Some byte)) (slice_get-get_or lanes k 0 (omega (arith, below, counted))) in
        let is : given ≡ Some (slice_index beat.lanes (first + k)) =
        some_is (slice_index lanes k) (slice_index beat.lanes (first + k)) given (sym found ∙ at) (read k below) in
        rw is (set k below, refl)
