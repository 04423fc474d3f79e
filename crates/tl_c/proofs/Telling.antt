-- Bytes of an answer that are told one after the other.
use Rattle.std.proofs.Common.{◌≡◌, ◌∙◌, sym, ℕ, zero, suc, ◌+◌, ◌<◌, Bool, true, false, List, [], ◌∷◌, length, map, set, get_or, slice_get, Option, Some, refl, ap, arith}
use Rattle.std.proofs.lemmas.List.{length-map}
use Rattle.std.proofs.lemmas.List.Edits.{paste_more}
use lib.Seq.{paste}
use mir.Val.{bool_byte}
use Rattle.tl_c.specs.Wire.{flag_number}

-- what is told of the cell at a place
told_there : (f : Option ℕ → ℕ) (cells : List (Option ℕ)) (place : ℕ) (cell : Option ℕ) → slice_get cells place ≡ Some cell
    → get_or (map f cells) place 0 ≡ f cell
told_there f [] place cell is = absurd (cc)
told_there f (first ∷ cells) zero cell is = let same : first ≡ cell = cc in ap f same
told_there f (first ∷ cells) (suc place) cell is = told_there f cells place cell is

-- so many are told, and one more
pub one_more_told : (f : Option ℕ → ℕ) (cells : List (Option ℕ)) (bytes now : List ℕ) (place : ℕ) (cell : Option ℕ) (byte : ℕ)
    → length bytes ≡ length cells → place < length bytes → now ≡ paste bytes 0 (map f cells) place
    → slice_get cells place ≡ Some cell → byte ≡ f cell → set now place byte ≡ paste bytes 0 (map f cells) (place + 1)
one_more_told f cells bytes now place cell byte counted below is there told =
    let here : 0 + place ≡ place = omega arith in
    let long = length-map cells f in
    ap (λ l. set l place byte) is
    ∙ ap (λ b. set (paste bytes 0 (map f cells) place) place b) (told ∙ sym (told_there f cells place cell there))
    ∙ ap (λ p. set (paste bytes 0 (map f cells) place) p (get_or (map f cells) place 0)) (sym here)
    ∙ paste_more bytes 0 (map f cells) place 0 (omega (arith, below)) (omega (arith, below, counted, long))

-- a flag as a byte
pub flag_byte : (flag : Bool) → bool_byte flag ≡ flag_number flag
flag_byte true = refl
flag_byte false = refl
