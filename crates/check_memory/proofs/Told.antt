-- What is known of bytes: cell by cell, nothing or the byte itself.
use Rattle.std.proofs.Common.{◌≡◌, ◌∙◌, ℕ, zero, suc, ◌+◌, List, [], ◌∷◌, ◌++◌, length, take, drop, replicate, get_or, Option, Some, None, refl, sym, ap, subst, arith}
use Rattle.std.proofs.lemmas.List.{length-map}
use Rattle.check_memory.specs.Known.{IsBelow, known, replaced}
use Rattle.tl_ops.specs.Store.{with_window}

abbrev pub IsTold : Option ℕ → ℕ → Type 0
IsTold None byte = Unit {0}
IsTold (Some cell) byte = cell ≡ byte

abbrev pub Told : List (Option ℕ) → List ℕ → Type 0
Told [] [] = Unit {0}
Told [] (byte ∷ bytes) = ⊥
Told (cell ∷ cells) [] = ⊥
Told (cell ∷ cells) (byte ∷ bytes) = IsTold cell byte × Told cells bytes

pub told-length : (cells : List (Option ℕ)) (bytes : List ℕ) → Told cells bytes → length bytes ≡ length cells
told-length [] [] told = refl
told-length [] (byte ∷ bytes) told = absurd told
told-length (cell ∷ cells) [] told = absurd told
told-length (cell ∷ cells) (byte ∷ bytes) told = ap suc (told-length cells bytes told.1)

pub told-take : (n : ℕ) (cells : List (Option ℕ)) (bytes : List ℕ) → Told cells bytes
    → Told (take n cells) (take n bytes)
told-take zero cells bytes told = tt
told-take (suc n) [] [] told = tt
told-take (suc n) [] (byte ∷ bytes) told = absurd told
told-take (suc n) (cell ∷ cells) [] told = absurd told
told-take (suc n) (cell ∷ cells) (byte ∷ bytes) told = (told.0, told-take n cells bytes told.1)

pub told-drop : (n : ℕ) (cells : List (Option ℕ)) (bytes : List ℕ) → Told cells bytes
    → Told (drop n cells) (drop n bytes)
told-drop zero cells bytes told = told
told-drop (suc n) [] [] told = tt
told-drop (suc n) [] (byte ∷ bytes) told = absurd told
told-drop (suc n) (cell ∷ cells) [] told = absurd told
told-drop (suc n) (cell ∷ cells) (byte ∷ bytes) told = told-drop n cells bytes told.1

pub told-append : (cells : List (Option ℕ)) (bytes : List ℕ) (cells' : List (Option ℕ)) (bytes' : List ℕ)
    → Told cells bytes → Told cells' bytes' → Told (cells ++ cells') (bytes ++ bytes')
told-append [] [] cells' bytes' told told' = told'
told-append [] (byte ∷ bytes) cells' bytes' told told' = absurd told
told-append (cell ∷ cells) [] cells' bytes' told told' = absurd told
told-append (cell ∷ cells) (byte ∷ bytes) cells' bytes' told told' =
    (told.0, told-append cells bytes cells' bytes' told.1 told')

pub told-known : (bytes : List ℕ) → Told (known bytes) bytes
told-known [] = tt
told-known (byte ∷ bytes) = (refl, told-known bytes)

pub told-none : (n : ℕ) (bytes : List ℕ) → length bytes ≡ n → Told (replicate n None) bytes
told-none zero [] long = tt
told-none zero (byte ∷ bytes) long = absurd (omega (arith, long))
told-none (suc n) [] long = absurd (omega (arith, long))
told-none (suc n) (byte ∷ bytes) long = (tt, told-none n bytes (omega (arith, long)))

-- a window replaced on both sides
pub told-replaced : (cells : List (Option ℕ)) (bytes : List ℕ) (start : ℕ) (new : List (Option ℕ)) (new' : List ℕ)
    → Told cells bytes → Told new new' → Told (replaced cells start new) (with_window bytes start new')
told-replaced cells bytes start new new' told told' =
    let P : ℕ → Type 0 = λ n. Told (replaced cells start new) (take start bytes ++ new' ++ drop (start + n) bytes) in
    let front : Told (take start cells ++ new) (take start bytes ++ new') =
    told-append (take start cells) (take start bytes) new new' (told-take start cells bytes told) told' in
    let all : P (length new) = told-append (take start cells ++ new) (take start bytes ++ new')
    (drop (start + length new) cells) (drop (start + length new) bytes) front
    (told-drop (start + length new) cells bytes told) in
    subst P (sym (told-length new new' told')) all

-- ---- the same by places

told-kept : (cells : List (Option ℕ)) (bytes : List ℕ) (place byte : ℕ) → Told cells bytes
    → get_or cells place None ≡ Some byte → get_or (known bytes) place None ≡ Some byte
told-kept [] [] place byte told is = is
told-kept [] (b ∷ bytes) place byte told is = absurd told
told-kept (cell ∷ cells) [] place byte told is = absurd told
told-kept (None ∷ cells) (b ∷ bytes) zero byte told is = cc
told-kept (Some cell ∷ cells) (b ∷ bytes) zero byte told is = ap (λ x. Some x) (sym told.0) ∙ is
told-kept (cell ∷ cells) (b ∷ bytes) (suc place) byte told is = told-kept cells bytes place byte told.1 is

pub below_from_told : (cells : List (Option ℕ)) (bytes : List ℕ) → Told cells bytes → IsBelow cells (known bytes)
below_from_told cells bytes told = record {
  counted = length-map bytes (λ byte. Some byte) ∙ told-length cells bytes told;
  kept = λ place byte is. told-kept cells bytes place byte told is;
}

told_here : (cell : Option ℕ) (byte : ℕ) → ((known : ℕ) → cell ≡ Some known → Some byte ≡ Some known) → IsTold cell byte
told_here None byte keeps = tt
told_here (Some known) byte keeps = let same : Some byte ≡ Some known = keeps known refl in cc

told_by_places : (cells : List (Option ℕ)) (bytes : List ℕ) → length bytes ≡ length cells
    → ((place byte : ℕ) → get_or cells place None ≡ Some byte → get_or (known bytes) place None ≡ Some byte)
    → Told cells bytes
told_by_places [] [] long keeps = tt
told_by_places [] (byte ∷ bytes) long keeps = absurd (omega (arith, long))
told_by_places (cell ∷ cells) [] long keeps = absurd (omega (arith, long))
told_by_places (cell ∷ cells) (byte ∷ bytes) long keeps = (
  told_here cell byte (λ known is. keeps zero known is),
  told_by_places cells bytes (omega (arith, long)) (λ place b is. keeps (suc place) b is),
)

pub told_from_below : (cells : List (Option ℕ)) (bytes : List ℕ) → IsBelow cells (known bytes) → Told cells bytes
told_from_below cells bytes below =
    told_by_places cells bytes (sym (length-map bytes (λ byte. Some byte)) ∙ below.counted)
    (λ place byte is. below.kept place byte is)
