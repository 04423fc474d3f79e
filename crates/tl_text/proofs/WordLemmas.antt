-- The parts of a line between its blanks.
use Rattle.std.proofs.Common.{◌≡◌, ◌∙◌, ℕ, ◌<◌, Bool, true, false, cond, List, [], ◌∷◌, ◌++◌, length, filter, refl, ap, sym, append_assoc, arith}
use Rattle.std.specs.List.{slice_split, onto_first}
use Rattle.std.proofs.lemmas.Bool.Decides.{nat_tests}
use Rattle.std.proofs.lemmas.List.{append-nil}
use Rattle.tl_text.specs.Word.{has_bytes, is_blank, words_of}

-- the parts with these bytes put before the first
abbrev pub before_first : List ℕ → List (List ℕ) → List (List ℕ)
before_first front [] = front ∷ []
before_first front (part ∷ parts) = (front ++ part) ∷ parts

before-onto : (front : List ℕ) (b : ℕ) (parts : List (List ℕ))
    → before_first front (onto_first b parts) ≡ before_first (front ++ b ∷ []) parts
before-onto front b [] = refl
before-onto front b (part ∷ parts) = ap (λ (first : List ℕ). first ∷ parts) (sym (append_assoc front (b ∷ []) part))

-- nothing is put before the parts
pub before_nothing : (line : List ℕ) → slice_split is_blank line ≡ before_first [] (slice_split is_blank line)
before_nothing [] = refl
before_nothing (b ∷ line) = by (is_blank b) where
  onto : (parts : List (List ℕ)) → onto_first b parts ≡ before_first [] (onto_first b parts)
  onto [] = refl
  onto (part ∷ parts) = refl

  by : (blank : Bool) → cond blank ([] ∷ slice_split is_blank line)
      (onto_first b (slice_split is_blank line)) ≡ before_first []
      (cond blank ([] ∷ slice_split is_blank line) (onto_first b (slice_split is_blank line)))
  by true = refl
  by false = onto (slice_split is_blank line)

-- a blank before a line is no word of it
pub blank_first : (b : ℕ) (line : List ℕ) → is_blank b ≡ true → words_of (b ∷ line) ≡ words_of line
blank_first b line blank = rw blank refl

-- a byte more of the first part
pub part_more : (front : List ℕ) (b : ℕ) (rest : List ℕ) → is_blank b ≡ false
    → before_first front (slice_split is_blank (b ∷ rest)) ≡ before_first (front ++ b ∷ []) (slice_split is_blank rest)
part_more front b rest inside = rw inside (before-onto front b (slice_split is_blank rest))

-- the first part is a word, if it has bytes
some_first : (part : List ℕ) (parts : List (List ℕ)) → 0 < length part
    → filter has_bytes (part ∷ parts) ≡ part ∷ filter has_bytes parts
some_first part parts some =
    let has : has_bytes part ≡ true = grind (arith, nat_tests) in
    ap (λ (keep : Bool). cond keep (part ∷ filter has_bytes parts) (filter has_bytes parts)) has

pub first_is_last : (front : List ℕ) → 0 < length front
    → filter has_bytes (before_first front (slice_split is_blank [])) ≡ front ∷ words_of []
first_is_last front some =
    ap (λ (part : List ℕ). filter has_bytes (part ∷ [])) (append-nil front) ∙ some_first front [] some

pub first_is_followed : (front : List ℕ) (b : ℕ) (more : List ℕ) → is_blank b ≡ true → 0 < length front
    → filter has_bytes (before_first front (slice_split is_blank (b ∷ more))) ≡ front ∷ words_of (b ∷ more)
first_is_followed front b more blank some =
    rw blank (ap (λ (part : List ℕ). filter has_bytes (part ∷ slice_split is_blank more)) (append-nil front)
    ∙ some_first front (slice_split is_blank more) some)
