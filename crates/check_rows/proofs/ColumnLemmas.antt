-- What stands in the columns of a record, and between the commas of a line.
use Rattle.std.proofs.Common.{◌≡◌, ℕ, zero, suc, ◌+◌, ◌<◌, ◌≤◌, ◌==◌, true, false, List, [], ◌∷◌, ◌++◌, Some, map, take, drop, length, get_or, set, Option, None, refl, sym, ap, ◌∙◌, arith, subst, take-append-drop, take_all}
use Rattle.std.specs.Borrow.{Bor}
use Rattle.std.specs.Option.{option_map, unwrap_or}
use Rattle.std.specs.List.{All}
use Rattle.std.specs.Prelude.{◌&&◌, codes}
use Rattle.std.specs.Str.{bytes_eq}
use Rattle.std.proofs.lemmas.Bool.Decides.{nat_tests}
use Rattle.std.proofs.lemmas.List.{drop_more, length-map, length-set, length-take-le, map-append, take_more_set}
use Rattle.std.proofs.lemmas.List.Splits.{length-slice_split, slice_split_at, slice_split_none}
use Rattle.csv.specs.Records.{field_at}
use Rattle.check_rows.specs.Column.{or_empty, column_parts, is_cut}

-- ---- columns

pub field-word : (fields : List (List ℕ)) (i : ℕ) → i < length fields → field_at fields i ≡ Some (get_or fields i [])
unfolding field_at
field-word [] i inside = absurd (omega (arith, inside))
field-word (field ∷ fields) zero inside = refl
field-word (field ∷ fields) (suc i) inside = field-word fields i (omega (arith, inside))

-- a word that is there, or else the empty one
pub found-word : (found : Option (Bor (List ℕ))) (other : Bor (List ℕ)) → other.now ≡ []
    → (unwrap_or found other).now ≡ or_empty (option_map (λ word. word.now) found)
found-word None other none = none
found-word (Some word) other none = refl

pub word-at : (words : List (Bor (List ℕ))) (i : ℕ) (d : Bor (List ℕ)) → i < length words
    → or_empty (field_at (map (λ word. word.now) words) i) ≡ (get_or words i d).now
unfolding field_at
word-at [] i d inside = absurd (omega (arith, inside))
word-at (word ∷ words) zero d inside = refl
word-at (word ∷ words) (suc i) d inside = word-at words i d (omega (arith, inside))

-- ---- parts of a line

all-plain : (text : List ℕ) (n : ℕ) → n ≤ length text → ((place : ℕ) → place < n → (get_or text place 0 == 44) ≡ false)
    → All (λ byte. (byte == 44) ≡ false) (take n text)
all-plain text zero inside plain = λ k d below. absurd (omega (arith, below))
all-plain [] (suc n) inside plain = absurd (omega (arith, inside))
all-plain (byte ∷ text) (suc n) inside plain =
    go (all-plain text n (omega (arith, inside)) (λ place below. plain (suc place) (omega (arith, below))))
  where
    go : All (λ c. (c == 44) ≡ false) (take n text) → All (λ c. (c == 44) ≡ false) (byte ∷ take n text)
    go rest zero d below = plain 0 (omega arith)
    go rest (suc k) d below = rest k d (omega (arith, below))

-- the first comma stands at this place
pub parts-cut : (text : List ℕ) (n : ℕ) → n < length text
    → ((place : ℕ) → place < n → (get_or text place 0 == 44) ≡ false) → (get_or text n 0 == 44) ≡ true
    → column_parts text ≡ take n text ∷ column_parts (drop (n + 1) text)
parts-cut text n inside plain ends =
    ap column_parts (sym (take-append-drop n text) ∙ ap (λ (rest : List ℕ). take n text ++ rest) (drop_more text n 0 inside))
    ∙ slice_split_at (λ (byte : ℕ). byte == 44) (take n text) (get_or text n 0) (drop (n + 1) text)
    (all-plain text n (omega (arith, inside)) plain) ends

-- there is none
pub parts-whole : (text : List ℕ) → ((place : ℕ) → place < length text → (get_or text place 0 == 44) ≡ false)
    → column_parts text ≡ text ∷ []
parts-whole text plain =
    slice_split_none (λ (byte : ℕ). byte == 44) text
    (subst (All (λ byte. (byte == 44) ≡ false)) (take_all (length text) text (omega arith))
    (all-plain text (length text) (omega arith) plain))

-- ---- words that are found one by one

pub length-words : (all : List (Bor (List ℕ))) (n : ℕ) → n ≤ length all
    → length (map (λ word. word.now) (take n all)) ≡ n
length-words all n inside = length-map (take n all) (λ word. word.now) ∙ length-take-le n all inside

-- the last word is found
pub words-last : (all : List (Bor (List ℕ))) (i : ℕ) (word : Bor (List ℕ)) → i < length all
    → map (λ w. w.now) (take (i + 1) (set all i word)) ≡ map (λ w. w.now) (take i all) ++ word.now ∷ []
words-last all i word inside =
    ap (λ (xs : List (Bor (List ℕ))). map (λ w. w.now) xs) (take_more_set all i word inside)
    ∙ map-append (λ (w : Bor (List ℕ)). w.now) (take i all) (word ∷ [])

-- all of them are found
pub words-all : (all : List (Bor (List ℕ))) (i : ℕ) (word : Bor (List ℕ)) → i + 1 ≡ length all
    → map (λ w. w.now) (set all i word) ≡ map (λ w. w.now) (take i all) ++ word.now ∷ []
words-all all i word size =
    ap (λ (xs : List (Bor (List ℕ))). map (λ w. w.now) xs)
    (sym (take_all (i + 1) (set all i word) (omega (arith, size, length-set all i word))))
    ∙ words-last all i word (omega (arith, size))

-- a line has a part
pub some-part : (line : List ℕ) → 0 < length (column_parts line)
some-part line = let size = length-slice_split (λ (byte : ℕ). byte == 44) line in omega (arith, size)

-- ---- where a fault cut a capture short

pub cut_word : (word : List ℕ) → bytes_eq word (codes "fault") ≡ is_cut (word ∷ [])
unfolding field_at
cut_word word =
    let one : (length (word ∷ []) == 1) ≡ true = grind (arith, nat_tests) in
    sym (ap (λ b. b && bytes_eq word (codes "fault")) one)

pub cut_more : (word : List ℕ) (words : List (List ℕ)) → 0 < length words → is_cut (word ∷ words) ≡ false
cut_more word words some =
    let more : (length (word ∷ words) == 1) ≡ false = grind (arith, nat_tests, some) in
    ap (λ b. b && bytes_eq (or_empty (field_at (word ∷ words) 0)) (codes "fault")) more
