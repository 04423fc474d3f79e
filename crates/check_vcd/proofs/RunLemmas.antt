-- What several bytes of a word do to its front, and to the words of a text.
use Rattle.std.proofs.Common.{◌≡◌, ℕ, ◌<◌, ◌≤◌, ◌-◌, Bool, true, false, List, [], ◌∷◌, ◌++◌, ◌+◌, drop, length, take, append-nil, refl, suc, sym, ap, ap₂, arith, ◌∙◌}
use Rattle.std.proofs.Math.Seq.{append_snoc}
use Rattle.std.proofs.lemmas.Bool.Decides.{nat_tests}
use Rattle.std.proofs.Math.Nat.{min-eq_left, min-eq_right, min-le_left}
use Rattle.std.proofs.lemmas.List.{drop-drop, drop-take, length-append, length-drop, length-take, length-take-le, take-take, take_all}
use Rattle.std.specs.Prelude.{min, nat_le, nat_lt, not, slice_range, ◌&&◌, if◌then◌else◌}
use Rattle.check_vcd.specs.Words.{Front, IsFront, are_letters, is_blank, nothing, with_byte, with_bytes, words_from}
use Rattle.check_vcd.specs.declared.scanner.TheConstants.{MAX_WORD}
use Rattle.check_vcd.proofs.WordLemmas.{words-letter}

abbrev cut : ℕ → List ℕ → ℕ → List ℕ → ℕ → Front
cut most bytes size run count = record { bytes = bytes ++ take (most - length bytes) run; size = size + count }

-- of a front that has a byte more
one_more : (most : ℕ) (bytes : List ℕ) (size byte : ℕ) (run : List ℕ) (test : Bool) → test ≡ nat_lt (length bytes) most
    → cut most (if test then bytes ++ (byte ∷ []) else bytes) (size + 1) run (length run)
    ≡ cut most bytes size (byte ∷ run) (length (byte ∷ run))
one_more most bytes size byte run true is =
    let less : length bytes < most = grind (arith, nat_tests) in
    let rest : most - length bytes ≡ suc (most - length (bytes ++ (byte ∷ []))) =
    let longer : length (bytes ++ (byte ∷ [])) ≡ length bytes + 1 = length-append bytes (byte ∷ []) in
    omega (arith, less, longer) in
    let kept : (bytes ++ (byte ∷ [])) ++ take (most - length (bytes ++ (byte ∷ []))) run
    ≡ bytes ++ take (most - length bytes) (byte ∷ run) = rw rest (append_snoc bytes byte _) in
    ap₂ (λ (b : List ℕ) (n : ℕ). let f : Front = record { bytes = b; size = n } in f) kept (omega (arith))
one_more most bytes size byte run false is =
    let none : most - length bytes ≡ 0 = grind (arith, nat_tests) in
    ap₂ (λ (b : List ℕ) (n : ℕ). let f : Front = record { bytes = b; size = n } in f)
    (ap (λ (n : ℕ). bytes ++ take n run) none ∙ sym (ap (λ (n : ℕ). bytes ++ take n (byte ∷ run)) none)) (omega (arith))

-- of a long word the front is kept
pub with-run : (front : Front) (run : List ℕ)
    → with_bytes front run ≡ cut MAX_WORD front.bytes front.size run (length run)
with-run front [] =
    let kept : front.bytes ≡ front.bytes ++ take (MAX_WORD - length front.bytes) [] =
    sym (ap (λ (l : List ℕ). front.bytes ++ l) (take_all (MAX_WORD - length front.bytes) [] (omega (arith)))
    ∙ append-nil front.bytes) in
    let size : front.size ≡ front.size + length {A = ℕ} [] = omega (arith) in
    ap₂ (λ (b : List ℕ) (n : ℕ). let f : Front = record { bytes = b; size = n } in f) kept size
with-run front (byte ∷ run) =
    with-run (with_byte front byte) run
    ∙ one_more MAX_WORD front.bytes front.size byte run (nat_lt (length front.bytes) MAX_WORD) refl

-- a word that is no longer than what is kept
pub whole-run : (run : List ℕ) → length run ≤ MAX_WORD → with_bytes nothing run ≡ record { bytes = run; size = length run }
whole-run run fits =
    with-run nothing run
    ∙ ap₂ (λ (b : List ℕ) (n : ℕ). let f : Front = record { bytes = b; size = n } in f)
    (take_all MAX_WORD run fits) (let e : 0 + length run ≡ length run = omega arith in e)

pub front-run : (front : Front) (run : List ℕ) → IsFront front → IsFront (with_bytes front run)
front-run front [] is = is
front-run front (byte ∷ run) is = front-run (with_byte front byte) run (λ none. absurd (omega (arith, none)))

letter : (blank rest : Bool) → (not blank && rest) ≡ true → blank ≡ false
letter true rest is = absurd (cc)
letter false rest is = refl

letters : (blank rest : Bool) → (not blank && rest) ≡ true → rest ≡ true
letters true rest is = absurd (cc)
letters false rest is = is

pub words-run : (line : ℕ) (front : Front) (run text : List ℕ) → are_letters run ≡ true
    → words_from line front (run ++ text) ≡ words_from line (with_bytes front run) text
words-run line front [] text are = refl
words-run line front (byte ∷ run) text are =
    words-letter line front byte (run ++ text) (letter (is_blank byte) (are_letters run) are)
    ∙ words-run line (with_byte front byte) run text (letters (is_blank byte) (are_letters run) are)

-- the front of a front
take-min : (a b : ℕ) (xs : List ℕ) → take b (take a xs) ≡ take (min a b) xs
take-min a b xs = go (nat_le a b) refl
  where
    go : (test : Bool) → test ≡ nat_le a b → take b (take a xs) ≡ take (min a b) xs
    go true is =
        let few : a ≤ b = grind (arith, nat_tests) in
        let size : length (take a xs) ≡ min a (length xs) = length-take a xs in
        let most = min-le_left a (length xs) in
        take_all b (take a xs) (omega (arith, few, size, most)) ∙ ap (λ (n : ℕ). take n xs) (sym (min-eq_left few))
    go false is =
        let many : b ≤ a = grind (arith, nat_tests) in
        take-take b a xs many ∙ ap (λ (n : ℕ). take n xs) (sym (min-eq_right many))

-- the bytes at hand of which some are taken
pub hand-front : (xs : List ℕ) (from to count most : ℕ) → from + count ≤ to
    → slice_range xs from (from + min count most) ≡ take most (take count (slice_range xs from to))
hand-front xs from to count most inside =
    let room : count ≤ to - from = omega (arith, inside) in
    let kept : from + min count most - from ≡ min count most = omega (arith) in
    ap (λ (n : ℕ). take n (drop from xs)) kept
    ∙ sym (ap (λ (l : List ℕ). take most l) (take-take count (to - from) (drop from xs) room)
    ∙ take-min count most (drop from xs))

pub hand-after : (xs : List ℕ) (from to count : ℕ) → from + count ≤ to
    → drop count (slice_range xs from to) ≡ slice_range xs (from + count) to
hand-after xs from to count inside =
    let parts : to - from ≡ count + (to - (from + count)) = omega (arith, inside) in
    ap (λ (n : ℕ). drop count (take n (drop from xs))) parts
    ∙ drop-take count (to - (from + count)) (drop from xs)
    ∙ ap (λ (l : List ℕ). take (to - (from + count)) l) (drop-drop count from xs)

pub hand-length : (xs : List ℕ) (from to count : ℕ) → from + count ≤ to → to ≤ length xs
    → length (take count (slice_range xs from to)) ≡ count
hand-length xs from to count inside all =
    let room : count ≤ to - from = omega (arith, inside) in
    let left : length (drop from xs) ≡ length xs - from = length-drop from xs in
    ap length (take-take count (to - from) (drop from xs) room)
    ∙ length-take-le count (drop from xs) (omega (arith, left, inside, all))
