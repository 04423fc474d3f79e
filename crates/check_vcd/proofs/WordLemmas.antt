-- What a byte does to the words of a text.
use Rattle.std.proofs.Common.{◌≡◌, ℕ, ◌<◌, ◌==◌, Bool, true, false, cond, List, [], ◌∷◌, ◌++◌, ◌+◌, refl, sym, ap, ap₂, arith, ◌∙◌}
use Rattle.std.proofs.lemmas.Bool.Decides.{nat_tests}
use Rattle.check_vcd.specs.Words.{Front, IsFront, is_blank, line_after, nothing, with_byte, word_if_any, words_from}

-- a byte of a word
pub words-letter : (line : ℕ) (front : Front) (byte : ℕ) (text : List ℕ) → is_blank byte ≡ false
    → words_from line front (byte ∷ text) ≡ words_from line (with_byte front byte) text
unfolding words_from
words-letter line front byte text not = rw not refl

-- a blank
pub words-blank : (line : ℕ) (front : Front) (byte : ℕ) (text : List ℕ) → is_blank byte ≡ true
    → words_from line front (byte ∷ text) ≡ word_if_any line front ++ words_from (line_after line byte) nothing text
unfolding words_from
words-blank line front byte text is = rw is refl

-- it ends a word that has bytes
pub words-ended : (line : ℕ) (front : Front) (byte : ℕ) (text : List ℕ) → is_blank byte ≡ true → 0 < front.size
    → words_from line front (byte ∷ text)
    ≡ record { line = line; bytes = front.bytes; size = front.size } ∷ words_from (line_after line byte) nothing text
words-ended line front byte text is some =
    let test : front.size == 0 ≡ false = grind (arith, nat_tests) in
    words-blank line front byte text is
    ∙ ap (λ (none : Bool). cond none [] (record { line = line; bytes = front.bytes; size = front.size } ∷ [])
    ++ words_from (line_after line byte) nothing text) test

-- or stands before the first
pub words-skipped : (line : ℕ) (front : Front) (byte : ℕ) (text : List ℕ) → is_blank byte ≡ true → front.size ≡ 0
    → IsFront front
    → words_from line front (byte ∷ text) ≡ words_from (line_after line byte) front text
words-skipped line front byte text is none front_is =
    let empty = front_is none in
    let test : front.size == 0 ≡ true = grind (arith, nat_tests) in
    let same : nothing ≡ front =
    ap₂ (λ (b : List ℕ) (n : ℕ). let f : Front = record { bytes = b; size = n } in f) (sym empty) (sym none) in
    words-blank line front byte text is
    ∙ ap (λ (none : Bool). cond none [] (record { line = line; bytes = front.bytes; size = front.size } ∷ [])
    ++ words_from (line_after line byte) nothing text) test
    ∙ ap (λ (f : Front). words_from (line_after line byte) f text) same

pub line-feed : (line byte : ℕ) → byte ≡ 10 → line_after line byte ≡ line + 1
line-feed line byte is = rw is refl

pub line-same : (line byte : ℕ) → (byte ≡ 10 → ⊥) → line_after line byte ≡ line
line-same line byte not =
    let test : byte == 10 ≡ false = grind (arith, nat_tests) in rw test refl
