-- The bytes at hand are taken.
use Rattle.std.proofs.Common.{◌≡◌, ℕ, ◌+◌, ◌-◌, ◌<◌, ◌≤◌, Bool, true, false, nat_lt, List, ◌∷◌, ◌++◌, append_assoc, drop, length, get_or, slice_range, take, Result, Ok, Err, refl, sym, ap, ap₂, ◌∙◌, arith, subst}
use Rattle.std.proofs.lemmas.List.{take-append-drop, take-take}
use Rattle.std.proofs.lemmas.Bool.Decides.{nat_tests}
use Rattle.std.specs.Result.{IfOk, OnOk}
use Rattle.check_vcd.specs.Words.{Front, IsFront, Word, are_letters, is_blank, line_after, nothing, with_byte, with_bytes, words_from}
use Rattle.check_vcd.specs.Scanner.{HasMoved, TakesWord, at_hand, front, word_at_hand}
use Rattle.check_vcd.specs.declared.fault.DumpFault.{DumpFault}
use Rattle.check_vcd.specs.declared.scanner.TheConstants.{MAX_WORD}
use Rattle.check_vcd.specs.declared.scanner.Scanner.{Scanner}
use Rattle.check_vcd.proofs.HandLemmas.{hand-first}
use Rattle.check_vcd.proofs.RunLemmas.{front-run, hand-after, hand-length, whole-run, words-run}
use Rattle.check_vcd.proofs.WordLemmas.{words-ended, words-letter, words-skipped}

-- a byte at hand
pub record HasNext {R : Type 0} (old : Scanner R) (byte : ℕ) : Type 0 where
  pub some : old.next < old.filled
  pub inside : old.filled ≤ length old.chunk.items
  pub is : get_or old.chunk.items old.next byte ≡ byte

first : {R : Type 0} (old new : Scanner R) (byte : ℕ) → HasNext old byte → HasMoved old new
    → at_hand old ≡ byte ∷ at_hand new
first old new byte next moved =
    let tail : at_hand new ≡ slice_range old.chunk.items (old.next + 1) old.filled =
    rw (moved.chunk, moved.next, moved.filled) refl in
    hand-first old.chunk.items old.next old.filled byte next.some next.inside
    ∙ ap₂ (λ (b : ℕ) (hand : List ℕ). b ∷ hand) next.is (sym tail)

pub took-letter : {R : Type 0} (old new : Scanner R) (byte : ℕ) → HasNext old byte → HasMoved old new
    → is_blank byte ≡ false
    → front new ≡ with_byte (front old) byte → new.next_line ≡ old.next_line → TakesWord old new false
took-letter old new byte next moved not fronts lines = (
  (λ rest.
      ap (λ (hand : List ℕ). words_from old.next_line (front old) (hand ++ rest)) (first old new byte next moved)
      ∙ words-letter old.next_line (front old) byte (at_hand new ++ rest) not
      ∙ ap₂ (λ (line : ℕ) (f : Front). words_from line f (at_hand new ++ rest)) (sym lines) (sym fronts)),
  (λ none. let size : new.size ≡ old.size + 1 = ap (λ (f : Front). f.size) fronts in
      absurd (omega (arith, none, size))),
)

-- a blank, after a front or before the first byte of a word
blank : {R : Type 0} (old new : Scanner R) (byte : ℕ) (ended : Bool) → HasNext old byte → HasMoved old new
    → is_blank byte ≡ true → IsFront (front old) → front new ≡ front old → new.line ≡ old.next_line
    → new.next_line ≡ line_after old.next_line byte
    → ended ≡ nat_lt 0 old.size → TakesWord old new ended
blank old new byte true next moved is front_is fronts line lines test = λ rest.
    let some : 0 < old.size = grind (arith, nat_tests) in
    let word : word_at_hand new ≡ record { line = old.next_line; bytes = old.word.items; size = old.size } =
    ap₂ (λ (l : ℕ) (f : Front). let w : Word = record { line = l; bytes = f.bytes; size = f.size } in w) line fronts in
    ap (λ (hand : List ℕ). words_from old.next_line (front old) (hand ++ rest)) (first old new byte next moved)
    ∙ words-ended old.next_line (front old) byte (at_hand new ++ rest) is some
    ∙ ap₂ (λ (w : Word) (l : ℕ). w ∷ words_from l nothing (at_hand new ++ rest)) (sym word) (sym lines)
blank old new byte false next moved is front_is fronts line lines test =
    let none : old.size ≡ 0 = grind (arith, nat_tests) in (
      (λ rest.
          ap (λ (hand : List ℕ). words_from old.next_line (front old) (hand ++ rest)) (first old new byte next moved)
          ∙ words-skipped old.next_line (front old) byte (at_hand new ++ rest) is none front_is
          ∙ ap₂ (λ (l : ℕ) (f : Front). words_from l f (at_hand new ++ rest)) (sym lines) (sym fronts)),
      subst IsFront (sym fronts) front_is,
    )

pub took-blank : {R : Type 0} (old new : Scanner R) (byte : ℕ) (r : Result Bool DumpFault) → HasNext old byte
    → HasMoved old new
    → is_blank byte ≡ true → IsFront (front old) → front new ≡ front old
    → IfOk r (λ ended. ended ≡ nat_lt 0 old.size)
    → OnOk r ((new.line ≡ old.next_line) × (new.next_line ≡ line_after old.next_line byte)) → IfOk r (TakesWord old new)
took-blank old new byte (Err fault) next moved is front_is fronts test lines = tt
took-blank old new byte (Ok ended) next moved is front_is fronts test lines =
    blank old new byte ended next moved is front_is fronts lines.0 lines.1 test

-- bytes that are no blanks
pub took-run : {R : Type 0} (old new : Scanner R) (count : ℕ) (r : Result Unit DumpFault) → old.next + count ≤ old.filled
    → are_letters (take count (at_hand old)) ≡ true → IsFront (front old)
    → OnOk r (front new ≡ with_bytes (front old) (take count (at_hand old))) → OnOk r (new.next ≡ old.next + count)
    → new.chunk ≡ old.chunk → new.filled ≡ old.filled → new.next_line ≡ old.next_line → OnOk r (TakesWord old new false)
took-run old new count (Err fault) inside are is fronts next chunk filled lines = tt
took-run old new count (Ok done) inside are is fronts next chunk filled lines =
    let run = take count (at_hand old) in
    let after : drop count (at_hand old) ≡ at_hand new =
    rw (chunk, next, filled) (hand-after old.chunk.items old.next old.filled count inside) in
    let parts : at_hand old ≡ run ++ at_hand new =
    sym (take-append-drop count (at_hand old)) ∙ ap (λ (l : List ℕ). run ++ l) after in (
      (λ rest. ap (λ (hand : List ℕ). words_from old.next_line (front old) (hand ++ rest)) parts
          ∙ ap (words_from old.next_line (front old)) (append_assoc run (at_hand new) rest)
          ∙ words-run old.next_line (front old) run (at_hand new ++ rest) are
          ∙ ap₂ (λ (line : ℕ) (f : Front). words_from line f (at_hand new ++ rest)) (sym lines) (sym fronts)),
      subst IsFront (sym fronts) (front-run (front old) run is),
    )

-- one byte more
pub takes-more : {R : Type 0} (old mid new : Scanner R) (ended : Bool) → TakesWord old mid false → TakesWord mid new ended
    → TakesWord old new ended
takes-more old mid new true one two = λ rest. one.0 rest ∙ two rest
takes-more old mid new false one two = ((λ rest. one.0 rest ∙ two.0 rest), two.1)

-- ---- a word that is at hand as a whole

module _ (chunk : List ℕ) (next filled count : ℕ) (some : 0 < count) (within : next + count < filled)
    (inside : filled ≤ length chunk) (fits : filled ≤ MAX_WORD) where
  abbrev pub run : List ℕ
  run = take count (slice_range chunk next filled)

  abbrev pub tail : List ℕ
  tail = slice_range chunk (next + count + 1) filled

  run_length : length run ≡ count
  run_length = hand-length chunk next filled count (omega (arith, within)) inside

  run_is : run ≡ slice_range chunk next (next + count)
  run_is =
      take-take count (filled - next) (drop next chunk) (omega (arith, within))
      ∙ ap (λ (n : ℕ). take n (drop next chunk)) (let e : count ≡ next + count - next = omega arith in e)

  parts : (byte : ℕ) → get_or chunk (next + count) byte ≡ byte → slice_range chunk next filled ≡ run ++ (byte ∷ tail)
  parts byte is =
      sym (take-append-drop count (slice_range chunk next filled))
      ∙ ap (λ (l : List ℕ). run ++ l)
      (hand-after chunk next filled count (omega (arith, within))
      ∙ hand-first chunk (next + count) filled byte (omega (arith, within)) inside
      ∙ ap (λ (b : ℕ). b ∷ tail) is)

  pub whole-word : (line after byte : ℕ) → are_letters run ≡ true → get_or chunk (next + count) byte ≡ byte
      → is_blank byte ≡ true → after ≡ line_after line byte → (rest : List ℕ)
      → words_from line nothing (slice_range chunk next filled ++ rest)
      ≡ record { line = line; bytes = slice_range chunk next (next + count); size = next + count - next }
      ∷ words_from after nothing (tail ++ rest)
  whole-word line after byte are is blank_is lines rest =
      ap (λ (l : List ℕ). words_from line nothing (l ++ rest)) (parts byte is)
      ∙ ap (words_from line nothing) (append_assoc run (byte ∷ tail) rest)
      ∙ words-run line nothing run (byte ∷ (tail ++ rest)) are
      ∙ ap (λ (f : Front). words_from line f (byte ∷ (tail ++ rest)))
      (whole-run run (omega (arith, run_length, within, fits)))
      ∙ words-ended line (record { bytes = run; size = length run }) byte (tail ++ rest) blank_is
      (omega (arith, run_length, some))
      ∙ ap₂ (λ (w : Word) (l : ℕ). w ∷ words_from l nothing (tail ++ rest))
      (ap₂ (λ (b : List ℕ) (n : ℕ). let w : Word = record { line = line; bytes = b; size = n } in w) run_is
      (omega (arith, run_length))) (sym lines)
