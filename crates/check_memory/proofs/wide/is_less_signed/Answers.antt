use Rattle.std.proofs.Common.{◌≡◌, ◌∙◌, ◌*◌, ◌≤◌, ◌<◌, ⊎_elim, Bool, true, false, List, ℕ, length, subst, sym, ap, arith, rules, tests}
use Rattle.std.specs.Prelude.{IsTrue, ◌↔◌}
use Rattle.std.specs.Bool.{beq}
use Rattle.std.proofs.lemmas.Bool.{cases_lt}
use Rattle.tl_types.specs.Bytes.{bytes_of_words}
use Rattle.tl_types.proofs.Words.{length-bytes_of_words}
use Rattle.tl_ops.specs.Number.{number}
use Rattle.check_memory.proofs.WordNumbers.{IsSigned, span, same_sign, other_sign, number_below}
use Rattle.check_memory.proofs.wide.is_less_signed.Goals as goal

yes_is : (b : Bool) → b ≡ true → IsTrue b
yes_is b is = search (rules, tests)

no_is : (b : Bool) (low high : ℕ) → (low ≤ high → IsTrue b) → b ≡ false → high < low
no_is true low high back is = cc
no_is false low high back is = ⊎_elim (λ below. below) (λ from. absurd (false_not (back from))) (cases_lt high low)
  where
    false_not : IsTrue false → ⊥
    false_not is = search (rules, tests)

-- what the test of one number says
signed_by : (words : List ℕ) (negative : Bool) → 0 < length words
    → (IsTrue negative ↔ (span (bytes_of_words words) ≤ 2 * number (bytes_of_words words)))
    → IsSigned (bytes_of_words words) negative
signed_by words negative some is = record {
  fits = number_below words some;
  high = λ set. is.0 (yes_is negative set);
  low = λ clear. no_is negative (span (bytes_of_words words)) (2 * number (bytes_of_words words)) is.1 clear;
}

other : (a b : Bool) → beq a b ≡ false → a ≡ b → ⊥
other true true is same = cc
other true false is same = cc
other false true is same = cc
other false false is same = cc

long : (less more : List ℕ) → length more ≡ length less → length (bytes_of_words more) ≡ length (bytes_of_words less)
long less more paired =
    length-bytes_of_words more ∙ ap (λ n. 8 * n) paired ∙ sym (length-bytes_of_words less)

pub returns-then-negative-is_negative : goal.returns-then-negative-is_negative
returns-then-negative-is_negative c =
    let less = c.args.less.now in
    let more = c.args.more.now in
    let below = c.is_negative-negative.result in
    let above = c.is_negative.result in
    let some : 0 < length more = omega (arith, c.requires.some, c.requires.paired) in
    let same : above ≡ below = search (rules, tests) in
    let P : Bool → Type 0 = λ b. IsSigned (bytes_of_words more) b in
    c.is_less.ensures
    ∙ same_sign (bytes_of_words less) (bytes_of_words more) below (long less more c.requires.paired)
    (signed_by less below c.requires.some c.is_negative-negative.ensures)
    (subst P same (signed_by more above some c.is_negative.ensures))

pub returns-else-negative-is_negative : goal.returns-else-negative-is_negative
returns-else-negative-is_negative c =
    let less = c.args.less.now in
    let more = c.args.more.now in
    let below = c.is_negative-negative.result in
    let above = c.is_negative.result in
    let some : 0 < length more = omega (arith, c.requires.some, c.requires.paired) in
    let apart : below ≡ above → ⊥ = other below above c.if-negative-is_negative.false in
    other_sign (bytes_of_words less) (bytes_of_words more) below above apart
    (signed_by less below c.requires.some c.is_negative-negative.ensures)
    (signed_by more above some c.is_negative.ensures)
