-- The bits of a set of sources, as the code changes and reads them.
use Rattle.std.proofs.Common.{◌≡◌, ◌≢◌, ℕ, ◌+◌, ◌*◌, ◌/◌, ◌%◌, ◌^◌, ◌<◌, ◌≤◌, ◌-◌, List, length, get_or, set, bit_and, bit_or, w64, sym, ap, ◌∙◌, ⊎_elim, arith}
use Rattle.std.specs.Int.{bit_at, bit_not, trailing_zeros}
use Rattle.std.proofs.lemmas.Bool.{cases_eq, cases_lt}
use Rattle.std.proofs.lemmas.List.{get_or-set_same, get_or-set_other, get_or_past}
use Rattle.std.proofs.lemmas.Nat.{shr-shr, shr_le}
use Rattle.std.proofs.lemmas.Nat.Bits.{bit_at-zero, bit_at-trailing_zeros, bit_at_set_same, bit_at_set_other, bit_at_clear_same, bit_at_clear_other, bit_at_above}
use Rattle.tl_master.specs.SourceSet.{source_bit, IsLowestBit, IsLowestIn}

-- ---- a word is changed

module _ (words : List ℕ) (source word : ℕ) (within : source / 64 < length words) where
  bit_here : source_bit (set words (source / 64) word) source ≡ bit_at word (source % 64)
  bit_here = ap (λ (n : ℕ). bit_at n (source % 64)) (get_or-set_same words (source / 64) word 0 within)

  -- where the word keeps its other bits, so does the set
  bit_else : ((i : ℕ) → i < 64 → i ≢ source % 64 → bit_at word i ≡ bit_at (get_or words (source / 64) 0) i)
      → (other : ℕ) → other ≢ source → source_bit (set words (source / 64) word) other ≡ source_bit words other
  bit_else kept other differs = ⊎_elim
      (λ (same : other / 64 ≡ source / 64).
      ap (λ (k : ℕ). bit_at (get_or (set words (source / 64) word) k 0) (other % 64)) same
      ∙ (ap (λ (n : ℕ). bit_at n (other % 64)) (get_or-set_same words (source / 64) word 0 within)
      ∙ (kept (other % 64) (omega arith) (λ at. differs (omega arith))
      ∙ ap (λ (k : ℕ). bit_at (get_or words k 0) (other % 64)) (sym same))))
      (λ (apart : other / 64 ≢ source / 64). ap (λ (n : ℕ). bit_at n (other % 64))
      (get_or-set_other words (source / 64) (other / 64) word 0 apart))
      (cases_eq (other / 64) (source / 64))

module _ (words : List ℕ) (source : ℕ) (within : source / 64 < length words) where
  pub inserted_here : source_bit (set words (source / 64)
      (bit_or (get_or words (source / 64) 0) (1 * 2 ^ (source % 64) % 2 ^ 64))) source ≡ 1
  inserted_here = bit_here words source _ within
      ∙ bit_at_set_same w64 (get_or words (source / 64) 0) (source % 64) (omega arith)

  pub inserted_else : (other : ℕ) → other ≢ source
      → source_bit (set words (source / 64) (bit_or (get_or words (source / 64) 0)
      (1 * 2 ^ (source % 64) % 2 ^ 64))) other ≡ source_bit words other
  inserted_else = bit_else words source _ within
      (λ i below differs. bit_at_set_other w64 (get_or words (source / 64) 0) (source % 64) (omega arith) i differs)

  pub removed_here : source_bit (set words (source / 64)
      (bit_and (get_or words (source / 64) 0) (bit_not w64 (1 * 2 ^ (source % 64) % 2 ^ 64)))) source ≡ 0
  removed_here = bit_here words source _ within
      ∙ bit_at_clear_same w64 (get_or words (source / 64) 0) (source % 64) (omega arith)

  pub removed_else : (other : ℕ) → other ≢ source
      → source_bit (set words (source / 64) (bit_and (get_or words (source / 64) 0)
      (bit_not w64 (1 * 2 ^ (source % 64) % 2 ^ 64)))) other ≡ source_bit words other
  removed_else = bit_else words source _ within
      (λ i below differs. bit_at_clear_other w64 (get_or words (source / 64) 0) (source % 64)
      (omega arith) i below differs)

-- ---- the lowest bit of a word

-- a bit of what is left of a word after a shift
shifted : (word from i : ℕ) → bit_at (word / 2 ^ from) i ≡ bit_at word (from + i)
shifted word from i = ap (λ (n : ℕ). n % 2) (shr-shr word from i)

-- nothing is left of a word after a shift
pub none_left : (word from : ℕ) → word / 2 ^ from ≡ 0 → (bit : ℕ) → from ≤ bit → bit_at word bit ≡ 0
none_left word from empty bit at =
    let moved = shifted word from (bit - from) in
    let e : from + (bit - from) ≡ bit = omega arith in
    ap (λ (k : ℕ). bit_at word k) (sym e) ∙ (sym moved
    ∙ (ap (λ (n : ℕ). bit_at n (bit - from)) empty ∙ bit_at-zero (bit - from)))

-- the lowest bit of what is left
pub lowest_left : (word from : ℕ) → word < 2 ^ 64 → word / 2 ^ from ≢ 0
    → IsLowestBit word from (from + trailing_zeros w64 (word / 2 ^ from))
lowest_left word from fits some =
    let rest = word / 2 ^ from in
    let less = shr_le word from in
    let lowest = bit_at-trailing_zeros w64 rest (omega arith) (omega arith) in
    let at : bit_at word (from + trailing_zeros w64 rest) ≡ 1 =
    sym (shifted word from (trailing_zeros w64 rest)) ∙ lowest.1 in
    record {
      in_word = ⊎_elim (λ (below : from + trailing_zeros w64 rest < 64). below)
          (λ (above : 64 ≤ from + trailing_zeros w64 rest). absurd
          (let none = bit_at_above word 64 (from + trailing_zeros w64 rest) fits above in omega arith))
          (cases_lt (from + trailing_zeros w64 rest) 64);
      not_below = omega arith;
      set = at;
      lowest = λ other after before.
          let e : from + (other - from) ≡ other = omega arith in
          ap (λ (k : ℕ). bit_at word k) (sym e) ∙ (sym (shifted word from (other - from))
          ∙ lowest.2 (other - from) (omega arith));
    }

-- ---- the lowest source of a set

-- no source is in the set from one on and before another
abbrev pub NoneBetween : List ℕ → ℕ → ℕ → Type 0
NoneBetween words from end = (source : ℕ) → from ≤ source → source < end → source_bit words source ≡ 0

-- a source of the word that is looked at is at this bit of it
in_this_word : (words : List ℕ) (word other : ℕ) → other / 64 ≡ word
    → source_bit words other ≡ bit_at (get_or words word 0) (other % 64)
in_this_word words word other at = ap (λ (k : ℕ). bit_at (get_or words k 0) (other % 64)) at

-- the lowest bit of the first word that has one is the lowest source
pub found_in_word : (words : List ℕ) (from start bit : ℕ) → from ≤ start → start < 256 → NoneBetween words from start
    → IsLowestBit (get_or words (start / 64) 0) (start % 64) bit → IsLowestIn words from (start / 64 * 64 + bit)
found_in_word words from start bit after inside none found =
    let low = found.not_below in
    let high = found.in_word in
    record {
      known = omega arith;
      not_below = omega arith;
      is_in = in_this_word words (start / 64) (start / 64 * 64 + bit) (omega arith)
          ∙ (ap (λ (k : ℕ). bit_at (get_or words (start / 64) 0) k)
          (let e : (start / 64 * 64 + bit) % 64 ≡ bit = omega arith in e) ∙ found.set);
      lowest = λ other above below. ⊎_elim (λ (earlier : other < start). none other above earlier)
          (λ (later : start ≤ other). in_this_word words (start / 64) other (omega arith)
          ∙ found.lowest (other % 64) (omega arith) (omega arith))
          (cases_lt other start);
    }

-- no source is in a word that has no such bit
pub word_passed : (words : List ℕ) (from start : ℕ) → NoneBetween words from start
    → ((bit : ℕ) → start % 64 ≤ bit → bit_at (get_or words (start / 64) 0) bit ≡ 0)
    → NoneBetween words from ((start / 64 + 1) * 64)
word_passed words from start none empty other above below =
    ⊎_elim (λ (earlier : other < start). none other above earlier)
    (λ (later : start ≤ other). in_this_word words (start / 64) other (omega arith) ∙ empty (other % 64) (omega arith))
    (cases_lt other start)

-- a set has no source beyond its words
pub beyond_words : (words : List ℕ) (source : ℕ) → length words ≡ 4 → 256 ≤ source → source_bit words source ≡ 0
beyond_words words source long past =
    ap (λ (n : ℕ). bit_at n (source % 64)) (get_or_past words (source / 64) 0 (omega arith)) ∙ bit_at-zero (source % 64)
