-- Digits by their numbers, and what two of them say of a lane.
use Rattle.std.proofs.Common.{◌≡◌, ◌∙◌, ℕ, ◌+◌, ◌*◌, ◌<◌, ◌≤◌, Bool, true, false, ◌&&◌, ◌||◌, cond, List, map, max, slice_index, Option, Some, None, inl, inr, refl, sym, ap, arith, zero-add}
use Rattle.std.specs.Option.{option_map}
use Rattle.std.specs.Char.{digit_value, is_digit}
use Rattle.std.specs.List.{range_with_len}
use Rattle.std.proofs.lemmas.Bool.{cases_lt, false≢true, ltb-true}
use Rattle.std.proofs.lemmas.List.FromFn.{get_or-map-range_with_len}
use Rattle.check_rows.specs.Digit.{digit_code}
use Rattle.check_rows.specs.Lanes.{is_shown, is_unknown, lane_of_digits}
use Rattle.check_rows.specs.declared.digit.TheConstants.{CODES}

-- the table, computed
table : map digit_code (range_with_len 0 256) ≡ CODES
unfolding digit_code
table = refl

pub code_at : (c : ℕ) → c < 256 → slice_index CODES c ≡ digit_code c
code_at c within =
    ap (λ (xs : List ℕ). slice_index xs c) (sym table)
    ∙ get_or-map-range_with_len digit_code 0 256 c c 0 within (zero-add c)

-- ---- which digit has which number

abbrev code_by : Bool → Bool → ℕ → ℕ
code_by digit unknown value = cond digit value (cond unknown 16 17)

known_by : (digit unknown : Bool) (value : ℕ) → code_by digit unknown value < 16
    → (digit ≡ true) × (code_by digit unknown value ≡ value)
known_by true unknown value small = (refl, refl)
known_by false true value small = absurd (omega (arith, small))
known_by false false value small = absurd (omega (arith, small))

shown_by : (digit unknown : Bool) (value : ℕ) → code_by digit unknown value ≤ 16 → (digit || unknown) ≡ true
shown_by true unknown value small = refl
shown_by false true value small = refl
shown_by false false value small = absurd (omega (arith, small))

large_by : (digit unknown : Bool) (value : ℕ) → (digit ≡ true → value < 16) → 16 ≤ code_by digit unknown value
    → digit ≡ false
large_by true unknown value below large = absurd (let small = below refl in omega (arith, small, large))
large_by false unknown value below large = refl

none_by : (digit unknown : Bool) (value : ℕ) → (digit ≡ true → value < 16) → 16 < code_by digit unknown value
    → (digit || unknown) ≡ false
none_by true unknown value below large = absurd (let small = below refl in omega (arith, small, large))
none_by false true value below large = absurd (omega (arith, large))
none_by false false value below large = refl

below : (c : ℕ) → is_digit c 16 ≡ true → digit_value c < 16
below c is = ltb-true (digit_value c) 16 is

pub digit-known : (c : ℕ) → digit_code c < 16 → is_digit c 16 ≡ true
unfolding digit_code
digit-known c small = (known_by (is_digit c 16) (is_unknown c) (digit_value c) small).0

pub code-known : (c : ℕ) → digit_code c < 16 → digit_code c ≡ digit_value c
unfolding digit_code
code-known c small = (known_by (is_digit c 16) (is_unknown c) (digit_value c) small).1

pub digit-large : (c : ℕ) → 16 ≤ digit_code c → is_digit c 16 ≡ false
unfolding digit_code
digit-large c large = large_by (is_digit c 16) (is_unknown c) (digit_value c) (below c) large

shown-small : (c : ℕ) → digit_code c ≤ 16 → is_shown c ≡ true
unfolding digit_code
shown-small c small = shown_by (is_digit c 16) (is_unknown c) (digit_value c) small

shown-large : (c : ℕ) → 16 < digit_code c → is_shown c ≡ false
unfolding digit_code
shown-large c large = none_by (is_digit c 16) (is_unknown c) (digit_value c) (below c) large

-- ---- lanes

abbrev lane_by : Bool → Bool → Bool → Bool → ℕ → Option (Option ℕ)
lane_by high low shown_high shown_low byte =
    cond (high && low) (option_map Some (cond (high && low) (Some byte) None))
    (cond (shown_high && shown_low) (Some None) None)

lane_by-known : (h l sh sl : Bool) (byte : ℕ) → h ≡ true → l ≡ true → lane_by h l sh sl byte ≡ Some (Some byte)
lane_by-known true true sh sl byte high low = refl
lane_by-known true false sh sl byte high low = absurd (false≢true low)
lane_by-known false l sh sl byte high low = absurd (false≢true high)

lane_by-unknown : (h l sh sl : Bool) (byte : ℕ) → (h && l) ≡ false → sh ≡ true → sl ≡ true
    → lane_by h l sh sl byte ≡ Some None
lane_by-unknown true true sh sl byte one high low = absurd (false≢true (sym one))
lane_by-unknown true false true true byte one high low = refl
lane_by-unknown false l true true byte one high low = refl
lane_by-unknown h l true false byte one high low = absurd (false≢true low)
lane_by-unknown h l false sl byte one high low = absurd (false≢true high)

lane_by-none : (h l sh sl : Bool) (byte : ℕ) → (h && l) ≡ false → (sh && sl) ≡ false → lane_by h l sh sl byte ≡ None
lane_by-none true true sh sl byte one shown = absurd (false≢true (sym one))
lane_by-none true false true true byte one shown = absurd (false≢true (sym shown))
lane_by-none true false true false byte one shown = refl
lane_by-none true false false sl byte one shown = refl
lane_by-none false l true true byte one shown = absurd (false≢true (sym shown))
lane_by-none false l true false byte one shown = refl
lane_by-none false l false sl byte one shown = refl

pub lane-known : (high low : ℕ) → max (digit_code high) (digit_code low) < 16
    → lane_of_digits high low ≡ Some (Some (16 * digit_code high + digit_code low))
unfolding lane_of_digits
lane-known high low small =
    let h : digit_code high < 16 = omega (arith, small) in
    let l : digit_code low < 16 = omega (arith, small) in
    lane_by-known (is_digit high 16) (is_digit low 16) (is_shown high) (is_shown low)
    (16 * digit_value high + digit_value low) (digit-known high h) (digit-known low l)
    ∙ ap (λ (n : ℕ). Some (Some (16 * n + digit_value low))) (sym (code-known high h))
    ∙ ap (λ (n : ℕ). Some (Some (16 * digit_code high + n))) (sym (code-known low l))

and-left : (x y : Bool) → x ≡ false → (x && y) ≡ false
and-left true y is = absurd (false≢true (sym is))
and-left false y is = refl

and-right : (x y : Bool) → y ≡ false → (x && y) ≡ false
and-right true y is = is
and-right false y is = refl

-- one of two numbers is as large as the larger
one_digit : (high low : ℕ) → 16 ≤ max (digit_code high) (digit_code low)
    → (is_digit high 16 && is_digit low 16) ≡ false
one_digit high low large =
    elim (cases_lt (digit_code high) 16) [
      | inl small ↦ and-right (is_digit high 16) (is_digit low 16) (digit-large low (omega (arith, large, small)))
      | inr here ↦ and-left (is_digit high 16) (is_digit low 16) (digit-large high here)
    ]

one_shown : (high low : ℕ) → 16 < max (digit_code high) (digit_code low)
    → (is_shown high && is_shown low) ≡ false
one_shown high low large =
    elim (cases_lt 16 (digit_code high)) [
      | inl here ↦ and-left (is_shown high) (is_shown low) (shown-large high here)
      | inr small ↦ and-right (is_shown high) (is_shown low) (shown-large low (omega (arith, large, small)))
    ]

pub lane-unknown : (high low : ℕ) → max (digit_code high) (digit_code low) ≡ 16 → lane_of_digits high low ≡ Some None
unfolding lane_of_digits
lane-unknown high low is =
    lane_by-unknown (is_digit high 16) (is_digit low 16) (is_shown high) (is_shown low)
    (16 * digit_value high + digit_value low) (one_digit high low (omega (arith, is)))
    (shown-small high (omega (arith, is))) (shown-small low (omega (arith, is)))

pub lane-none : (high low : ℕ) → 16 < max (digit_code high) (digit_code low) → lane_of_digits high low ≡ None
unfolding lane_of_digits
lane-none high low large =
    lane_by-none (is_digit high 16) (is_digit low 16) (is_shown high) (is_shown low)
    (16 * digit_value high + digit_value low) (one_digit high low (omega (arith, large))) (one_shown high low large)
