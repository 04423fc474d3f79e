-- Lanes that are read one after the other, the last first.
use Rattle.std.proofs.Common.{◌≡◌, ◌∙◌, ℕ, ◌+◌, ◌*◌, ◌-◌, ◌^◌, ◌<◌, ◌≤◌, Bool, List, ◌∷◌, length, map, set, take, drop, Option, Some, None, Ok, IfSome, refl, ap, arith, add-one}
use Rattle.std.proofs.Math.Nat.{pow-succ'}
use Rattle.std.specs.List.{range_with_len}
use Rattle.std.proofs.lemmas.List.{drop-set, drop_all}
use Rattle.std.specs.Fmt.{decimal}
use Rattle.tl_text.specs.Number.{number_of}
use Rattle.check_rows.proofs.FrontLemmas.{flag-given}
use Rattle.check_rows.specs.Columns.{flag_of, flag_or}
use Rattle.check_rows.specs.Number.{decimal_of, decimal_or_zero}
use Rattle.check_rows.specs.Lanes.{byte_or_zero, known_bit, known_of}
use Rattle.check_due.specs.Lanes.{lane_in, lanes_of_bits}
use Rattle.check_due.proofs.Numbers.{given-read}

-- the lanes from one on, so many
abbrev lanes_from : ℕ → List ℕ → ℕ → ℕ → List (Option ℕ)
lanes_from bus bits first count = map (lane_in bus bits) (range_with_len first count)

-- they are read
pub record AreRead (bus : ℕ) (bits : List ℕ) (first count known : ℕ) (lanes : List ℕ) : Type 0 where
  pub marks : known ≡ known_of (lanes_from bus bits first count)
  pub small : known < 2 ^ count
  pub bytes : drop first lanes ≡ map byte_or_zero (lanes_from bus bits first count)

pub none-read : (bus : ℕ) (bits lanes : List ℕ) (first : ℕ) → length lanes ≤ first → AreRead bus bits first 0 0 lanes
none-read bus bits lanes first all = record {
  marks = refl;
  small = omega arith;
  bytes = drop_all first lanes all;
}

small-bit : (lane : Option ℕ) → known_bit lane ≤ 1
small-bit None = omega arith
small-bit (Some byte) = omega arith

-- the eight bits at a place are those of a lane
pub lane-here : (bus : ℕ) (bits : List ℕ) (k : ℕ) → k < bus
    → lane_in bus bits (bus - 1 - k) ≡ number_of 2 8 (take 8 (drop (8 * k) bits))
lane-here bus bits k within =
    let same : bus - 1 - (bus - 1 - k) ≡ k = omega (arith, within) in
    ap (λ (n : ℕ). number_of 2 8 (take 8 (drop (8 * n) bits))) same

pub one-more : (bus : ℕ) (bits : List ℕ) (first count known : ℕ) (lanes : List ℕ) (lane : Option ℕ)
    → lane_in bus bits first ≡ lane → first < length lanes → AreRead bus bits (first + 1) count known lanes
    → AreRead bus bits first (count + 1) (2 * known + known_bit lane) (set lanes first (byte_or_zero lane))
one-more bus bits first count known lanes lane is inside before =
    let bit = small-bit lane in
    let small = before.small in
    let next : 2 ^ (count + 1) ≡ 2 * 2 ^ count = rw add-one (pow-succ' 2 count) in
    record {
      marks = rw (add-one, is) (let marks = before.marks in omega (arith, marks));
      small = omega (arith, next, small, bit);
      bytes = rw (add-one, is) (drop-set lanes first (byte_or_zero lane) inside
          ∙ ap (λ (xs : List ℕ). byte_or_zero lane ∷ xs) before.bytes);
    }

pub all-read : (bus : ℕ) (bits : List ℕ) (known : ℕ) (lanes : List ℕ) → AreRead bus bits 0 bus known lanes
    → record { known = known; bytes = lanes } ≡ lanes_of_bits bus bits
all-read bus bits known lanes h = rw (h.marks, h.bytes) refl

-- ---- numbers that may be absent

pub flag-if-any : (absent : Bool) (n : ℕ) (flag : Option Bool) → IfSome flag (λ f. flag_of (decimal n) ≡ Ok f)
    → IfSome flag (λ f. flag_or absent (decimal n) ≡ Ok f)
flag-if-any absent n None is = tt
flag-if-any absent n (Some f) is = flag-given absent (decimal n) f is

pub field-if-any : (n : ℕ) (field : Option ℕ) → IfSome field (λ f. decimal_of 255 (decimal n) ≡ Ok f)
    → IfSome field (λ f. decimal_or_zero 255 (decimal n) ≡ Ok f)
field-if-any n None is = tt
field-if-any n (Some f) is = given-read 255 (decimal n) f is
