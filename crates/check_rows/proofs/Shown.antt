-- Lanes that are read one after the other, the last first.
use Rattle.std.proofs.Common.{◌≡◌, ◌∙◌, ℕ, zero, suc, ◌+◌, ◌*◌, ◌-◌, ◌^◌, ◌<◌, ◌≤◌, List, [], ◌∷◌, length, map, get_or, set, drop, Option, Some, None, unwrap_or, refl, ap, arith, add-one}
use Rattle.std.proofs.Math.Nat.{pow-succ'}
use Rattle.std.proofs.lemmas.Nat.{pow_pos}
use mir.Val.{bool_byte}
use Rattle.std.specs.Option.{is_some, option_and_then, option_map}
use Rattle.std.specs.List.{range_with_len}
use Rattle.std.proofs.lemmas.List.{drop-set, drop_all}
use Rattle.std.proofs.lemmas.List.FromFn.{get_or-map-range_with_len, length-map-range_with_len}
use Rattle.check_rows.specs.Lanes.{all_of, byte_or_zero, known_bit, known_of, lane_at, lane_of_digits, shown_by}

-- the lanes from one on are read, so many
pub record AreRead (bus : ℕ) (word : List ℕ) (first count known : ℕ) (lanes : List ℕ) : Type 0 where
  pub found : List (Option ℕ)
  pub all : all_of (map (lane_at bus word) (range_with_len first count)) ≡ Some found
  pub bits : known ≡ known_of found
  pub small : known < 2 ^ count
  pub bytes : drop first lanes ≡ map byte_or_zero found

pub none-read : (bus : ℕ) (word lanes : List ℕ) (first : ℕ) → length lanes ≤ first → AreRead bus word first 0 0 lanes
none-read bus word lanes first all = record {
  found = [];
  all = refl;
  bits = refl;
  small = omega arith;
  bytes = drop_all first lanes all;
}

small-bit : (lane : Option ℕ) → known_bit lane ≤ 1
small-bit None = omega arith
small-bit (Some byte) = omega arith

-- what the digits at places say of a lane
pub lane-here : (bus : ℕ) (word : List ℕ) (k : ℕ) → k < bus
    → lane_at bus word (bus - 1 - k) ≡ lane_of_digits (get_or word (2 * k) 0) (get_or word (2 * k + 1) 0)
lane-here bus word k within =
    let same : bus - 1 - (bus - 1 - k) ≡ k = omega (arith, within) in
    ap (λ (n : ℕ). lane_of_digits (get_or word (2 * n) 0) (get_or word (2 * n + 1) 0)) same

all_of-more : (first : Option (Option ℕ)) (more : List (Option (Option ℕ))) (x : Option ℕ) (xs : List (Option ℕ))
    → first ≡ Some x → all_of more ≡ Some xs → all_of (first ∷ more) ≡ Some (x ∷ xs)
all_of-more first more x xs is rest = rw (is, rest) refl

pub one_lane_more : (bus : ℕ) (word : List ℕ) (first count known : ℕ) (lanes : List ℕ) (lane : Option ℕ)
    → lane_at bus word first ≡ Some lane → first < length lanes → AreRead bus word (first + 1) count known lanes
    → AreRead bus word first (count + 1) (2 * known + known_bit lane) (set lanes first (byte_or_zero lane))
one_lane_more bus word first count known lanes lane is inside before =
    let bit = small-bit lane in
    let small = before.small in
    let next : 2 ^ (count + 1) ≡ 2 * 2 ^ count = rw add-one (pow-succ' 2 count) in
    record {
      found = lane ∷ before.found;
      all = rw add-one
          (all_of-more (lane_at bus word first) (map (lane_at bus word) (range_with_len (first + 1) count)) lane
          before.found is before.all);
      bits = let bits = before.bits in omega (arith, bits);
      small = omega (arith, next, small, bit);
      bytes = drop-set lanes first (byte_or_zero lane) inside ∙ ap (λ (xs : List ℕ). byte_or_zero lane ∷ xs) before.bytes;
    }

pub all-read : (bus : ℕ) (word : List ℕ) (known : ℕ) (lanes : List ℕ) → AreRead bus word 0 bus known lanes
    → Some (record { known = known; bytes = lanes }) ≡ shown_by bus word
unfolding shown_by
all-read bus word known lanes h = rw (h.all, h.bits, h.bytes) refl

-- ---- a lane that is none

none-after : (first : Option (Option ℕ)) (rest : Option (List (Option ℕ))) → rest ≡ None
    → option_and_then (λ (x : Option ℕ). option_map (λ (xs : List (Option ℕ)). x ∷ xs) rest) first ≡ None
none-after None rest none = refl
none-after (Some x) rest none = rw none refl

all_of-none : (xs : List (Option (Option ℕ))) (i : ℕ) (d : Option (Option ℕ)) → i < length xs → get_or xs i d ≡ None
    → all_of xs ≡ None
all_of-none [] i d inside is = absurd (omega (arith, inside))
all_of-none (x ∷ xs) zero d inside is = rw is refl
all_of-none (x ∷ xs) (suc i) d inside is = none-after x (all_of xs) (all_of-none xs i d (omega (arith, inside)) is)

pub shown_by-none : (bus : ℕ) (word : List ℕ) (lane : ℕ) → lane < bus → lane_at bus word lane ≡ None
    → shown_by bus word ≡ None
unfolding shown_by
shown_by-none bus word lane within is =
    let all = map (lane_at bus word) (range_with_len 0 bus) in
    let size : length all ≡ bus = length-map-range_with_len (lane_at bus word) 0 bus in
    let none : all_of all ≡ None =
    all_of-none all lane None (omega (arith, size, within))
    (get_or-map-range_with_len (lane_at bus word) 0 bus lane lane None within (omega arith) ∙ is) in
    rw none refl

-- ---- what is written of a lane

pub byte-or : (lane : Option ℕ) → unwrap_or lane 0 ≡ byte_or_zero lane
byte-or None = refl
byte-or (Some byte) = refl

pub bit-some : (lane : Option ℕ) → bool_byte (is_some lane) ≡ known_bit lane
bit-some None = refl
bit-some (Some byte) = refl

-- one bit more is set
pub all_ones : (k : ℕ) → 2 ^ (k + 1) - 1 ≡ 2 * (2 ^ k - 1) + 1
all_ones k =
    let next : 2 ^ (k + 1) ≡ 2 * 2 ^ k = rw add-one (pow-succ' 2 k) in
    let some = pow_pos k in
    omega (arith, next, some)
