-- Bits that were written as hexadecimal digits are read as lanes and as a mask.
use Rattle.std.proofs.Common.{◌≡◌, ◌∙◌, ℕ, zero, suc, ◌+◌, ◌-◌, ◌*◌, ◌%◌, ◌^◌, ◌<◌, ◌≤◌, ◌==◌, get_or, pow_mono, nat_le, nat_lt, Bool, true, false, ◌&&◌, ◌||◌, cond, List, [], ◌∷◌, ◌++◌, length, take, drop, map, Option, Some, None, Result, Ok, Err, arith, refl, sym, ap, subst, ⊎_elim, ok_or, option_and_then, option_map, length-append, length-take-le, length-drop, take-append-drop, drop-drop, mod-eq_of_lt, ◌⊎◌, inl, inr}
use Rattle.std.proofs.lemmas.Bool.{and_from, and_parts, cases_Bool, eq-eqb, le-leb, lt-ltb, ne_eqb}
use Rattle.std.proofs.lemmas.Bool.Decides.{nat_tests}
use Rattle.std.proofs.lemmas.Int.Digits.{digits_value-lt}
use Rattle.std.proofs.lemmas.List.Folds.{list_all_at}
use Rattle.std.specs.Char.{digit_value, is_digit}
use Rattle.std.specs.Fmt.{digit_glyph}
use Rattle.std.specs.List.{list_all, range_with_len}
use Rattle.std.specs.Str.Parse.{digits_value, digits_value_after}
use Rattle.tl_text.specs.Number.{below_64_bits, number_of, pair_of}
use Rattle.check_beats.specs.Bus.{bus_bytes}
use Rattle.check_beats.specs.declared.bus.Bus.{Bus}
use Rattle.check_beats.specs.declared.bus.Bus.TheVariants.{One, Two, Four, Eight, Sixteen, ThirtyTwo, SixtyFour}
use Rattle.check_rows.specs.Lanes.{SeenLanes, all_of, is_shown, lane_at, lane_of_digits, lanes_of, seen_of, shown_by, zeros}
use Rattle.check_rows.specs.Number.{hex_of, mask_digits, mask_of}
use Rattle.tl_text.specs.Reading.{◌>>=◌}
use Rattle.check_rows.specs.declared.fault.RowFault.{RowFault}
use Rattle.check_rows.specs.declared.fault.RowFault.TheVariants.{Number}
use Rattle.check_samples.specs.Row.{digit_by, digit_of, hex_text, hexes}
use Rattle.check_samples.proofs.BitLemmas.{bit_of}
use Rattle.check_due.specs.Lanes.{lane_in, lanes_of_bits}
use Rattle.check_due.proofs.Numbers.{HasNumber, digits-all, has-number, number-below}

-- whether each of the bits is known
abbrev are_known : List ℕ → Bool
are_known bits = list_all (λ c. is_digit c 2) bits

-- ---- the number of bits

number-known : (most : ℕ) (bits : List ℕ) → are_known bits ≡ true → 0 < length bits → length bits ≤ most
    → digits_value 2 bits < 2 ^ 64 → number_of 2 most bits ≡ Some (digits_value 2 bits)
number-known most bits known some fits small =
    ap (λ (t : Bool). cond t (option_and_then (λ number. number)
    (cond (nat_lt 0 (length bits) && are_known bits) (Some (below_64_bits (digits_value 2 bits))) None)) None)
    (le-leb (length bits) most fits)
    ∙ ap (λ (t : Bool). option_and_then (λ number. number) (cond t (Some (below_64_bits (digits_value 2 bits))) None))
    (and_from (nat_lt 0 (length bits)) (are_known bits) (lt-ltb 0 (length bits) some) known)
    ∙ ap (λ (t : Bool). cond t (Some (digits_value 2 bits)) None) (lt-ltb (digits_value 2 bits) (2 ^ 64) small)

number-unknown : (most : ℕ) (bits : List ℕ) → are_known bits ≡ false → number_of 2 most bits ≡ None
number-unknown most bits unknown =
    go (nat_le (length bits) most) (nat_lt 0 (length bits)) (are_known bits) unknown
  where
    go : (a b c : Bool) → c ≡ false → cond a (option_and_then (λ number. number)
        (cond (b && c) (Some (below_64_bits (digits_value 2 bits))) None)) None ≡ None
    go true true true is = absurd (cc)
    go true true false is = refl
    go true false c is = refl
    go false b c is = refl

-- ---- four bits, as a hexadecimal digit

-- the digit of four bits: that of their number, or x where one is unknown
abbrev IsNibble : List ℕ → Type 0
IsNibble bits =
    ((are_known bits ≡ true) × (digit_of bits ≡ digit_glyph false (digits_value 2 bits)) × (digits_value 2 bits < 16))
    ⊎ ((are_known bits ≡ false) × (digit_of bits ≡ 120))

nibble : (bits : List ℕ) → length bits ≡ 4 → IsNibble bits
nibble bits four = ⊎_elim
    (λ (known : are_known bits ≡ true). inl (
      known,
      ap digit_by (number-known 4 bits known (omega (arith, four)) (omega (arith, four)) (omega (arith, small known)))
          ∙ ap (λ (n : ℕ). digit_glyph false n) (mod-eq_of_lt (small known)),
      small known,
    ))
    (λ (unknown : are_known bits ≡ false). inr (unknown, ap digit_by (number-unknown 4 bits unknown)))
    (cases_Bool (are_known bits))
  where
    small : are_known bits ≡ true → digits_value 2 bits < 16
    small known =
        subst (λ (size : ℕ). digits_value 2 bits < 2 ^ size) four (digits_value-lt 2 bits (digits-all 2 bits known))

-- ---- a lane: two such digits

glyph-value : (d : ℕ) → d < 16 → digit_value (digit_glyph false d) ≡ d
glyph-value d below = grind (arith, nat_tests)

glyph-digit : (d : ℕ) → d < 16 → is_digit (digit_glyph false d) 16 ≡ true
glyph-digit d below = rw (glyph-value d below) (lt-ltb d 16 below)

-- what two characters say of a lane, by whether they are digits
lane-digits : (high low : ℕ) → is_digit high 16 ≡ true → is_digit low 16 ≡ true
    → lane_of_digits high low ≡ Some (Some (16 * digit_value high + digit_value low))
unfolding lane_of_digits
lane-digits high low h l =
    ap (λ (t : Bool). cond t (option_map Some (cond t (Some (16 * digit_value high + digit_value low)) None))
    (cond (is_shown high && is_shown low) (Some None) None))
    (and_from (is_digit high 16) (is_digit low 16) h l)

lane-no-high : (low : ℕ) → is_shown low ≡ true → lane_of_digits 120 low ≡ Some None
unfolding lane_of_digits
lane-no-high low shown = ap (λ (t : Bool). cond t (Some None) None) shown

lane-no-low : (high : ℕ) → is_digit high 16 ≡ true → lane_of_digits high 120 ≡ Some None
unfolding lane_of_digits
lane-no-low high digit =
    ap (λ (t : Bool). cond (t && false) (option_map Some (pair_of high 120))
    (cond ((t || ((high == 120) || (high == 88) || (high == 122) || (high == 90))) && true) (Some None) None)) digit

shown-digit : (c : ℕ) → is_digit c 16 ≡ true → is_shown c ≡ true
shown-digit c digit =
    ap (λ (t : Bool). t || ((c == 120) || (c == 88) || (c == 122) || (c == 90))) digit

-- ---- eight bits

-- each of eight is known, as they are tested
abbrev eight_known : List ℕ → Bool
eight_known bits =
    (((is_digit (get_or bits 0 0) 2 && is_digit (get_or bits 1 0) 2) && is_digit (get_or bits 2 0) 2)
    && is_digit (get_or bits 3 0) 2)
    && (((is_digit (get_or bits 4 0) 2 && is_digit (get_or bits 5 0) 2) && is_digit (get_or bits 6 0) 2)
    && is_digit (get_or bits 7 0) 2)

all-eight : (a b c d e f g h : Bool)
    → (a && (b && (c && (d && (e && (f && (g && (h && true)))))))) ≡ ((((a && b) && c) && d) && (((e && f) && g) && h))
all-eight false b c d e f g h = refl
all-eight true false c d e f g h = refl
all-eight true true false d e f g h = refl
all-eight true true true false e f g h = refl
all-eight true true true true false f g h = refl
all-eight true true true true true false g h = refl
all-eight true true true true true true false h = refl
all-eight true true true true true true true false = refl
all-eight true true true true true true true true = refl

same-known : (bits : List ℕ) → length bits ≡ 8 → are_known bits ≡ eight_known bits
same-known [] eight = absurd (omega (arith, eight))
same-known (a ∷ []) eight = absurd (omega (arith, eight))
same-known (a ∷ b ∷ []) eight = absurd (omega (arith, eight))
same-known (a ∷ b ∷ c ∷ []) eight = absurd (omega (arith, eight))
same-known (a ∷ b ∷ c ∷ d ∷ []) eight = absurd (omega (arith, eight))
same-known (a ∷ b ∷ c ∷ d ∷ e ∷ []) eight = absurd (omega (arith, eight))
same-known (a ∷ b ∷ c ∷ d ∷ e ∷ f ∷ []) eight = absurd (omega (arith, eight))
same-known (a ∷ b ∷ c ∷ d ∷ e ∷ f ∷ g ∷ []) eight = absurd (omega (arith, eight))
same-known (a ∷ b ∷ c ∷ d ∷ e ∷ f ∷ g ∷ h ∷ []) eight =
    all-eight (is_digit a 2) (is_digit b 2) (is_digit c 2) (is_digit d 2) (is_digit e 2) (is_digit f 2) (is_digit g 2)
    (is_digit h 2)
same-known (a ∷ b ∷ c ∷ d ∷ e ∷ f ∷ g ∷ h ∷ i ∷ bits) eight = absurd (omega (arith, eight))

-- the number of a bit at a place, if all are known
bit-at : (bits : List ℕ) (i : ℕ) → i < length bits → are_known bits ≡ true
    → digit_value (get_or bits i 0) ≡ get_or bits i 0 % 2
bit-at bits i inside known = bit_of (get_or bits i 0) (go (is_digit (get_or bits i 0) 2) refl)
  where
    go : (digit : Bool) → is_digit (get_or bits i 0) 2 ≡ digit → is_digit (get_or bits i 0) 2 ≡ true
    go true is = is
    go false is = let none : are_known bits ≡ false = list_all_at (λ c. is_digit c 2) bits i 0 inside is in absurd (cc)

-- the byte that eight bits are, put together
abbrev byte_by : List ℕ → ℕ
byte_by bits =
    16 * (8 * (get_or bits 0 0 % 2) + 4 * (get_or bits 1 0 % 2) + 2 * (get_or bits 2 0 % 2) + get_or bits 3 0 % 2)
    + 8 * (get_or bits 4 0 % 2) + 4 * (get_or bits 5 0 % 2) + 2 * (get_or bits 6 0 % 2) + get_or bits 7 0 % 2

same-byte : (bits : List ℕ) → length bits ≡ 8 → are_known bits ≡ true → digits_value 2 bits ≡ byte_by bits
same-byte [] eight known = absurd (omega (arith, eight))
same-byte (a ∷ []) eight known = absurd (omega (arith, eight))
same-byte (a ∷ b ∷ []) eight known = absurd (omega (arith, eight))
same-byte (a ∷ b ∷ c ∷ []) eight known = absurd (omega (arith, eight))
same-byte (a ∷ b ∷ c ∷ d ∷ []) eight known = absurd (omega (arith, eight))
same-byte (a ∷ b ∷ c ∷ d ∷ e ∷ []) eight known = absurd (omega (arith, eight))
same-byte (a ∷ b ∷ c ∷ d ∷ e ∷ f ∷ []) eight known = absurd (omega (arith, eight))
same-byte (a ∷ b ∷ c ∷ d ∷ e ∷ f ∷ g ∷ []) eight known = absurd (omega (arith, eight))
same-byte (a ∷ b ∷ c ∷ d ∷ e ∷ f ∷ g ∷ h ∷ []) eight known =
    let bits : List ℕ = a ∷ b ∷ c ∷ d ∷ e ∷ f ∷ g ∷ h ∷ [] in
    omega (
      arith,
      bit-at bits 0 (omega arith) known,
      bit-at bits 1 (omega arith) known,
      bit-at bits 2 (omega arith) known,
      bit-at bits 3 (omega arith) known,
      bit-at bits 4 (omega arith) known,
      bit-at bits 5 (omega arith) known,
      bit-at bits 6 (omega arith) known,
      bit-at bits 7 (omega arith) known,
    )
same-byte (a ∷ b ∷ c ∷ d ∷ e ∷ f ∷ g ∷ h ∷ i ∷ bits) eight known = absurd (omega (arith, eight))

pub byte-known : (bits : List ℕ) → length bits ≡ 8 → eight_known bits ≡ true → Some (byte_by bits) ≡ number_of 2 8 bits
byte-known bits eight all =
    let known : are_known bits ≡ true = same-known bits eight ∙ all in
    let value : digits_value 2 bits ≡ byte_by bits = same-byte bits eight known in
    sym (number-known 8 bits known (omega (arith, eight)) (omega (arith, eight)) (omega (arith, value))
    ∙ ap (λ (n : ℕ). Some n) value)

pub byte-unknown : (bits : List ℕ) → length bits ≡ 8 → eight_known bits ≡ false → None ≡ number_of 2 8 bits
byte-unknown bits eight some = sym (number-unknown 8 bits (same-known bits eight ∙ some))

-- ---- bits together

known-append : (bits more : List ℕ) → are_known (bits ++ more) ≡ (are_known bits && are_known more)
known-append [] more = refl
known-append (bit ∷ bits) more =
    ap (λ (t : Bool). is_digit bit 2 && t) (known-append bits more)
    ∙ go (is_digit bit 2) (are_known bits) (are_known more)
  where
    go : (a b c : Bool) → (a && (b && c)) ≡ ((a && b) && c)
    go true b c = refl
    go false b c = refl

value-append : (n : ℕ) (bits more : List ℕ)
    → digits_value_after 2 n (bits ++ more) ≡ digits_value_after 2 (digits_value_after 2 n bits) more
value-append n [] more = refl
value-append n (bit ∷ bits) more = value-append (n * 2 + digit_value bit) bits more

shift-four : (v e f g h : ℕ)
    → (((v * 2 + e) * 2 + f) * 2 + g) * 2 + h ≡ 16 * v + ((((0 * 2 + e) * 2 + f) * 2 + g) * 2 + h)
shift-four v e f g h = omega arith

value-four : (v : ℕ) (bits : List ℕ) → length bits ≡ 4
    → digits_value_after 2 v bits ≡ 16 * v + digits_value 2 bits
value-four v [] four = absurd (omega (arith, four))
value-four v (e ∷ []) four = absurd (omega (arith, four))
value-four v (e ∷ f ∷ []) four = absurd (omega (arith, four))
value-four v (e ∷ f ∷ g ∷ []) four = absurd (omega (arith, four))
value-four v (e ∷ f ∷ g ∷ h ∷ []) four =
    shift-four v (digit_value e) (digit_value f) (digit_value g) (digit_value h)
value-four v (e ∷ f ∷ g ∷ h ∷ i ∷ bits) four = absurd (omega (arith, four))

value-both : (high low : List ℕ) → length low ≡ 4
    → digits_value 2 (high ++ low) ≡ 16 * digits_value 2 high + digits_value 2 low
value-both high low four = value-append 0 high low ∙ value-four (digits_value 2 high) low four

-- ---- eight bits, as two digits of a lane

lane-known : (high low : List ℕ) → are_known high ≡ true → are_known low ≡ true
    → digits_value 2 high < 16 → digits_value 2 low < 16 → length high ≡ 4 → length low ≡ 4
    → lane_of_digits (digit_glyph false (digits_value 2 high)) (digit_glyph false (digits_value 2 low))
    ≡ Some (number_of 2 8 (high ++ low))
lane-known high low kh kl h l four-high four-low =
    let x = digits_value 2 high in
    let y = digits_value 2 low in
    let both = value-both high low four-low in
    let size : length (high ++ low) ≡ 8 = omega (arith, length-append high low, four-high, four-low) in
    let known : are_known (high ++ low) ≡ true =
    known-append high low ∙ and_from (are_known high) (are_known low) kh kl in
    lane-digits (digit_glyph false x) (digit_glyph false y) (glyph-digit x h) (glyph-digit y l)
    ∙ ap (λ (a : ℕ). Some (Some (16 * a + digit_value (digit_glyph false y)))) (glyph-value x h)
    ∙ ap (λ (b : ℕ). Some (Some (16 * x + b))) (glyph-value y l)
    ∙ sym (ap (λ (n : Option ℕ). Some n)
    (number-known 8 (high ++ low) known (omega (arith, size)) (omega (arith, size)) (omega (arith, both, h, l))
    ∙ ap (λ (n : ℕ). Some n) both))

lane-unknown : (high low : List ℕ) → (are_known high && are_known low) ≡ false → number_of 2 8 (high ++ low) ≡ None
lane-unknown high low unknown = number-unknown 8 (high ++ low) (known-append high low ∙ unknown)

lane-by : (high low : List ℕ) (x y : ℕ) → digit_of high ≡ x → digit_of low ≡ y → (n : Option ℕ)
    → number_of 2 8 (high ++ low) ≡ n → lane_of_digits x y ≡ Some n
    → lane_of_digits (digit_of high) (digit_of low) ≡ Some (number_of 2 8 (high ++ low))
lane-by high low x y is-x is-y n is-n lane =
    ap (λ (c : ℕ). lane_of_digits c (digit_of low)) is-x ∙ ap (λ (c : ℕ). lane_of_digits x c) is-y ∙ lane
    ∙ ap (λ (m : Option ℕ). Some m) (sym is-n)

lane-both : (high low : List ℕ) → length high ≡ 4 → length low ≡ 4 → IsNibble high → IsNibble low
    → lane_of_digits (digit_of high) (digit_of low) ≡ Some (number_of 2 8 (high ++ low))
lane-both high low fh fl (inl h) (inl l) =
    lane-by high low (digit_glyph false (digits_value 2 high)) (digit_glyph false (digits_value 2 low)) h.1 l.1
    (number_of 2 8 (high ++ low)) refl (lane-known high low h.0 l.0 h.2 l.2 fh fl)
lane-both high low fh fl (inl h) (inr l) =
    lane-by high low (digit_glyph false (digits_value 2 high)) 120 h.1 l.1 None
    (lane-unknown high low (ap (λ (t : Bool). are_known high && t) l.0 ∙ ap (λ (t : Bool). t && false) h.0))
    (lane-no-low (digit_glyph false (digits_value 2 high)) (glyph-digit (digits_value 2 high) h.2))
lane-both high low fh fl (inr h) (inl l) =
    lane-by high low 120 (digit_glyph false (digits_value 2 low)) h.1 l.1 None
    (lane-unknown high low (ap (λ (t : Bool). t && are_known low) h.0))
    (lane-no-high (digit_glyph false (digits_value 2 low))
    (shown-digit (digit_glyph false (digits_value 2 low)) (glyph-digit (digits_value 2 low) l.2)))
lane-both high low fh fl (inr h) (inr l) =
    lane-by high low 120 120 h.1 l.1 None (lane-unknown high low (ap (λ (t : Bool). t && are_known low) h.0))
    (lane-no-high 120 refl)

-- two digits, which say of a lane what eight bits spell
record IsByte (bits : List ℕ) (text rest : List ℕ) : Type 0 where
  high : ℕ
  low : ℕ
  is : text ≡ high ∷ low ∷ rest
  lane : lane_of_digits high low ≡ Some (number_of 2 8 bits)

byte-hexes : (bits rest : List ℕ) → length bits ≡ 8 → IsByte bits (hexes (bits ++ rest)) (hexes rest)
byte-hexes [] rest eight = absurd (omega (arith, eight))
byte-hexes (a ∷ []) rest eight = absurd (omega (arith, eight))
byte-hexes (a ∷ b ∷ []) rest eight = absurd (omega (arith, eight))
byte-hexes (a ∷ b ∷ c ∷ []) rest eight = absurd (omega (arith, eight))
byte-hexes (a ∷ b ∷ c ∷ d ∷ []) rest eight = absurd (omega (arith, eight))
byte-hexes (a ∷ b ∷ c ∷ d ∷ e ∷ []) rest eight = absurd (omega (arith, eight))
byte-hexes (a ∷ b ∷ c ∷ d ∷ e ∷ f ∷ []) rest eight = absurd (omega (arith, eight))
byte-hexes (a ∷ b ∷ c ∷ d ∷ e ∷ f ∷ g ∷ []) rest eight = absurd (omega (arith, eight))
byte-hexes (a ∷ b ∷ c ∷ d ∷ e ∷ f ∷ g ∷ h ∷ []) rest eight =
    let high : List ℕ = a ∷ b ∷ c ∷ d ∷ [] in
    let low : List ℕ = e ∷ f ∷ g ∷ h ∷ [] in
    record {
      high = digit_of high;
      low = digit_of low;
      is = refl;
      lane = lane-both high low refl refl (nibble high refl) (nibble low refl);
    }
byte-hexes (a ∷ b ∷ c ∷ d ∷ e ∷ f ∷ g ∷ h ∷ i ∷ bits) rest eight = absurd (omega (arith, eight))

byte-at : (bits : List ℕ) (n : ℕ) → n + 8 ≤ length bits
    → IsByte (take 8 (drop n bits)) (hexes (drop n bits)) (hexes (drop (n + 8) bits))
byte-at bits n inside =
    let long : 8 ≤ length (drop n bits) = omega (arith, length-drop n bits, inside) in
    let byte = byte-hexes (take 8 (drop n bits)) (drop 8 (drop n bits)) (length-take-le 8 (drop n bits) long) in
    record {
      high = byte.high;
      low = byte.low;
      is =
          ap hexes (sym (take-append-drop 8 (drop n bits))) ∙ byte.is
          ∙ ap (λ (rest : List ℕ). byte.high ∷ byte.low ∷ hexes rest) (drop-drop 8 n bits);
      lane = byte.lane;
    }

-- ---- all digits of bits, of which there are four for each

length-hexes : (k : ℕ) (bits : List ℕ) → length bits ≡ 4 * k → length (hexes bits) ≡ k
length-hexes zero [] size = refl
length-hexes zero (a ∷ bits) size = absurd (omega (arith, size))
length-hexes (suc k) [] size = absurd (omega (arith, size))
length-hexes (suc k) (a ∷ []) size = absurd (omega (arith, size))
length-hexes (suc k) (a ∷ b ∷ []) size = absurd (omega (arith, size))
length-hexes (suc k) (a ∷ b ∷ c ∷ []) size = absurd (omega (arith, size))
length-hexes (suc k) (a ∷ b ∷ c ∷ d ∷ bits) size = ap suc (length-hexes k bits (omega (arith, size)))

-- a digit of bits that are known
record IsDigit (bits : List ℕ) : Type 0 where
  digit : is_digit (digit_of bits) 16 ≡ true
  value : digit_value (digit_of bits) ≡ digits_value 2 bits

-- the digits of bits are digits, and spell the same number
record Spells (v : ℕ) (bits word : List ℕ) : Type 0 where
  digits : list_all (λ c. is_digit c 16) word ≡ true
  value : digits_value_after 16 v word ≡ digits_value_after 2 v bits

known-digit : (bits : List ℕ) → are_known bits ≡ true → 0 < length bits → length bits ≤ 4 → IsDigit bits
known-digit bits known some few =
    let below : digits_value 2 bits < 2 ^ length bits = digits_value-lt 2 bits (digits-all 2 bits known) in
    let more : 2 ^ length bits ≤ 2 ^ 4 = pow_mono few in
    let small : digits_value 2 bits < 16 = omega (arith, below, more) in
    let is : digit_of bits ≡ digit_glyph false (digits_value 2 bits) =
    ap digit_by (number-known 4 bits known some few (omega (arith, small)))
    ∙ ap (λ (n : ℕ). digit_glyph false n) (mod-eq_of_lt small) in
    record {
      digit = ap (λ (c : ℕ). is_digit c 16) is ∙ glyph-digit (digits_value 2 bits) small;
      value = ap digit_value is ∙ glyph-value (digits_value 2 bits) small;
    }

turned : (v x : ℕ) → v * 16 + x ≡ 16 * v + x
turned v x = omega arith

hexes-spell : (k v : ℕ) (bits : List ℕ) → length bits ≡ 4 * k → are_known bits ≡ true → Spells v bits (hexes bits)
hexes-spell zero v [] size known = record { digits = refl; value = refl }
hexes-spell zero v (a ∷ bits) size known = absurd (omega (arith, size))
hexes-spell (suc k) v [] size known = absurd (omega (arith, size))
hexes-spell (suc k) v (a ∷ []) size known = absurd (omega (arith, size))
hexes-spell (suc k) v (a ∷ b ∷ []) size known = absurd (omega (arith, size))
hexes-spell (suc k) v (a ∷ b ∷ c ∷ []) size known = absurd (omega (arith, size))
hexes-spell (suc k) v (a ∷ b ∷ c ∷ d ∷ bits) size known =
    let four : List ℕ = a ∷ b ∷ c ∷ d ∷ [] in
    let parts = and_parts (are_known four) (are_known bits) (sym (known-append four bits) ∙ known) in
    let first = known-digit four parts.0 (omega arith) (omega arith) in
    let next = v * 16 + digit_value (digit_of four) in
    let rest = hexes-spell k next bits (omega (arith, size)) parts.1 in
    let same : next ≡ digits_value_after 2 v four =
    ap (λ (d : ℕ). v * 16 + d) first.value ∙ turned v (digits_value 2 four) ∙ sym (value-four v four refl) in
    record {
      digits = and_from (is_digit (digit_of four) 16) (list_all (λ c. is_digit c 16) (hexes bits)) first.digit rest.digits;
      value = rest.value ∙ ap (λ (n : ℕ). digits_value_after 2 n bits) same;
    }

hex-whole : (bits : List ℕ) (k : ℕ) → length bits ≡ 4 * k → hex_text bits ≡ hexes bits
hex-whole bits k size =
    let whole : length bits % 4 ≡ 0 = omega (arith, size) in
    ap (λ (n : ℕ). cond (n == 0) (hexes bits) (digit_of (take n bits) ∷ hexes (drop n bits))) whole

-- fewer bits than four have one digit
hex-few : (bits : List ℕ) → 0 < length bits → length bits < 4 → hex_text bits ≡ digit_of bits ∷ []
hex-few [] some few = absurd (omega (arith, some))
hex-few (a ∷ []) some few = refl
hex-few (a ∷ b ∷ []) some few = refl
hex-few (a ∷ b ∷ c ∷ []) some few = refl
hex-few (a ∷ b ∷ c ∷ d ∷ bits) some few = absurd (omega (arith, few))

-- ---- masks

mask-by : (bus n : ℕ) (bits word : List ℕ) → length bits ≡ bus → HasNumber bits n → Spells 0 bits word
    → 0 < length word → length word ≡ mask_digits bus → mask_of bus word ≡ Ok n
unfolding mask_of hex_of
mask-by bus n bits word size has spells some digits =
    let small : n < 2 ^ bus = number-below bits n bus has (omega (arith, size)) in
    let below : ℕ → Result ℕ RowFault = λ m. cond (nat_lt m (2 ^ bus)) (Ok m) (Err Number) in
    ap (λ (t : Bool). cond t (hex_of word >>= below) (Err Number)) (eq-eqb (length word) (mask_digits bus) digits)
    ∙ ap (λ (t : Bool). cond t (Ok (digits_value 16 word)) (Err Number) >>= below)
    (and_from (nat_lt 0 (length word)) (list_all (λ c. is_digit c 16) word) (lt-ltb 0 (length word) some) spells.digits)
    ∙ ap below (spells.value ∙ sym has.value)
    ∙ ap (λ (t : Bool). cond t (Ok n) (Err Number)) (lt-ltb n (2 ^ bus) small)

mask-few : (bus n : ℕ) (bits : List ℕ) → length bits ≡ bus → 0 < bus → bus < 4 → HasNumber bits n
    → mask_digits bus ≡ 1 → mask_of bus (hex_text bits) ≡ Ok n
mask-few bus n bits size some few has one =
    let first = known-digit bits has.known has.some (omega (arith, size, few)) in
    ap (mask_of bus) (hex-few bits has.some (omega (arith, size, few)))
    ∙ mask-by bus n bits (digit_of bits ∷ []) size has (record {
      digits = and_from (is_digit (digit_of bits) 16) true first.digit refl;
      value = omega (arith, first.value);
    }) (omega arith) (sym one)

mask-whole : (k bus n : ℕ) (bits : List ℕ) → length bits ≡ bus → bus ≡ 4 * k → 0 < k → HasNumber bits n
    → mask_digits bus ≡ k → mask_of bus (hex_text bits) ≡ Ok n
mask-whole k bus n bits size whole some has count =
    let long = length-hexes k bits (size ∙ whole) in
    ap (mask_of bus) (hex-whole bits k (size ∙ whole))
    ∙ mask-by bus n bits (hexes bits) size has (hexes-spell k 0 bits (size ∙ whole) has.known)
    (omega (arith, long, some)) (long ∙ sym count)

mask-at : (bus : Bus) (n : ℕ) (bits : List ℕ) → length bits ≡ bus_bytes bus → HasNumber bits n
    → mask_of (bus_bytes bus) (hex_text bits) ≡ Ok n
mask-at One n bits size has = mask-few 1 n bits size (omega arith) (omega arith) has refl
mask-at Two n bits size has = mask-few 2 n bits size (omega arith) (omega arith) has refl
mask-at Four n bits size has = mask-whole 1 4 n bits size refl (omega arith) has refl
mask-at Eight n bits size has = mask-whole 2 8 n bits size refl (omega arith) has refl
mask-at Sixteen n bits size has = mask-whole 4 16 n bits size refl (omega arith) has refl
mask-at ThirtyTwo n bits size has = mask-whole 8 32 n bits size refl (omega arith) has refl
mask-at SixtyFour n bits size has = mask-whole 16 64 n bits size refl (omega arith) has refl

pub mask-read : (width : Bus) (bus n : ℕ) (bits : List ℕ) → bus ≡ bus_bytes width → length bits ≡ bus → HasNumber bits n
    → mask_of bus (hex_text bits) ≡ Ok n
mask-read width bus n bits is size has =
    ap (λ (b : ℕ). mask_of b (hex_text bits)) is ∙ mask-at width n bits (size ∙ is) has

-- the mask of bits that spell a number
pub mask-known : (bus : Bus) (bits : List ℕ) (mask : ℕ) → length bits ≡ bus_bytes bus → number_of 2 64 bits ≡ Some mask
    → mask_of (bus_bytes bus) (hex_text bits) ≡ Ok mask
mask-known bus bits mask size is = mask-read bus (bus_bytes bus) mask bits refl size (has-number 64 bits mask is)

-- ---- data

-- the digits of a lane of bits, counted from the last lane
lane-shown : (k : ℕ) (bits : List ℕ) → 8 * k + 8 ≤ length bits
    → lane_of_digits (get_or (hexes bits) (2 * k) 0) (get_or (hexes bits) (2 * k + 1) 0)
    ≡ Some (number_of 2 8 (take 8 (drop (8 * k) bits)))
lane-shown zero bits inside =
    let byte = byte-at bits 0 (omega (arith, inside)) in
    ap (λ (word : List ℕ). lane_of_digits (get_or word 0 0) (get_or word 1 0)) byte.is ∙ byte.lane
lane-shown (suc k) bits inside =
    let byte = byte-at bits 0 (omega (arith, inside)) in
    let more = drop 8 bits in
    let word = byte.high ∷ byte.low ∷ hexes more in
    let even : 2 * suc k ≡ suc (suc (2 * k)) = omega arith in
    let odd : 2 * suc k + 1 ≡ suc (suc (2 * k + 1)) = omega arith in
    let next : 8 + 8 * k ≡ 8 * suc k = omega arith in
    ap (λ (w : List ℕ). lane_of_digits (get_or w (2 * suc k) 0) (get_or w (2 * suc k + 1) 0)) byte.is
    ∙ ap (λ (i : ℕ). lane_of_digits (get_or word i 0) (get_or word (2 * suc k + 1) 0)) even
    ∙ ap (λ (i : ℕ). lane_of_digits (get_or (hexes more) (2 * k) 0) (get_or word i 0)) odd
    ∙ lane-shown k more (omega (arith, inside, length-drop 8 bits))
    ∙ ap (λ (rest : List ℕ). Some (number_of 2 8 (take 8 rest)))
    (drop-drop (8 * k) 8 bits ∙ ap (λ (i : ℕ). drop i bits) next)

all-shown : (bus : ℕ) (word bits : List ℕ)
    → ((lane : ℕ) → lane < bus → lane_at bus word lane ≡ Some (lane_in bus bits lane))
    → (first count : ℕ) → first + count ≤ bus
    → all_of (map (lane_at bus word) (range_with_len first count))
    ≡ Some (map (lane_in bus bits) (range_with_len first count))
all-shown bus word bits shown first zero inside = refl
all-shown bus word bits shown first (suc count) inside =
    ap (λ (lane : Option (Option ℕ)). option_and_then (λ x. option_map (λ xs. x ∷ xs)
    (all_of (map (lane_at bus word) (range_with_len (first + 1) count)))) lane) (shown first (omega (arith, inside)))
    ∙ ap (λ (lanes : Option (List (Option ℕ))). option_map (λ xs. lane_in bus bits first ∷ xs) lanes)
    (all-shown bus word bits shown (first + 1) count (omega (arith, inside)))

pub lanes-read : (bus : ℕ) (bits : List ℕ) → 0 < bus → length bits ≡ 8 * bus
    → lanes_of bus (hex_text bits) ≡ Ok (lanes_of_bits bus bits)
unfolding lanes_of shown_by
lanes-read bus bits some size =
    let word = hexes bits in
    let whole : length bits ≡ 4 * (2 * bus) = omega (arith, size) in
    let long : length word ≡ 2 * bus = length-hexes (2 * bus) bits whole in
    let shown = all-shown bus word bits (λ lane below.
    lane-shown (bus - 1 - lane) bits (omega (arith, size, below))) 0 bus (omega arith) in
    ap (lanes_of bus) (hex-whole bits (2 * bus) whole)
    ∙ ap (λ (t : Bool). cond t (Ok (zeros bus)) (cond (length word == 2 * bus) (ok_or (shown_by bus word) Number) (Err Number)))
    (ne_eqb (length word) 0 (λ (none : length word ≡ 0). omega (arith, none, long, some)))
    ∙ ap (λ (t : Bool). cond t (ok_or (shown_by bus word) Number) (Err Number)) (eq-eqb (length word) (2 * bus) long)
    ∙ ap (λ (lanes : Option (List (Option ℕ))). ok_or (option_map seen_of lanes) Number) shown

pub lanes-shown : (bus : ℕ) (bits : List ℕ) (seen : SeenLanes) → 0 < bus → length bits ≡ 8 * bus → seen ≡ lanes_of_bits bus bits
    → lanes_of bus (hex_text bits) ≡ Ok seen
lanes-shown bus bits seen some size is = lanes-read bus bits some size ∙ ap (λ (lanes : SeenLanes). Ok lanes) (sym is)
