-- Which lanes of a reply are known, and which of its bytes.
use Rattle.std.proofs.Common.{◌≡◌, ◌∙◌, ◌⊎◌, inl, inr, ℕ, zero, suc, ◌+◌, ◌-◌, ◌^◌, ◌%◌, ◌<◌, ◌≤◌, min, Bool, true, false, if◌then◌else◌, List, [], ◌∷◌, length, get_or, replicate, Option, Some, None, bit_and, ap, sym, refl, arith, lit≤, eqb-true}
use Rattle.std.specs.Prelude.{IsSome, ◌==◌, ◌&&◌, not, slice_index}
use Rattle.std.specs.Int.{bit_at}
use Rattle.std.proofs.lemmas.Bool.{cases_lt}
use Rattle.std.proofs.lemmas.Nat.{pow_pos, and_mask, and_mod, and_le_l}
use Rattle.std.proofs.Math.Nat.{mod-eq_of_lt, pow-le-pow_right}
use Rattle.std.proofs.lemmas.Nat.Bits.{bit_at-lt, bit_at_and, bit_at_ones, bit_at_mask_inside, bit_at_mask_below, same_from_bits_below}
use Rattle.tl_types.specs.Operation.{reply_carries_bytes, reply_byte_count}
use Rattle.tl_types.specs.declared.operation.ReplyOp.TheVariants.{AccessAck, AccessAckData, HintAck}
use Rattle.check_cells.specs.Known.{all_known, known as known_of}
use Rattle.check_beats.specs.Bus.{low, active_mask_on_bus}
use Rattle.check_beats.specs.Form.{IsKnownReply}
use Rattle.check_beats.specs.Message.{reply_op_of_number, is_spoiled, byte_at, given_at, seen_by, reply_part, reply_part_count}
use Rattle.check_beats.specs.declared.beat.ReplyHead.{ReplyHead}
use Rattle.check_beats.proofs.Window.{window_fits}
use Rattle.check_beats.proofs.Given.{length-given_at, given_at-get, active_set}

-- ---- bits below a bound

pub bit_at-mod : (n width k : ℕ) → k < width → bit_at (n % 2 ^ width) k ≡ bit_at n k
bit_at-mod n width k below =
    ap (λ m. bit_at m k) (sym (and_mask n width)) ∙ bit_at_and n (2 ^ width - 1) k
    ∙ ap (λ b. min (bit_at n k) b) (bit_at_ones width k below) ∙ one (bit_at n k) (bit_at-lt n k)
  where
    one : (b : ℕ) → b < 2 → min b 1 ≡ b
    one b small = omega (arith, small)

-- what a mask on the bus has in common with bits does not depend on those past it
pub and-mod : (mask known width : ℕ) → mask < 2 ^ width → bit_and mask (known % 2 ^ width) ≡ bit_and mask known
and-mod mask known width small =
    let same : mask % 2 ^ width ≡ mask = mod-eq_of_lt small in
    let below : bit_and mask known < 2 ^ width = omega (arith, and_le_l mask known, small) in
    ap (λ m. bit_and m (known % 2 ^ width)) (sym same) ∙ sym (and_mod mask known width) ∙ mod-eq_of_lt below

pub active_small : (w address size : ℕ) → active_mask_on_bus (2 ^ w) address size < 2 ^ (2 ^ w)
active_small w address size =
    let first = low address size % 2 ^ w in
    let last = first + min (2 ^ w) (2 ^ size) in
    let most : 2 ^ last ≤ 2 ^ (2 ^ w) = pow-le-pow_right (lit≤ tt) (window_fits w address size) in
    omega (arith, most, pow_pos first, pow_pos last)

-- ---- active lanes that are known

pub known_active : (w address size known k : ℕ)
    → bit_and (active_mask_on_bus (2 ^ w) address size) known ≡ active_mask_on_bus (2 ^ w) address size → k < min (2 ^ w) (2 ^ size)
    → bit_at known (low address size % 2 ^ w + k) ≡ 1
known_active w address size known k is within =
    let active = active_mask_on_bus (2 ^ w) address size in
    let lane = low address size % 2 ^ w + k in
    let set : bit_at active lane ≡ 1 = active_set w address size k within in
    let both : min (bit_at active lane) (bit_at known lane) ≡ bit_at active lane =
    sym (bit_at_and active known lane) ∙ ap (λ m. bit_at m lane) is in
    omega (arith, set, both, bit_at-lt known lane)

pub active_known : (w address size known : ℕ)
    → ((k : ℕ) → k < min (2 ^ w) (2 ^ size) → bit_at known (low address size % 2 ^ w + k) ≡ 1)
    → bit_and (active_mask_on_bus (2 ^ w) address size) known ≡ active_mask_on_bus (2 ^ w) address size
active_known w address size known each =
    same_from_bits_below last (bit_and active known) active
    (omega (arith, and_le_l active known, small)) small (λ i within. bit_at_and active known i ∙ go i within (cases_lt i first))
  where
    first : ℕ
    first = low address size % 2 ^ w

    last : ℕ
    last = first + min (2 ^ w) (2 ^ size)

    active : ℕ
    active = active_mask_on_bus (2 ^ w) address size

    small : active < 2 ^ last
    small = omega (arith, pow_pos first, pow_pos last)

    go : (i : ℕ) → i < last → (i < first) ⊎ (first ≤ i) → min (bit_at active i) (bit_at known i) ≡ bit_at active i
    go i within (inl before) =
        let none : bit_at active i ≡ 0 = bit_at_mask_below first last i before in
        omega (arith, none)
    go i within (inr past) =
        let set : bit_at active i ≡ 1 = bit_at_mask_inside first last i past within in
        let here : first + (i - first) ≡ i = omega (arith, past) in
        let lit : bit_at known i ≡ 1 = ap (λ n. bit_at known n) (sym here) ∙ each (i - first) (omega (arith, past, within)) in
        omega (arith, set, lit)

-- ---- bytes that are known

all_known_if : (cells : List (Option ℕ)) → ((k : ℕ) → k < length cells → IsSome (get_or cells k None)) → all_known cells ≡ true
all_known_if [] each = refl
all_known_if (None ∷ cells) each = each 0 (omega arith)
all_known_if (Some byte ∷ cells) each = all_known_if cells (λ k below. each (suc k) (omega (arith, below)))

if_all_known : (cells : List (Option ℕ)) → all_known cells ≡ true → (k : ℕ) → k < length cells → IsSome (get_or cells k None)
if_all_known [] all k below = absurd (omega (arith, below))
if_all_known (None ∷ cells) all k below = absurd (cc)
if_all_known (Some byte ∷ cells) all zero below = refl
if_all_known (Some byte ∷ cells) all (suc k) below = if_all_known cells all k (omega (arith, below))

all_known-known : (bytes : List ℕ) → all_known (known_of bytes) ≡ true
all_known-known [] = refl
all_known-known (byte ∷ bytes) = all_known-known bytes

lit_byte : (known : ℕ) (lanes : List ℕ) (lane : ℕ) → IsSome (byte_at known lanes lane) → bit_at known lane ≡ 1
lit_byte known lanes lane some = go (bit_at known lane == 1) refl some
  where
    go : (set : Bool) → (bit_at known lane == 1) ≡ set → IsSome (if set then Some (slice_index lanes lane) else None)
        → bit_at known lane ≡ 1
    go true is some = eqb-true (bit_at known lane) 1 is
    go false is some = absurd (cc)

byte_lit : (known : ℕ) (lanes : List ℕ) (lane : ℕ) → bit_at known lane ≡ 1 → IsSome (byte_at known lanes lane)
byte_lit known lanes lane set = rw set refl

-- ---- what a beat carries

carried : (opcode : ℕ) → reply_carries_bytes (reply_op_of_number opcode) ≡ (opcode == 1)
carried opcode = go (opcode == 0) (opcode == 1) refl refl
  where
    go : (a b : Bool) → (opcode == 0) ≡ a → (opcode == 1) ≡ b
        → reply_carries_bytes (if a then AccessAck else if b then AccessAckData else HintAck) ≡ b
    go true true none one = absurd (omega (arith, eqb-true opcode 0 none, eqb-true opcode 1 one))
    go true false none one = refl
    go false true none one = refl
    go false false none one = refl

few : (w size : ℕ) (carries : Bool) → min (2 ^ w) (if carries then 2 ^ size else 0) ≤ min (2 ^ w) (2 ^ size)
few w size true = omega arith
few w size false = omega arith

some_if : (w size k : ℕ) (carries : Bool) → k < min (2 ^ w) (if carries then 2 ^ size else 0) → carries ≡ true
some_if w size k true within = refl
some_if w size k false within = absurd (omega (arith, within))

pub known_part : (w address : ℕ) (beat : ReplyHead) (known : ℕ) (lanes : List ℕ) → is_spoiled beat ≡ false
    → IsKnownReply (2 ^ w) address beat known → all_known (reply_part (2 ^ w) address beat known lanes) ≡ true
known_part w address beat known lanes clean is = go beat.denied beat.corrupt refl refl
  where
    first : ℕ
    first = low address beat.size % 2 ^ w

    count : ℕ
    count = reply_part_count (2 ^ w) beat

    spoiled : (denied corrupt : Bool) → beat.denied ≡ denied → beat.corrupt ≡ corrupt → (corrupt && not denied) ≡ false
    spoiled denied corrupt d c = rw (d, c) at clean

    go : (denied corrupt : Bool) → beat.denied ≡ denied → beat.corrupt ≡ corrupt
        → all_known (seen_by denied corrupt (given_at known lanes first count)) ≡ true
    go true corrupt denied flag = all_known-known (replicate (length (given_at known lanes first count)) 0)
    go false true denied flag = absurd (lost (spoiled false true denied flag))
      where
        lost : true ≡ false → ⊥
        lost is = cc
    go false false denied flag = all_known_if (given_at known lanes first count) (λ k below.
        let within : k < count = omega (arith, below, length-given_at known lanes first count) in
        let carries = reply_carries_bytes (reply_op_of_number beat.opcode) in
        let one : beat.opcode ≡ 1 = eqb-true beat.opcode 1 (sym (carried beat.opcode) ∙ some_if w beat.size k carries within) in
        let small : k < min (2 ^ w) (2 ^ beat.size) = omega (arith, within, few w beat.size carries) in
        let lit = known_active w address beat.size known k (is one denied flag) small in
        rw (given_at-get known lanes first count k within) (byte_lit known lanes (first + k) lit))

pub part_known : (w address : ℕ) (beat : ReplyHead) (known : ℕ) (lanes : List ℕ)
    → all_known (reply_part (2 ^ w) address beat known lanes) ≡ true → IsKnownReply (2 ^ w) address beat known
part_known w address beat known lanes all one plain clean =
    active_known w address beat.size known (λ k within.
    let count = min (2 ^ w) (reply_byte_count (reply_op_of_number beat.opcode) beat.size) in
    let first = low address beat.size % 2 ^ w in
    let carries : reply_carries_bytes (reply_op_of_number beat.opcode) ≡ true = carried beat.opcode ∙ ap (λ n. n == 1) one in
    let full : count ≡ min (2 ^ w) (2 ^ beat.size) = ap (λ b. min (2 ^ w) (if b then 2 ^ beat.size else 0)) carries in
    let inside : k < count = omega (arith, within, full) in
    let cells : all_known (given_at known lanes first count) ≡ true =
    sym (ap (λ d. all_known (seen_by d beat.corrupt (given_at known lanes first count))) plain
    ∙ ap (λ c. all_known (seen_by false c (given_at known lanes first count))) clean) ∙ all in
    let some : IsSome (get_or (given_at known lanes first count) k None) =
    if_all_known (given_at known lanes first count) cells k (omega (arith, inside, length-given_at known lanes first count)) in
    lit_byte known lanes (first + k) (rw (given_at-get known lanes first count k inside) at some))
