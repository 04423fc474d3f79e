-- The bytes that a beat of a request carries.
use Rattle.std.proofs.Common.{◌≡◌, ◌∙◌, ℕ, ◌+◌, ◌-◌, ◌/◌, ◌^◌, ◌%◌, ◌<◌, ◌≤◌, min, Bool, true, false, if◌then◌else◌, List, length, replicate, take, drop, get_or, Option, Some, None, ap, sym, refl, arith, eq-eqb, length-take, length-drop, get_or-take, get_or-drop, take_all}
use Rattle.std.specs.Prelude.{map, slice_index, All, IsSome, nat_lt, ◌==◌}
use Rattle.std.specs.Int.{bit_at}
use Rattle.std.proofs.lemmas.Nat.Bits.{bit_at_mask_inside, bit_at_ones}
use Rattle.std.proofs.lemmas.List.FromFn.{length-map-range_with_len, get_or-map-range_with_len, fill_by_all}
use Rattle.std.proofs.lemmas.List.Elements.{All-from_get_or}
use Rattle.std.proofs.lemmas.List.{get_or-map, length-map, length-replicate}
use Rattle.tl_types.specs.Operation.{carries_bytes, byte_count, may_leave_unset}
use Rattle.tl_types.specs.Request.{IsLawfulRequest}
use Rattle.tl_types.specs.Wire.{IsCodeOf, opcode_of, param_of}
use Rattle.tl_types.specs.declared.operation.Arith.TheVariants.{Min, Max, MinU, MaxU, Add}
use Rattle.tl_types.specs.declared.operation.Logic.TheVariants.{Xor, Or, And, Swap}
use Rattle.tl_types.specs.declared.operation.Hint.TheVariants.{PrefetchRead, PrefetchWrite}
use Rattle.tl_types.specs.declared.operation.AskOp.{AskOp}
use Rattle.tl_types.specs.declared.operation.AskOp.TheVariants.{PutFull, PutPartial, Arithmetic, Logical, Get, Intent}
use Rattle.check_beats.specs.Bus.{low, beat_count_on_bus, active_mask_on_bus}
use Rattle.check_beats.specs.Form.{IsFormed}
use Rattle.check_beats.specs.Message.{op_of, byte_at, given_at, shown_lanes, ask_part, ask_part_count, ask_beats}
use Rattle.check_beats.specs.declared.beat.AskHead.{AskHead}
use Rattle.check_beats.proofs.Window.{window_fits, small_count, some_count, ones_of}

-- ---- operations

op_of-code : (op : AskOp) → op_of (opcode_of op) (param_of op) ≡ op
op_of-code PutFull = refl
op_of-code PutPartial = refl
op_of-code (Arithmetic Min) = refl
op_of-code (Arithmetic Max) = refl
op_of-code (Arithmetic MinU) = refl
op_of-code (Arithmetic MaxU) = refl
op_of-code (Arithmetic Add) = refl
op_of-code (Logical Xor) = refl
op_of-code (Logical Or) = refl
op_of-code (Logical And) = refl
op_of-code (Logical Swap) = refl
op_of-code Get = refl
op_of-code (Intent PrefetchRead) = refl
op_of-code (Intent PrefetchWrite) = refl

carries-code : (op : AskOp) → nat_lt (opcode_of op) 4 ≡ carries_bytes op
carries-code PutFull = refl
carries-code PutPartial = refl
carries-code (Arithmetic _) = refl
carries-code (Logical _) = refl
carries-code Get = refl
carries-code (Intent _) = refl

pub op_named : (op : AskOp) (opcode param : ℕ) → IsCodeOf op opcode param → op_of opcode param ≡ op
op_named op opcode param code = rw (← code.opcode_is, ← code.param_is) (op_of-code op)

pub carries_named : (op : AskOp) (opcode param : ℕ) → IsCodeOf op opcode param → nat_lt opcode 4 ≡ carries_bytes op
carries_named op opcode param code = rw (← code.opcode_is) (carries-code op)

-- ---- lanes

pub length-given_at : (mask : ℕ) (lanes : List ℕ) (first count : ℕ) → length (given_at mask lanes first count) ≡ count
length-given_at mask lanes first count = length-map-range_with_len (λ k. byte_at mask lanes (first + k)) 0 count

pub given_at-get : (mask : ℕ) (lanes : List ℕ) (first count k : ℕ) → k < count
    → get_or (given_at mask lanes first count) k None ≡ byte_at mask lanes (first + k)
given_at-get mask lanes first count k within =
    get_or-map-range_with_len (λ k. byte_at mask lanes (first + k)) 0 count k k None within (omega arith)

byte_at-set : (mask : ℕ) (lanes : List ℕ) (lane : ℕ) → bit_at mask lane ≡ 1 → byte_at mask lanes lane ≡ Some (slice_index lanes lane)
byte_at-set mask lanes lane set =
    let yes : (bit_at mask lane == 1) ≡ true = eq-eqb (bit_at mask lane) 1 set in
    ap (λ b. if b then Some (slice_index lanes lane) else None) yes

-- a mask of all active lanes sets each lane of a beat
pub active_set : (w address size k : ℕ) → k < min (2 ^ w) (2 ^ size)
    → bit_at (active_mask_on_bus (2 ^ w) address size) (low address size % 2 ^ w + k) ≡ 1
active_set w address size k within =
    let first = low address size % 2 ^ w in
    bit_at_mask_inside first (first + min (2 ^ w) (2 ^ size)) (first + k) (omega arith) (omega (arith, within))

-- lanes that are all set are all given
pub all_given : (mask : ℕ) (lanes : List ℕ) (first count : ℕ) → first + count ≤ length lanes
    → ((k : ℕ) → k < count → bit_at mask (first + k) ≡ 1)
    → map (λ byte. Some byte) (take count (drop first lanes)) ≡ given_at mask lanes first count
all_given mask lanes first count inside set =
    let plain = take count (drop first lanes) in
    let counted : length plain ≡ count = simp (length-take, length-drop) (omega (arith, inside)) in
    fill_by_all (λ k. byte_at mask lanes (first + k)) (map (λ (byte : ℕ). Some byte) plain) count None
    (simp length-map counted) (λ k within.
    get_or-map (λ (byte : ℕ). Some byte) plain k 0 None (omega (arith, counted, within))
    ∙ ap (λ (b : ℕ). Some b) (get_or-take count (drop first lanes) k 0 within ∙ get_or-drop first lanes k 0)
    ∙ sym (byte_at-set mask lanes (first + k) (set k within)))

is_some : (x : Option ℕ) (byte : ℕ) → x ≡ Some byte → IsSome x
is_some x byte is = rw is refl

pub all_some : (mask : ℕ) (lanes : List ℕ) (first count : ℕ) → ((k : ℕ) → k < count → bit_at mask (first + k) ≡ 1)
    → All (λ b. IsSome b) (given_at mask lanes first count)
all_some mask lanes first count set =
    All-from_get_or (λ b. IsSome b) (given_at mask lanes first count) None (λ k within.
    let below : k < count = omega (arith, within, length-given_at mask lanes first count) in
    is_some _ _ (given_at-get mask lanes first count k below ∙ byte_at-set mask lanes (first + k) (set k below)))

-- ---- lanes as they are looked at

-- what holds of the lanes of a beat, and of zeros, holds of its lanes as they are looked at
pub shown_has : (P : List ℕ → Type 0) (bus : ℕ) (beat : AskHead) (lanes : List ℕ) → P lanes → P (replicate bus 0)
    → P (shown_lanes bus beat lanes)
shown_has P bus beat lanes given zeros = go beat.corrupt
  where
    go : (corrupt : Bool) → P (if corrupt then replicate bus 0 else lanes)
    go true = zeros
    go false = given

-- they are as many as the bus has
pub length-shown_lanes : (bus : ℕ) (beat : AskHead) (lanes : List ℕ) → length lanes ≡ bus → length (shown_lanes bus beat lanes) ≡ bus
length-shown_lanes bus beat lanes wide =
    shown_has (λ (l : List ℕ). length l ≡ bus) bus beat lanes wide (length-replicate bus 0)

-- those of a beat that is not marked corrupt are its lanes
pub shown_clean : (bus : ℕ) (beat : AskHead) (lanes : List ℕ) → beat.corrupt ≡ false → shown_lanes bus beat lanes ≡ lanes
shown_clean bus beat lanes clean = ap (λ (c : Bool). if c then replicate bus 0 else lanes) clean

-- those of one that is are zeros
pub shown_corrupt : (bus : ℕ) (beat : AskHead) (lanes : List ℕ) → beat.corrupt ≡ true → shown_lanes bus beat lanes ≡ replicate bus 0
shown_corrupt bus beat lanes corrupt = ap (λ (c : Bool). if c then replicate bus 0 else lanes) corrupt

-- ---- what one beat spells

-- a mask of all active lanes sets each lane that carries a byte
pub part_set : (w : ℕ) (beat : AskHead) → beat.mask ≡ active_mask_on_bus (2 ^ w) beat.address beat.size
    → (k : ℕ) → k < min (2 ^ w) (byte_count (op_of beat.opcode beat.param) beat.size)
    → bit_at beat.mask (low beat.address beat.size % 2 ^ w + k) ≡ 1
part_set w beat set k within =
    let below : k < min (2 ^ w) (2 ^ beat.size) =
    omega (arith, within, some_count beat.size (carries_bytes (op_of beat.opcode beat.param))) in
    ap (λ m. bit_at m (low beat.address beat.size % 2 ^ w + k)) set ∙ active_set w beat.address beat.size k below

pub part_some : (w : ℕ) (beat : AskHead) (lanes : List ℕ) → beat.mask ≡ active_mask_on_bus (2 ^ w) beat.address beat.size
    → All (λ b. IsSome b) (ask_part (2 ^ w) beat lanes)
part_some w beat lanes set =
    all_some beat.mask (shown_lanes (2 ^ w) beat lanes) (low beat.address beat.size % 2 ^ w) (ask_part_count (2 ^ w) beat)
    (part_set w beat set)

-- the bytes that a beat carries, of one that is not marked corrupt
pub clean_part : (bus : ℕ) (beat : AskHead) (lanes : List ℕ) → beat.corrupt ≡ false
    → given_at beat.mask lanes (low beat.address beat.size % bus) (ask_part_count bus beat) ≡ ask_part bus beat lanes
clean_part bus beat lanes clean =
    ap (λ (l : List ℕ). given_at beat.mask l (low beat.address beat.size % bus) (ask_part_count bus beat))
    (sym (shown_clean bus beat lanes clean))

-- each byte that a beat carries has a mark
pub marks_of_part : (bus : ℕ) (beat : AskHead) (lanes : List ℕ)
    → length (replicate (ask_part_count bus beat) beat.corrupt) ≡ length (ask_part bus beat lanes)
marks_of_part bus beat lanes =
    length-replicate (ask_part_count bus beat) beat.corrupt
    ∙ sym (length-given_at beat.mask (shown_lanes bus beat lanes) (low beat.address beat.size % bus) (ask_part_count bus beat))

-- one beat that is lawful alone, and is all of its request, carries the bytes of a lawful one
pub one_is_lawful : (w : ℕ) (beat : AskHead) (lanes : List ℕ) → IsFormed (2 ^ w) beat → ask_beats (2 ^ w) beat ≡ 1
    → IsLawfulRequest (op_of beat.opcode beat.param) beat.size (ask_part (2 ^ w) beat lanes)
one_is_lawful w beat lanes formed alone =
    let op = op_of beat.opcode beat.param in
    let named : op_of beat.opcode beat.param ≡ formed.op = op_named formed.op beat.opcode beat.param formed.code in
    let carries : nat_lt beat.opcode 4 ≡ carries_bytes op = carries_named formed.op beat.opcode beat.param formed.code
    ∙ ap carries_bytes (sym named) in
    let fits : byte_count op beat.size ≤ 2 ^ w =
    small_count w beat.size (carries_bytes op) (ap (λ b. beat_count_on_bus (2 ^ w) b beat.size) (sym carries) ∙ alone) in
    record {
      in_limit = formed.in_limit;
      counted =
          length-given_at beat.mask (shown_lanes (2 ^ w) beat lanes) (low beat.address beat.size % 2 ^ w) (ask_part_count (2 ^ w) beat)
          ∙ omega (arith, fits);
      whole = λ no. part_some w beat lanes (formed.mask.whole (ap may_leave_unset (sym named) ∙ no));
    }

-- one beat that is not marked corrupt, and whose mask is that of all active lanes, carries what stands there
pub one_is_given : (w : ℕ) (beat : AskHead) (lanes : List ℕ) → length lanes ≡ 2 ^ w → beat.corrupt ≡ false → beat.mask ≡ active_mask_on_bus (2 ^ w) beat.address beat.size
    → map (λ byte. Some byte)
    (take (min (2 ^ w) (byte_count (op_of beat.opcode beat.param) beat.size))
    (drop (low beat.address beat.size % 2 ^ w) lanes)) ≡ ask_part (2 ^ w) beat lanes
one_is_given w beat lanes wide clean set =
    let few = some_count beat.size (carries_bytes (op_of beat.opcode beat.param)) in
    all_given beat.mask lanes (low beat.address beat.size % 2 ^ w) (ask_part_count (2 ^ w) beat)
    (omega (arith, wide, few, window_fits w beat.address beat.size)) (part_set w beat set)
    ∙ clean_part (2 ^ w) beat lanes clean

-- a word whose bits are all set
pub whole_word : (mask : ℕ) (lanes : List ℕ) → mask ≡ 255 → length lanes ≡ 8
    → map (λ byte. Some byte) lanes ≡ given_at mask lanes 0 (length lanes)
whole_word mask lanes set wide =
    let all : take 8 (drop 0 lanes) ≡ lanes = take_all 8 lanes (omega (arith, wide)) in
    ap (λ (bytes : List ℕ). map (λ byte. Some byte) bytes) (sym all)
    ∙ all_given mask lanes 0 8 (omega (arith, wide)) (λ k within. ap (λ m. bit_at m (0 + k)) set
    ∙ bit_at_ones 8 (0 + k) (omega (arith, within)))
    ∙ ap (λ n. given_at mask lanes 0 n) (sym wide)

-- lanes whose bits are all set
pub whole_lanes : (mask : ℕ) (lanes : List ℕ) → length lanes ≤ 64 → mask ≡ (2 ^ 64 - 1) / 2 ^ (64 - length lanes)
    → map (λ byte. Some byte) lanes ≡ given_at mask lanes 0 (length lanes)
whole_lanes mask lanes few set =
    let all : take (length lanes) (drop 0 lanes) ≡ lanes = take_all (length lanes) lanes (omega arith) in
    let ones : mask ≡ 2 ^ length lanes - 1 = set ∙ ones_of (length lanes) few in
    ap (λ (bytes : List ℕ). map (λ byte. Some byte) bytes) (sym all)
    ∙ all_given mask lanes 0 (length lanes) (omega arith) (λ k within. ap (λ m. bit_at m (0 + k)) ones
    ∙ bit_at_ones (length lanes) (0 + k) (omega (arith, within)))
