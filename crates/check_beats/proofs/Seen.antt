-- What is seen of the bytes that a beat of a reply carries.
use Rattle.std.proofs.Common.{◌≡◌, ◌∙◌, ℕ, zero, suc, ◌+◌, ◌-◌, ◌^◌, ◌%◌, ◌<◌, ◌≤◌, min, Bool, true, false, if◌then◌else◌, List, [], ◌∷◌, length, take, drop, get_or, slice_get, replicate, Option, Some, None, ap, sym, refl, arith, length-take, length-drop, get_or-take, get_or-drop, take_all}
use Rattle.std.specs.Prelude.{All, IsTrue, ◌==◌, option_map}
use Rattle.std.specs.Int.{bit_at}
use Rattle.std.proofs.lemmas.Nat.Bits.{bit_at-lt, bit_at_ones}
use Rattle.std.proofs.lemmas.Option.{slice_get-get_or, get_or_from_slice_get}
use Rattle.std.proofs.lemmas.List.{length-replicate, get_or-replicate, length-map, get_or-map}
use Rattle.std.proofs.lemmas.List.FromFn.{fill_by_all}
use Rattle.std.proofs.lemmas.List.Elements.{All-from_get_or}
use Rattle.tl_types.specs.Bytes.{given_byte, given_in}
use Rattle.tl_types.proofs.Given.{length-given_in, slice_get-given_in, given_in-all}
use Rattle.tl_types.specs.Operation.{reply_carries_bytes, reply_byte_count}
use Rattle.tl_types.specs.Wire.{reply_opcode_of}
use Rattle.tl_types.specs.declared.operation.ReplyOp.{ReplyOp}
use Rattle.tl_types.specs.declared.operation.ReplyOp.TheVariants.{AccessAck, AccessAckData, HintAck}
use Rattle.check_cells.specs.Known.{known as known_of}
use Rattle.check_beats.specs.Bus.{low, beat_count_on_bus}
use Rattle.check_beats.specs.Form.{IsFormedReply}
use Rattle.check_beats.specs.Message.{reply_op_of_number, byte_at, given_at, seen_by, seen_cells, reply_part, reply_beats}
use Rattle.check_beats.specs.declared.beat.ReplyHead.{ReplyHead}
use Rattle.check_beats.proofs.Window.{small_count}
use Rattle.check_beats.proofs.Given.{length-given_at, given_at-get}

reply_op-code : (op : ReplyOp) → reply_op_of_number (reply_opcode_of op) ≡ op
reply_op-code AccessAck = refl
reply_op-code AccessAckData = refl
reply_op-code HintAck = refl

carries-code : (op : ReplyOp) → (reply_opcode_of op == 1) ≡ reply_carries_bytes op
carries-code AccessAck = refl
carries-code AccessAckData = refl
carries-code HintAck = refl

pub reply_op_named : (op : ReplyOp) (opcode : ℕ) → reply_opcode_of op ≡ opcode → reply_op_of_number opcode ≡ op
reply_op_named op opcode code = rw (← code) (reply_op-code op)

pub reply_carries_named : (op : ReplyOp) (opcode : ℕ) → reply_opcode_of op ≡ opcode → (opcode == 1) ≡ reply_carries_bytes op
reply_carries_named op opcode code = rw (← code) (carries-code op)

length-zeros : (n : ℕ) → length (known_of (replicate n 0)) ≡ n
length-zeros n = length-map (replicate n 0) (λ (byte : ℕ). Some byte) ∙ length-replicate n 0

length-seen_by : (denied corrupt : Bool) (bytes : List (Option ℕ)) → length (seen_by denied corrupt bytes) ≡ length bytes
length-seen_by true corrupt bytes = length-zeros (length bytes)
length-seen_by false true bytes = length-replicate (length bytes) None
length-seen_by false false bytes = refl

pub length-seen_at : (beat : ReplyHead) (known : ℕ) (lanes : List ℕ) (first count : ℕ)
    → length (seen_cells beat known lanes first count) ≡ count
length-seen_at beat known lanes first count =
    length-seen_by beat.denied beat.corrupt (given_at known lanes first count) ∙ length-given_at known lanes first count

-- what is seen of a byte: zero in a denied reply, and nothing of a corrupt beat
abbrev pub byte_by : Bool → Bool → Option ℕ → Option ℕ
byte_by true corrupt byte = Some 0
byte_by false true byte = None
byte_by false false byte = byte

-- what is seen at a lane
abbrev pub seen_in : ReplyHead → ℕ → List ℕ → ℕ → Option ℕ
seen_in beat known lanes lane = byte_by beat.denied beat.corrupt (byte_at known lanes lane)

zero_at : (n k : ℕ) → k < n → get_or (known_of (replicate n 0)) k None ≡ Some 0
zero_at n k below =
    get_or-map (λ (byte : ℕ). Some byte) (replicate n 0) k 0 None (omega (arith, below, length-replicate {A = ℕ} n 0))
    ∙ ap (λ (b : ℕ). Some b) (get_or-replicate n k 0 0 below)

seen_by-get : (denied corrupt : Bool) (bytes : List (Option ℕ)) (k : ℕ) → k < length bytes
    → get_or (seen_by denied corrupt bytes) k None ≡ byte_by denied corrupt (get_or bytes k None)
seen_by-get true corrupt bytes k below = zero_at (length bytes) k below
seen_by-get false true bytes k below = get_or-replicate (length bytes) k None None below
seen_by-get false false bytes k below = refl

pub seen_at-get : (beat : ReplyHead) (known : ℕ) (lanes : List ℕ) (first count k : ℕ) → k < count
    → get_or (seen_cells beat known lanes first count) k None ≡ seen_in beat known lanes (first + k)
seen_at-get beat known lanes first count k within =
    seen_by-get beat.denied beat.corrupt (given_at known lanes first count) k
    (omega (arith, within, length-given_at known lanes first count))
    ∙ ap (λ byte. byte_by beat.denied beat.corrupt byte) (given_at-get known lanes first count k within)

clean_by : (denied corrupt : Bool) (bytes : List (Option ℕ)) → IsTrue denied → All (λ b. b ≡ Some 0) (seen_by denied corrupt bytes)
clean_by false corrupt bytes denied = absurd (cc)
clean_by true corrupt bytes denied =
    All-from_get_or (λ b. b ≡ Some 0) (known_of (replicate (length bytes) 0)) None (λ k within.
    zero_at (length bytes) k (omega (arith, within, length-zeros (length bytes))))

pub seen_clean : (beat : ReplyHead) (known : ℕ) (lanes : List ℕ) (first count : ℕ) → IsTrue beat.denied
    → All (λ b. b ≡ Some 0) (seen_cells beat known lanes first count)
seen_clean beat known lanes first count denied = clean_by beat.denied beat.corrupt (given_at known lanes first count) denied

-- lanes under a mask, as a list of bytes of which those are known whose bits are set
pub given_window : (known : ℕ) (lanes : List ℕ) (first count : ℕ) → first + count ≤ length lanes
    → take count (drop first (given_in (bit_at known) lanes)) ≡ given_at known lanes first count
given_window known lanes first count inside =
    let shown = given_in (bit_at known) lanes in
    let long : length shown ≡ length lanes = length-given_in (bit_at known) lanes in
    let counted : length (take count (drop first shown)) ≡ count = simp (length-take, length-drop) (omega (arith, inside, long)) in
    fill_by_all (λ k. byte_at known lanes (first + k)) (take count (drop first shown)) count None counted (λ k within.
    get_or-take count (drop first shown) k None within ∙ get_or-drop first shown k None
    ∙ shown_at known lanes (first + k) (omega (arith, inside, within)))
  where
    bit_byte : (bit byte : ℕ) → bit < 2 → given_byte bit byte ≡ (if bit == 1 then Some byte else None)
    bit_byte zero byte small = refl
    bit_byte (suc zero) byte small = refl
    bit_byte (suc (suc bit)) byte small = absurd (omega (arith, small))

    shown_at : (known : ℕ) (lanes : List ℕ) (lane : ℕ) → lane < length lanes
        → get_or (given_in (bit_at known) lanes) lane None ≡ byte_at known lanes lane
    shown_at known lanes lane below =
        let at : slice_get (given_in (bit_at known) lanes) lane ≡ Some (given_byte (bit_at known lane) (get_or lanes lane 0)) =
        slice_get-given_in (bit_at known) lanes lane
        ∙ ap (option_map (given_byte (bit_at known lane))) (slice_get-get_or lanes lane 0 below) in
        get_or_from_slice_get (given_in (bit_at known) lanes) lane _ None at
        ∙ bit_byte (bit_at known lane) (get_or lanes lane 0) (bit_at-lt known lane)

-- all lanes
pub given_all : (known : ℕ) (lanes : List ℕ) → given_in (bit_at known) lanes ≡ given_at known lanes 0 (length lanes)
given_all known lanes =
    let shown = given_in (bit_at known) lanes in
    sym (take_all (length lanes) shown (omega (arith, length-given_in (bit_at known) lanes)))
    ∙ given_window known lanes 0 (length lanes) (omega arith)

-- zeros that are all known
pub zeros_seen : (n : ℕ) → n ≤ 64 → given_in (bit_at (2 ^ 64 - 1)) (replicate n 0) ≡ known_of (replicate n 0)
zeros_seen n few = given_in-all (bit_at (2 ^ 64 - 1)) (replicate n 0)
    (λ k below. bit_at_ones 64 k (omega (arith, below, few, length-replicate {A = ℕ} n 0)))

-- bytes of which none is known
pub nothing_given : (bits : ℕ → ℕ) (bytes : List ℕ) → ((k : ℕ) → bits k ≡ 0) → given_in bits bytes ≡ replicate (length bytes) None
nothing_given bits [] none = refl
nothing_given bits (byte ∷ bytes) none =
    ap (λ (bit : ℕ). given_byte bit byte ∷ given_in (λ k. bits (suc k)) bytes) (none 0)
    ∙ ap (λ (rest : List (Option ℕ)). None ∷ rest) (nothing_given (λ k. bits (suc k)) bytes (λ k. none (suc k)))

-- one beat that is lawful alone, and is all of its reply, has the bytes of its opcode
pub one_reply_is_counted : (w address : ℕ) (beat : ReplyHead) (known : ℕ) (lanes : List ℕ) → IsFormedReply beat
    → reply_beats (2 ^ w) beat ≡ 1
    → length (reply_part (2 ^ w) address beat known lanes) ≡ reply_byte_count (reply_op_of_number beat.opcode) beat.size
one_reply_is_counted w address beat known lanes formed alone =
    let op = reply_op_of_number beat.opcode in
    let named : op ≡ formed.op = reply_op_named formed.op beat.opcode formed.code in
    let carries : (beat.opcode == 1) ≡ reply_carries_bytes op = reply_carries_named formed.op beat.opcode formed.code
    ∙ ap reply_carries_bytes (sym named) in
    let fits : reply_byte_count op beat.size ≤ 2 ^ w =
    small_count w beat.size (reply_carries_bytes op) (ap (λ b. beat_count_on_bus (2 ^ w) b beat.size) (sym carries)
    ∙ alone) in
    length-seen_at beat known lanes (low address beat.size % 2 ^ w)
    (min (2 ^ w) (reply_byte_count op beat.size)) ∙ omega (arith, fits)
