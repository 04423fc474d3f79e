-- Lanes and bits past the bus.
use Rattle.std.proofs.Common.{◌≡◌, ◌∙◌, ℕ, ◌+◌, ◌^◌, ◌%◌, ◌<◌, ◌≤◌, min, Bool, if◌then◌else◌, List, take, replicate, Option, Some, None, ap, sym, refl, arith, get_or-take, true, false, slice_index}
use Rattle.std.specs.Prelude.{◌==◌}
use Rattle.std.specs.Int.{bit_at}
use Rattle.std.proofs.lemmas.List.{ext_get_or}
use Rattle.std.proofs.lemmas.Nat.{and_le_r}
use Rattle.std.specs.Prelude.{◌↔◌}
use Rattle.tl_types.specs.Operation.{carries_bytes, may_leave_unset, reply_carries_bytes, reply_byte_count}
use Rattle.tl_types.specs.declared.operation.AskOp.{AskOp}
use Rattle.check_beats.specs.Bus.{bus_bytes, bus_log, low, active_mask_on_bus}
use Rattle.check_beats.specs.Form.{IsLawfulMaskOnBus, IsKnown, IsKnownReply}
use Rattle.check_beats.specs.Laws.{AsksAreOnBus, RepliesAreOnBus, KnownLanesAreKnownBytes}
use Rattle.check_beats.specs.declared.bus.Bus.{Bus}
use Rattle.check_beats.specs.Message.{op_of, reply_op_of_number, byte_at, given_at, seen_by, seen_cells, ask_part, ask_part_count, reply_part}
use Rattle.check_beats.specs.State.{AskBegun, ask_of, ask_after, ReplyBegun, reply_of, reply_after}
use Rattle.check_beats.specs.declared.beat.AskHead.{AskHead}
use Rattle.check_beats.specs.declared.beat.ReplyHead.{ReplyHead}
use Rattle.check_beats.proofs.Window.{window_fits, some_count}
use Rattle.check_beats.proofs.Given.{length-given_at, given_at-get}
use Rattle.check_beats.proofs.Lit.{bit_at-mod, and-mod, active_small, known_part, part_known}

byte_at-take : (mask : ℕ) (lanes : List ℕ) (n lane : ℕ) → lane < n → byte_at mask (take n lanes) lane ≡ byte_at mask lanes lane
byte_at-take mask lanes n lane below =
    ap (λ (byte : ℕ). if bit_at mask lane == 1 then Some byte else None) (get_or-take n lanes lane 0 below)

-- lanes that are not looked at
pub given_at-take : (mask : ℕ) (lanes : List ℕ) (n first count : ℕ) → first + count ≤ n
    → given_at mask (take n lanes) first count ≡ given_at mask lanes first count
given_at-take mask lanes n first count inside =
    ext_get_or None (given_at mask (take n lanes) first count) (given_at mask lanes first count)
    (length-given_at mask (take n lanes) first count ∙ sym (length-given_at mask lanes first count)) (λ k below.
    let within : k < count = omega (arith, below, length-given_at mask (take n lanes) first count) in
    given_at-get mask (take n lanes) first count k within
    ∙ byte_at-take mask lanes n (first + k) (omega (arith, inside, within))
    ∙ sym (given_at-get mask lanes first count k within))

pub seen_at-take : (beat : ReplyHead) (known : ℕ) (lanes : List ℕ) (n first count : ℕ) → first + count ≤ n
    → seen_cells beat known (take n lanes) first count ≡ seen_cells beat known lanes first count
seen_at-take beat known lanes n first count inside =
    ap (λ bytes. seen_by beat.denied beat.corrupt bytes) (given_at-take known lanes n first count inside)

pub ask_part-take : (w : ℕ) (beat : AskHead) (lanes : List ℕ) → ask_part (2 ^ w) beat (take (2 ^ w) lanes) ≡ ask_part (2 ^ w) beat lanes
ask_part-take w beat lanes = go beat.corrupt
  where
    first : ℕ
    first = low beat.address beat.size % 2 ^ w

    count : ℕ
    count = ask_part_count (2 ^ w) beat

    go : (corrupt : Bool)
        → given_at beat.mask (if corrupt then replicate (2 ^ w) 0 else take (2 ^ w) lanes) first count
        ≡ given_at beat.mask (if corrupt then replicate (2 ^ w) 0 else lanes) first count
    go true = refl
    go false =
        given_at-take beat.mask lanes (2 ^ w) first count
        (omega (arith, window_fits w beat.address beat.size, some_count beat.size (carries_bytes (op_of beat.opcode beat.param))))

pub reply_part-take : (w address : ℕ) (beat : ReplyHead) (known : ℕ) (lanes : List ℕ)
    → reply_part (2 ^ w) address beat known (take (2 ^ w) lanes) ≡ reply_part (2 ^ w) address beat known lanes
reply_part-take w address beat known lanes =
    seen_at-take beat known lanes (2 ^ w) (low address beat.size % 2 ^ w)
    (min (2 ^ w) (reply_byte_count (reply_op_of_number beat.opcode) beat.size))
    (omega (arith, window_fits w address beat.size, some_count beat.size (reply_carries_bytes (reply_op_of_number beat.opcode))))

-- what is spelled and kept

pub ask_of-take : (w : ℕ) (begun : Option AskBegun) (beat : AskHead) (lanes : List ℕ)
    → ask_of (2 ^ w) begun beat (take (2 ^ w) lanes) ≡ ask_of (2 ^ w) begun beat lanes
ask_of-take w begun beat lanes = rw (ask_part-take w beat lanes) refl

pub ask_after-take : (w : ℕ) (begun : Option AskBegun) (beat : AskHead) (lanes : List ℕ)
    → ask_after (2 ^ w) begun beat (take (2 ^ w) lanes) ≡ ask_after (2 ^ w) begun beat lanes
ask_after-take w begun beat lanes = rw (ask_part-take w beat lanes) refl

pub reply_of-take : (w : ℕ) (begun : Option ReplyBegun) (address : ℕ) (beat : ReplyHead) (known : ℕ) (lanes : List ℕ)
    → reply_of (2 ^ w) begun address beat known (take (2 ^ w) lanes) ≡ reply_of (2 ^ w) begun address beat known lanes
reply_of-take w begun address beat known lanes = rw (reply_part-take w address beat known lanes) refl

pub reply_after-take : (w : ℕ) (begun : Option ReplyBegun) (beat : ReplyHead) (known : ℕ) (lanes : List ℕ)
    → reply_after (2 ^ w) begun beat known (take (2 ^ w) lanes) ≡ reply_after (2 ^ w) begun beat known lanes
reply_after-take w begun beat known lanes = rw (seen_at-take beat known lanes (2 ^ w) 0 (2 ^ w) (omega arith)) refl

-- the same where the bus is one of so many bytes

pub ask_of-on : (bus : Bus) (n : ℕ) → bus_bytes bus ≡ n → (begun : Option AskBegun) (beat : AskHead) (lanes : List ℕ)
    → ask_of n begun beat (take (bus_bytes bus) lanes) ≡ ask_of n begun beat lanes
ask_of-on bus n is begun beat lanes =
    ap (λ m. ask_of m begun beat (take (bus_bytes bus) lanes)) (sym is) ∙ ask_of-take (bus_log bus) begun beat lanes
    ∙ ap (λ m. ask_of m begun beat lanes) is

pub ask_after-on : (bus : Bus) (n : ℕ) → bus_bytes bus ≡ n → (begun : Option AskBegun) (beat : AskHead) (lanes : List ℕ)
    → ask_after n begun beat (take (bus_bytes bus) lanes) ≡ ask_after n begun beat lanes
ask_after-on bus n is begun beat lanes =
    ap (λ m. ask_after m begun beat (take (bus_bytes bus) lanes)) (sym is) ∙ ask_after-take (bus_log bus) begun beat lanes
    ∙ ap (λ m. ask_after m begun beat lanes) is

pub reply_of-on : (bus : Bus) (n : ℕ) → bus_bytes bus ≡ n → (begun : Option ReplyBegun) (address : ℕ) (beat : ReplyHead)
    (known : ℕ) (lanes : List ℕ)
    → reply_of n begun address beat known (take (bus_bytes bus) lanes) ≡ reply_of n begun address beat known lanes
reply_of-on bus n is begun address beat known lanes =
    ap (λ m. reply_of m begun address beat known (take (bus_bytes bus) lanes)) (sym is)
    ∙ reply_of-take (bus_log bus) begun address beat known lanes ∙ ap (λ m. reply_of m begun address beat known lanes) is

pub reply_after-on : (bus : Bus) (n : ℕ) → bus_bytes bus ≡ n → (begun : Option ReplyBegun) (beat : ReplyHead) (known : ℕ)
    (lanes : List ℕ)
    → reply_after n begun beat known (take (bus_bytes bus) lanes) ≡ reply_after n begun beat known lanes
reply_after-on bus n is begun beat known lanes =
    ap (λ m. reply_after m begun beat known (take (bus_bytes bus) lanes)) (sym is)
    ∙ reply_after-take (bus_log bus) begun beat known lanes ∙ ap (λ m. reply_after m begun beat known lanes) is

-- ---- known bits past the bus

byte_at-mod : (known width : ℕ) (lanes : List ℕ) (lane : ℕ) → lane < width
    → byte_at (known % 2 ^ width) lanes lane ≡ byte_at known lanes lane
byte_at-mod known width lanes lane below =
    ap (λ bit. if bit == 1 then Some (slice_index lanes lane) else None) (bit_at-mod known width lane below)

given_at-mod : (known : ℕ) (lanes : List ℕ) (width first count : ℕ) → first + count ≤ width
    → given_at (known % 2 ^ width) lanes first count ≡ given_at known lanes first count
given_at-mod known lanes width first count inside =
    ext_get_or None (given_at (known % 2 ^ width) lanes first count) (given_at known lanes first count)
    (length-given_at (known % 2 ^ width) lanes first count ∙ sym (length-given_at known lanes first count)) (λ k below.
    let within : k < count = omega (arith, below, length-given_at (known % 2 ^ width) lanes first count) in
    given_at-get (known % 2 ^ width) lanes first count k within
    ∙ byte_at-mod known width lanes (first + k) (omega (arith, inside, within))
    ∙ sym (given_at-get known lanes first count k within))

seen_at-mod : (beat : ReplyHead) (known : ℕ) (lanes : List ℕ) (width first count : ℕ) → first + count ≤ width
    → seen_cells beat (known % 2 ^ width) lanes first count ≡ seen_cells beat known lanes first count
seen_at-mod beat known lanes width first count inside =
    ap (λ bytes. seen_by beat.denied beat.corrupt bytes) (given_at-mod known lanes width first count inside)

reply_part-mod : (w address : ℕ) (beat : ReplyHead) (known : ℕ) (lanes : List ℕ)
    → reply_part (2 ^ w) address beat (known % 2 ^ (2 ^ w)) lanes ≡ reply_part (2 ^ w) address beat known lanes
reply_part-mod w address beat known lanes =
    let op = reply_op_of_number beat.opcode in
    seen_at-mod beat known lanes (2 ^ w) (low address beat.size % 2 ^ w)
    (min (2 ^ w) (reply_byte_count op beat.size))
    (omega (arith, window_fits w address beat.size, some_count beat.size (reply_carries_bytes op)))

small_mask : (w : ℕ) (op : AskOp) (size address mask : ℕ) → IsLawfulMaskOnBus (2 ^ w) op size address mask → mask < 2 ^ (2 ^ w)
small_mask w op size address mask lawful = go (may_leave_unset op) refl
  where
    go : (part : Bool) → may_leave_unset op ≡ part → mask < 2 ^ (2 ^ w)
    go false never = omega (arith, lawful.whole never, active_small w address size)
    go true may =
        omega (arith, lawful.part may, and_le_r mask (active_mask_on_bus (2 ^ w) address size), active_small w address size)

known_alike : (width : ℕ) (beat : AskHead) (known : ℕ) → beat.mask < 2 ^ width
    → IsKnown beat (known % 2 ^ width) ↔ IsKnown beat known
known_alike width beat known small = (
  (λ is carries clean. sym (and-mod beat.mask known width small) ∙ is carries clean),
  (λ is carries clean. and-mod beat.mask known width small ∙ is carries clean),
)

pub asks_are_on_bus : AsksAreOnBus
asks_are_on_bus bus begun beat known lanes = record {
  ends = ask_of-take (bus_log bus) begun beat lanes;
  goes_on = ask_after-take (bus_log bus) begun beat lanes;
  mask = λ formed. small_mask (bus_log bus) formed.op beat.size beat.address beat.mask formed.mask;
  known_bits = λ formed. known_alike (bus_bytes bus) beat known
      (small_mask (bus_log bus) formed.op beat.size beat.address beat.mask formed.mask);
}

reply_known_alike : (w address : ℕ) (beat : ReplyHead) (known : ℕ)
    → IsKnownReply (2 ^ w) address beat (known % 2 ^ (2 ^ w)) ↔ IsKnownReply (2 ^ w) address beat known
reply_known_alike w address beat known =
    let same = and-mod (active_mask_on_bus (2 ^ w) address beat.size) known (2 ^ w) (active_small w address beat.size) in
    ((λ is one plain clean. sym same ∙ is one plain clean), (λ is one plain clean. same ∙ is one plain clean))

pub replies_are_on_bus : RepliesAreOnBus
replies_are_on_bus bus begun address beat known lanes =
    let w = bus_log bus in
    record {
      ends = reply_of-take w begun address beat (known % 2 ^ (2 ^ w)) lanes
          ∙ rw (reply_part-mod w address beat known lanes) refl;
      goes_on = reply_after-take w begun beat (known % 2 ^ (2 ^ w)) lanes
          ∙ rw (seen_at-mod beat known lanes (2 ^ w) 0 (2 ^ w) (omega arith)) refl;
      known_bits = reply_known_alike w address beat known;
    }

pub known_lanes_are_known_bytes : KnownLanesAreKnownBytes
known_lanes_are_known_bytes bus address beat known lanes clean = (
  (λ is. known_part (bus_log bus) address beat known lanes clean is),
  (λ all. part_known (bus_log bus) address beat known lanes all),
)
