-- How a request stands on the bus, beat by beat: the chapter "Beats and bursts" of the TileLink specification, but for
-- the width of the bus, which is this project's choice.
use Rattle.std.specs.Prelude.{◌≡◌, ℕ, ◌+◌, ◌-◌, ◌/◌, ◌%◌, ◌^◌, ◌<◌, ◌≤◌, Bool, true, false, if◌then◌else◌, List, length, Option, Some, None, min, max, slice_get, slice_index, bit_and}
use Rattle.std.specs.Int.{bit_at}
use Rattle.tl_types.specs.Operation.{carries_bytes, may_leave_unset}
use Rattle.tl_types.specs.Wire.{opcode_of, param_of}
use Rattle.tl_types.specs.Request.{Request}
use Rattle.tl_types.specs.declared.operation.AskOp.{AskOp}
use Rattle.tl_beats.specs.declared.beat.ABeat.{ABeat}
use Rattle.tl_types.specs.declared.limits.TheConstants.{BUS_BYTES}

-- the address rounded down to a multiple of the size
abbrev pub low : ℕ → ℕ → ℕ
low address size = address - address % 2 ^ size

-- the lane at which byte j of a message stands, in beat j / 8
abbrev pub lane_of : ℕ → ℕ → ℕ → ℕ
lane_of address size j = (low address size + j) % BUS_BYTES

-- how many beats a message has: one if it carries no bytes, whatever its size
abbrev pub beat_count : Bool → ℕ → ℕ
beat_count carries size = if carries then max 1 (2 ^ size / BUS_BYTES) else 1

-- a lane is active: all are in a message that fills the bus, else as many as it has bytes, from that of the rounded
-- address upward
pub record IsActive (address size lane : ℕ) : Type 0 where
  pub above : low address size % BUS_BYTES ≤ lane
  pub below : lane < low address size % BUS_BYTES + min BUS_BYTES (2 ^ size)

-- the mask of the active lanes
abbrev pub active_mask : ℕ → ℕ → ℕ
active_mask address size =
    let first = low address size % BUS_BYTES in 2 ^ (first + min BUS_BYTES (2 ^ size)) - 2 ^ first

-- a mask is lawful if it sets just the active lanes, or some of them if bytes may be left unset
pub record IsLawfulMask (op : AskOp) (size address mask : ℕ) : Type 0 where
  pub whole : may_leave_unset op ≡ false → mask ≡ active_mask address size
  pub part : may_leave_unset op ≡ true → bit_and mask (active_mask address size) ≡ mask

-- under a mask the lanes have this byte at this lane, or none there
abbrev pub StandsAt : ℕ → List ℕ → ℕ → Option ℕ → Type 0
StandsAt mask lanes lane (Some byte) = (bit_at mask lane ≡ 1) × (slice_index lanes lane ≡ byte)
StandsAt mask lanes lane None = bit_at mask lane ≡ 0

-- the fields that each beat of a request shares are the request's; the address does not rise from beat to beat
pub record HasFieldsOf (ask : Request) (beat : ABeat) : Type 0 where
  pub opcode : beat.opcode ≡ opcode_of ask.op
  pub param : beat.param ≡ param_of ask.op
  pub size : beat.size ≡ ask.size
  pub source : beat.source ≡ ask.source
  pub address : beat.address ≡ ask.address

-- a beat is number b of a request
pub record IsBeatOf (ask : Request) (b : ℕ) (beat : ABeat) : Type 0 where
  pub fields : HasFieldsOf ask beat
  pub mask : IsLawfulMask ask.op ask.size ask.address beat.mask
  pub bytes : (j : ℕ) (given : Option ℕ) → slice_get ask.bytes j ≡ Some given → j / BUS_BYTES ≡ b
      → StandsAt beat.mask beat.lanes (lane_of ask.address ask.size j) given

-- the beats spell the request
pub record SpellsAsk (ask : Request) (beats : List ABeat) : Type 0 where
  pub count : length beats ≡ beat_count (carries_bytes ask.op) ask.size
  pub each : (b : ℕ) (beat : ABeat) → slice_get beats b ≡ Some beat → IsBeatOf ask b beat

-- a beat has zeros on the lanes that carry nothing, which is this project's own rule
pub record IsClean (ask : Request) (beat : ABeat) : Type 0 where
  pub without_bytes : carries_bytes ask.op ≡ false → (k : ℕ) → k < BUS_BYTES → slice_index beat.lanes k ≡ 0
  pub unset : (k : ℕ) → k < BUS_BYTES → bit_at beat.mask k ≡ 0 → slice_index beat.lanes k ≡ 0
