-- The bus of a link, and where the bytes of a message stand on it: the chapter "Beats and bursts" of the TileLink
-- specification. The number of its bytes is handed in.
use Rattle.std.specs.Prelude.{ℕ, ◌+◌, ◌-◌, ◌/◌, ◌%◌, ◌^◌, ◌<◌, ◌≤◌, Bool, if◌then◌else◌, min, max}
use Rattle.check_beats.specs.declared.bus.Bus.{Bus}
use Rattle.check_beats.specs.declared.bus.Bus.TheVariants.{One, Two, Four, Eight, Sixteen, ThirtyTwo, SixtyFour}

-- the base-2 logarithm of its bytes
abbrev pub bus_log : Bus → ℕ
bus_log One = 0
bus_log Two = 1
bus_log Four = 2
bus_log Eight = 3
bus_log Sixteen = 4
bus_log ThirtyTwo = 5
bus_log SixtyFour = 6

-- how many bytes it has
abbrev pub bus_bytes : Bus → ℕ
bus_bytes bus = 2 ^ bus_log bus

-- the address rounded down to a multiple of the size
abbrev pub low : ℕ → ℕ → ℕ
low address size = address - address % 2 ^ size

-- the lane at which byte j of a message stands, in beat j / bus
abbrev pub lane_on_bus : ℕ → ℕ → ℕ → ℕ → ℕ
lane_on_bus bus address size j = (low address size + j) % bus

-- how many beats a message has: one if it carries no bytes, whatever its size
abbrev pub beat_count_on_bus : ℕ → Bool → ℕ → ℕ
beat_count_on_bus bus carries size = if carries then max 1 (2 ^ size / bus) else 1

-- a lane is active: all are in a message that fills the bus, else as many as it has bytes, from that of the rounded
-- address upward
pub record IsActive (bus address size lane : ℕ) : Type 0 where
  pub above : low address size % bus ≤ lane
  pub below : lane < low address size % bus + min bus (2 ^ size)

-- the mask of the active lanes
abbrev pub active_mask_on_bus : ℕ → ℕ → ℕ → ℕ
active_mask_on_bus bus address size =
    let first = low address size % bus in 2 ^ (first + min bus (2 ^ size)) - 2 ^ first
