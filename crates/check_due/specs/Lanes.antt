-- The lanes of a beat, bit by bit. It is this project's own; the order of bits and lanes is that of the TileLink specification
-- ("Signal descriptions").
use Rattle.std.specs.Prelude.{ℕ, ◌-◌, ◌*◌, List, drop, map, take, Option}
use Rattle.std.specs.List.{range_with_len}
use Rattle.tl_text.specs.Number.{number_of}
use Rattle.check_rows.specs.Lanes.{SeenLanes, seen_of}

-- the byte of a lane of a bus of so many bytes, if each of its bits is known; the bits of lane 0 stand last
abbrev pub lane_in : ℕ → List ℕ → ℕ → Option ℕ
lane_in bus bits lane = number_of 2 8 (take 8 (drop (8 * (bus - 1 - lane)) bits))

-- all lanes of the bus
abbrev pub lanes_of_bits : ℕ → List ℕ → SeenLanes
lanes_of_bits bus bits = seen_of (map (lane_in bus bits) (range_with_len 0 bus))
