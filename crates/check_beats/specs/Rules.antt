-- What a system says of all its links: whether requests may be unaligned, whether data may be corrupt, what its
-- decoders look at, and how long a clock is. That a request begins at a multiple of its size is of the chapter "Addressing" of
-- the TileLink specification; the rest is this project's own.
use Rattle.std.specs.Prelude.{◌≡◌, ℕ, ◌/◌, ◌%◌, ◌^◌, false, max, if◌then◌else◌}
use Rattle.check_beats.specs.declared.beat.AskHead.{AskHead}
use Rattle.check_beats.specs.declared.beat.ReplyHead.{ReplyHead}
use Rattle.check_beats.specs.declared.rules.LinkRules.{LinkRules}

-- the address of a request is a multiple of its size, unless the system allows others
abbrev pub IsAlignedBy : LinkRules → AskHead → Type 0
IsAlignedBy rules beat = rules.unaligned ≡ false → beat.address % 2 ^ beat.size ≡ 0

-- a beat of a request is not marked corrupt, unless the system says that data may be
abbrev pub IsAskMarkedBy : LinkRules → AskHead → Type 0
IsAskMarkedBy rules beat = rules.corrupt ≡ false → beat.corrupt ≡ false

-- a beat of a reply that is not denied is not marked corrupt, unless the system says that data may be
abbrev pub IsMarkedBy : LinkRules → ReplyHead → Type 0
IsMarkedBy rules beat = rules.corrupt ≡ false → beat.denied ≡ false → beat.corrupt ≡ false

-- the size of the part of a request that decoders look at: all its bytes, or the first
abbrev pub decoded_size : LinkRules → ℕ → ℕ
decoded_size rules size = if rules.by_address then 0 else size

-- how many clocks lie in so many units of time
abbrev pub clocks_in : LinkRules → ℕ → ℕ
clocks_in rules time = time / max rules.period 1
