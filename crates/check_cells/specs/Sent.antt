-- Requests as they crossed: which of their bytes were carried by beats that were marked corrupt. The mark is of the chapter
-- "Signal descriptions" of the TileLink specification; what is kept of such bytes is this project's own.
use Rattle.std.specs.Prelude.{Bool, false, List, length, replicate}
use Rattle.std.specs.List.{list_any}
use Rattle.tl_types.specs.Request.{Request}

-- a request as it crossed. A byte of it is spoiled if the beat that carried it, or that might have carried it, was marked
-- corrupt. Of a byte that is spoiled it is known whether it was given, and nothing else: it is zero
pub record Sent : Type 0 where
  pub ask : Request
  pub spoiled : List Bool

-- a beat of it was marked corrupt
abbrev pub is_corrupt : Sent → Bool
is_corrupt sent = list_any (λ mark. mark) sent.spoiled

-- a request of which no beat was
abbrev pub unspoiled_ask : Request → Sent
unspoiled_ask ask = record { ask = ask; spoiled = replicate (length ask.bytes) false }
