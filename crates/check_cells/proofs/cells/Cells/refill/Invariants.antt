use Rattle.std.proofs.Common.{◌≡◌, take}
use Rattle.check_cells.proofs.cells.Cells.refill.Given as goal

-- the bytes so far stand there
abbrev pub invariant-loop-byte : goal.invariant-loop-byte
invariant-loop-byte l = l.self ≡ take l.byte-index l.bytes
