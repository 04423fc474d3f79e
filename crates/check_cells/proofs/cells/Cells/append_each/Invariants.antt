use Rattle.std.proofs.Common.{◌≡◌, ◌++◌, take}
use Rattle.std.specs.Int.{bit_at}
use Rattle.tl_types.specs.Bytes.{given_in}
use Rattle.check_cells.proofs.cells.Cells.append_each.Given as goal

-- the bytes so far are appended
abbrev pub invariant-loop-place : goal.invariant-loop-place
invariant-loop-place l = l.self ≡ l.initial.self ++ take l.place (given_in (bit_at l.fn.known) l.bytes)
