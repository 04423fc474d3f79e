use Rattle.std.proofs.Common.{◌≡◌, ◌*◌, ◌++◌, take}
use Rattle.std.specs.Int.{bit_at}
use Rattle.tl_types.specs.Bytes.{given_in}
use Rattle.check_cells.proofs.cells.Cells.append_words.Given as goal

-- the words so far are appended
abbrev pub invariant-loop-word : goal.invariant-loop-word
invariant-loop-word l = l.self ≡ l.initial.self ++ take (8 * l.word) (given_in (bit_at l.fn.known) l.bytes)
