use Rattle.std.proofs.Common.{◌≡◌, ◌*◌, ◌++◌, length, drop}
use Rattle.std.specs.Int.{from_bool}
use Rattle.tl_types.specs.Bytes.{bytes_of_words}
use Rattle.check_memory.specs.Known.{known}
use Rattle.check_memory.proofs.WordNumbers.{added}
use Rattle.check_memory.proofs.wide.sum.Given as goal

-- the bytes so far, and those that the carry and the words from k on give
abbrev pub invariant-loop-k : goal.invariant-loop-k
invariant-loop-k l = record {
  gathered : l.bytes ++ known (bytes_of_words (added (from_bool l.carry) (drop l.k l.old) (drop l.k l.operand)))
      ≡ known (bytes_of_words (added 0 l.old l.operand));
  counted : length l.bytes ≡ 8 * l.k;
}
