use Rattle.std.proofs.Common.{◌≡◌, ◌*◌, ◌++◌, length, drop}
use Rattle.tl_types.specs.Bytes.{bytes_of_words}
use Rattle.tl_ops.specs.Window.{combine_logic}
use Rattle.check_memory.specs.Known.{known}
use Rattle.check_memory.proofs.wide.combine_logic.Given as goal

-- the bytes so far, and those that the words from k on give
abbrev pub invariant-loop-k : goal.invariant-loop-k
invariant-loop-k l = record {
  gathered : l.bytes ++ known (combine_logic l.op (bytes_of_words (drop l.k l.old)) (bytes_of_words (drop l.k l.operand)))
      ≡ known (combine_logic l.op (bytes_of_words l.old) (bytes_of_words l.operand));
  counted : length l.bytes ≡ 8 * l.k;
}
