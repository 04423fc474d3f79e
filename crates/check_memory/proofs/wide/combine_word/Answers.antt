use Rattle.std.proofs.Common.{sym}
use Rattle.std.specs.Prelude.{bit_and, bit_or, bit_xor}
use Rattle.tl_types.specs.declared.operation.Logic.TheVariants.{Xor, Or, And, Swap}
use Rattle.tl_ops.proofs.Bytes.{low_bytes-and, low_bytes-or, low_bytes-xor, seconds_of_low_bytes}
use Rattle.check_memory.proofs.WordNumbers.{logic_word}
use Rattle.check_memory.proofs.wide.combine_word.Goals as goal

pub returns-in-Xor : goal.returns-in-Xor
returns-in-Xor c =
    rw c.in-Xor.is (logic_word Xor c.args.old c.args.operand (bit_xor c.args.old c.args.operand)
    (low_bytes-xor 8 c.args.old c.args.operand))

pub returns-in-Or : goal.returns-in-Or
returns-in-Or c =
    rw c.in-Or.is (logic_word Or c.args.old c.args.operand (bit_or c.args.old c.args.operand)
    (low_bytes-or 8 c.args.old c.args.operand))

pub returns-in-And : goal.returns-in-And
returns-in-And c =
    rw c.in-And.is (logic_word And c.args.old c.args.operand (bit_and c.args.old c.args.operand)
    (low_bytes-and 8 c.args.old c.args.operand))

pub returns-in-Swap : goal.returns-in-Swap
returns-in-Swap c =
    rw c.in-Swap.is (logic_word Swap c.args.old c.args.operand c.args.operand
    (sym (seconds_of_low_bytes 8 c.args.old c.args.operand)))
