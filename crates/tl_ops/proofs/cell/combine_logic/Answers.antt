use Rattle.std.proofs.Common.{◌*◌, sym}
use Rattle.std.proofs.lemmas.Nat.{or_lt, xor_lt}
use Rattle.tl_ops.proofs.Bytes.{low_bytes-and, low_bytes-or, low_bytes-xor, seconds_of_low_bytes}
use Rattle.tl_ops.proofs.cell.combine_logic.Goals as goal

pub returns-in-Xor-clause-fits : goal.returns-in-Xor-clause-fits
returns-in-Xor-clause-fits c = xor_lt (8 * c.args.width) c.args.old c.args.operand c.requires.old c.requires.operand

pub returns-in-Xor-clause-bytes : goal.returns-in-Xor-clause-bytes
returns-in-Xor-clause-bytes c = rw c.in-Xor.is (low_bytes-xor c.args.width c.args.old c.args.operand)

pub returns-in-Or-clause-fits : goal.returns-in-Or-clause-fits
returns-in-Or-clause-fits c = or_lt (8 * c.args.width) c.args.old c.args.operand c.requires.old c.requires.operand

pub returns-in-Or-clause-bytes : goal.returns-in-Or-clause-bytes
returns-in-Or-clause-bytes c = rw c.in-Or.is (low_bytes-or c.args.width c.args.old c.args.operand)

pub returns-in-And-clause-bytes : goal.returns-in-And-clause-bytes
returns-in-And-clause-bytes c = rw c.in-And.is (low_bytes-and c.args.width c.args.old c.args.operand)

pub returns-in-Swap-clause-bytes : goal.returns-in-Swap-clause-bytes
returns-in-Swap-clause-bytes c = rw c.in-Swap.is (sym (seconds_of_low_bytes c.args.width c.args.old c.args.operand))
