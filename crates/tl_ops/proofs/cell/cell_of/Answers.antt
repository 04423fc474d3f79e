use Rattle.std.proofs.Common.{◌*◌, ◌/◌, ◌^◌}
use Rattle.std.proofs.lemmas.Nat.{and_mask}
use Rattle.tl_ops.proofs.cell.cell_of.Goals as goal

pub returns-clause-value : goal.returns-clause-value
returns-clause-value c = rw c.cell_mask.ensures (and_mask (c.args.word / 2 ^ (8 * c.args.lane)) (8 * c.args.width))
