use Rattle.std.proofs.Common.{◌≡◌, ◌∙◌, ◌-◌, ◌*◌, ◌^◌, ap, arith}
use Rattle.std.proofs.lemmas.Nat.Bits.{ones_shr}
use Rattle.tl_ops.proofs.cell.cell_mask.Goals as goal

pub returns : goal.returns
returns c =
    let left : 64 - (64 - 8 * c.args.width) ≡ 8 * c.args.width = omega arith in
    ones_shr 64 (64 - 8 * c.args.width) (omega arith) ∙ ap (λ k. 2 ^ k - 1) left
