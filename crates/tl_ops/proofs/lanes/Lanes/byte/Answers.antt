use Rattle.std.proofs.Common.{◌≡◌, ◌∙◌, ◌%◌, ◌∷◌, [], ap, arith}
use Rattle.tl_ops.proofs.LaneLists.{byte_at_place}
use Rattle.tl_ops.proofs.lanes.Lanes.byte.Goals as goal

pub returns : goal.returns
returns c =
    let small : c.cell.result ≡ c.cell.result % 256 = omega (arith, c.cell.ensures.fits) in
    byte_at_place c.args.self.now c.args.place c.cell.result (ap (λ b. b ∷ []) small ∙ c.cell.ensures.bytes)
