use Rattle.std.proofs.Common.{◌≡◌, ◌∙◌, ◌%◌, ◌∷◌, [], ap, arith}
use Rattle.tl_ops.specs.Number.{low_bytes}
use Rattle.tl_ops.specs.Store.{with_window}
use Rattle.tl_ops.proofs.lanes.Lanes.put_byte.Goals as goal

pub returns : goal.returns
returns c =
    let one : c.args.byte % 256 ∷ [] ≡ c.args.byte ∷ [] = ap (λ b. b ∷ []) (omega arith) in
    c.set_cell.ensures.after ∙ ap (λ b. with_window c.args.self.now c.args.place (low_bytes 1 b)) c.from.ensures
    ∙ ap (λ bytes. with_window c.args.self.now c.args.place bytes) one
