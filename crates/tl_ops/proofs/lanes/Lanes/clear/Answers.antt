use Rattle.std.proofs.Common.{◌≡◌, ◌∙◌, length, take, drop, ap}
use Rattle.tl_ops.specs.Number.{low_bytes}
use Rattle.tl_ops.specs.Store.{with_window}
use Rattle.tl_ops.specs.Window.{cleared, operand_of}
use Rattle.tl_ops.proofs.lanes.Lanes.clear.Goals as goal

pub returns : goal.returns
returns c =
    let now = c.args.self.now in
    let given = c.args.given.now in
    let old : low_bytes (length given) c.cell-old.result ≡ take (length given) (drop c.args.start now) =
    rw c.len-width.ensures.value at c.cell-old.ensures.bytes in
    let bytes = ap (λ n. low_bytes n c.cleared_cell.result) c.len-width.ensures.value ∙ c.cleared_cell.ensures.bytes
    ∙ ap (λ was. cleared was (operand_of given)) old in
    c.set_cell.ensures.after ∙ ap (λ new. with_window now c.args.start new) bytes
