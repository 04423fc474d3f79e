use Rattle.std.proofs.Common.{◌∙◌, length, sym, ap}
use Rattle.check_cells.specs.Pattern.{captured_bytes}
use Rattle.check_cells.proofs.Lanes.{known_zeros}
use Rattle.check_cells.proofs.pattern.put_captured.Goals as goal

pub returns-then-denied : goal.returns-then-denied
returns-then-denied c =
    let bytes = c.args.bytes.now in
    c.fill.ensures ∙ known_zeros (length bytes)
    ∙ ap (λ denied. captured_bytes denied bytes) (sym c.if-denied.true)
