use Rattle.std.proofs.Common.{length, ap, arith}
use Rattle.std.proofs.lemmas.List.{length-take-le}
use Rattle.check_cells.proofs.cells.Cells.refill.Goals as goal

pub push-requires : goal.push-requires
push-requires c =
    let bytes = c.args.bytes.now in
    omega (
      arith,
      ap length c.loop-byte.invariant,
      length-take-le c.loop-byte.byte-index bytes (omega arith),
      c.requires,
    )
