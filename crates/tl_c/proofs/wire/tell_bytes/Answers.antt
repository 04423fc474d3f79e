-- One byte more is told.
use Rattle.std.proofs.Common.{arith}
use Rattle.tl_c.specs.Wire.{told_byte}
use Rattle.tl_c.proofs.Telling.{one_more_told}
use Rattle.tl_c.proofs.wire.tell_bytes.Goals as goal

pub get-requires : goal.get-requires
get-requires c = omega (arith, c.loop-place-test.true, c.requires)

pub loop-place-preserved : goal.loop-place-preserved
loop-place-preserved c =
    one_more_told told_byte c.args.cells.now c.args.bytes.now c.loop-place.bytes c.loop-place.place c.get.result
    c.unwrap_or.result c.requires c.loop-place-test.true c.loop-place.invariant c.get.ensures c.unwrap_or.ensures
