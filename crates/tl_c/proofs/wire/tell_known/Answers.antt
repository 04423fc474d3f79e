-- One flag more is told.
use Rattle.std.proofs.Common.{◌∙◌, ap, arith}
use mir.Val.{bool_byte}
use Rattle.tl_c.specs.Wire.{flag_number, known_number}
use Rattle.tl_c.proofs.Telling.{flag_byte, one_more_told}
use Rattle.tl_c.proofs.wire.tell_known.Goals as goal

pub get-requires : goal.get-requires
get-requires c = omega (arith, c.loop-place-test.true, c.requires)

pub loop-place-preserved : goal.loop-place-preserved
loop-place-preserved c =
    one_more_told known_number c.args.cells.now c.args.flags.now c.loop-place.flags c.loop-place.place c.get.result
    (bool_byte c.is_some.result) c.requires c.loop-place-test.true c.loop-place.invariant c.get.ensures
    (flag_byte c.is_some.result ∙ ap flag_number c.is_some.ensures)
