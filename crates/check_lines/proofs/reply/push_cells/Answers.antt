-- One more byte is printed.
use Rattle.std.proofs.Common.{◌≡◌, ◌<◌, length, get_or, None, arith}
use Rattle.std.proofs.lemmas.Grind.{common_steps}
use Rattle.std.proofs.lemmas.Option.{get_or_from_slice_get}
use Rattle.check_lines.proofs.reply.push_cells.Goals as goal

pub loop-place-preserved : goal.loop-place-preserved
loop-place-preserved c =
    let cells = c.args.cells.now in
    let place = c.loop-place.place in
    let within : place < length cells = omega (arith, c.loop-place-test.true, c.len-place-end.ensures.value) in
    let cell : get_or cells place None ≡ c.get.result =
    get_or_from_slice_get cells place c.get.result None c.get.ensures in
    grind (arith, common_steps, cell, within)
