use Rattle.std.proofs.Common.{◌∙◌, ◌+◌, ◌/◌, ◌^◌, ◌<◌, ◌≤◌, [], ◌∷◌, length, sym, ap, arith}
use Rattle.check_memory.specs.Known.{replaced}
use Rattle.check_memory.specs.Paged.{paged_cells, content}
use Rattle.check_memory.proofs.ByteByByte.{still_there, written-more}
use Rattle.check_memory.proofs.Space.{length-tabulate}
use Rattle.check_memory.proofs.Unknown.{got}
use Rattle.check_memory.proofs.place.write_bytes.Goals as goal

pub put-requires : goal.put-requires
put-requires c =
    let place = c.loop-place.place in
    still_there c.args.pages.now.slots c.loop-place.pages.slots ((c.args.address + place) / 256) c.loop-place.invariant.1
    (c.requires.held place (omega (arith, c.loop-place-test.true, c.len-place-end.ensures.value)))

pub loop-place-preserved : goal.loop-place-preserved
loop-place-preserved c =
    let pages = c.args.pages.now in
    let cells = c.args.cells.now in
    let place = c.loop-place.place in
    let below : place < length cells = omega (arith, c.loop-place-test.true, c.len-place-end.ensures.value) in
    let inside : c.args.address ≤ length (paged_cells pages) =
    omega (arith, c.requires.in_space, length-tabulate (content pages.slots pages.known) (2 ^ 64)) in (
      c.put.ensures.after
          ∙ ap (λ now. replaced now (c.args.address + place) (c.get.result ∷ [])) c.loop-place.invariant.0
          ∙ written-more (paged_cells pages) cells c.args.address place c.get.result inside below
          (sym (got cells place c.get.result c.get.ensures)),
      λ number at is. c.put.ensures.kept number at (c.loop-place.invariant.1 number at is),
    )
