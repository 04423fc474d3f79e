use Rattle.std.proofs.Common.{◌∙◌, ◌+◌, ◌^◌, ◌<◌, [], ◌∷◌, ◌++◌, length, ap, arith}
use Rattle.check_memory.specs.Paged.{paged_cells, content}
use Rattle.check_memory.proofs.ByteByByte.{read-more}
use Rattle.check_memory.proofs.Space.{length-tabulate}
use Rattle.check_memory.proofs.place.read_bytes.Goals as goal

pub loop-place-preserved : goal.loop-place-preserved
loop-place-preserved c =
    let pages = c.args.pages.now in
    let place = c.loop-place.place in
    let below : c.args.address + place < length (paged_cells pages) =
    omega (
      arith,
      c.requires.in_space,
      c.loop-place-test.true,
      length-tabulate (content pages.slots pages.known) (2 ^ 64),
    ) in
    c.push.ensures ∙ ap (λ cells. cells ++ c.byte.result ∷ []) c.loop-place.invariant
    ∙ read-more (paged_cells pages) c.args.address place c.byte.result below c.byte.ensures
