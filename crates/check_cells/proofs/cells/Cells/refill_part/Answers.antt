use Rattle.std.proofs.Common.{◌≡◌, ◌∙◌, ◌+◌, ◌-◌, ◌/◌, ◌%◌, ◌^◌, ap, arith}
use Rattle.std.specs.Int.{bit_at}
use Rattle.tl_types.specs.Bytes.{given_in}
use Rattle.check_cells.proofs.Seen.{part_of_word, part_seen}
use Rattle.check_cells.proofs.cells.Cells.refill_part.Goals as goal

pub returns-then-word-bytes : goal.returns-then-word-bytes
returns-then-word-bytes c =
    let bytes = c.args.bytes.now in
    let start = c.args.start in
    let count = c.args.count in
    let word = start - start % 8 in
    let piece : word + 8 - word ≡ 8 = omega arith in
    let at : word + start % 8 ≡ start = omega arith in
    let set = rw piece at c.set_part.ensures in
    set ∙ ap (given_in (bit_at (c.args.known / 2 ^ start))) (part_of_word bytes word (start % 8) count start at (omega arith))
    ∙ part_seen c.args.known start count bytes

pub returns-else-lane-count-le-WORD_BYTES : goal.returns-else-lane-count-le-WORD_BYTES
returns-else-lane-count-le-WORD_BYTES c =
    let bytes = c.args.bytes.now in
    let start = c.args.start in
    let count = c.args.count in
    let piece : start + count - start ≡ count = omega arith in
    let appended = rw (piece, c.clear.ensures) at c.append.ensures in
    appended ∙ part_seen c.args.known start count bytes
