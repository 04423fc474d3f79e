use Rattle.std.proofs.Common.{◌≡◌, ◌∙◌, ◌-◌, ◌*◌, ◌^◌, ◌<◌, length, ap, arith}
use Rattle.std.proofs.lemmas.Nat.{and_le_l}
use Rattle.tl_ops.specs.Window.{cleared, operand_of}
use Rattle.tl_ops.specs.Number.{low_bytes}
use Rattle.tl_ops.proofs.Clearing.{low_bytes-cleared}
use Rattle.tl_ops.proofs.Parts.{word_of-only}
use Rattle.tl_ops.proofs.cell.cleared_cell.Goals as goal

pub returns-clause-fits : goal.returns-clause-fits
returns-clause-fits c =
    omega (arith, and_le_l c.args.old (2 ^ 64 - 1 - c.given_word-bytes.result.bytes), c.requires.old)

pub returns-clause-bytes : goal.returns-clause-bytes
returns-clause-bytes c =
    let given = c.args.given.now in
    let width = length given in
    let bytes = c.given_word-bytes.result.bytes in
    let whole = word_of-only given c.requires.in_word in
    let fits : bytes < 2 ^ (8 * width) = rw whole at c.given_word-bytes.ensures.fits in
    let ones_are : low_bytes width bytes ≡ operand_of given = rw whole at c.given_word-bytes.ensures.bytes in
    low_bytes-cleared width c.args.old bytes c.requires.in_word fits
    ∙ ap (λ ones. cleared (low_bytes width c.args.old) ones) ones_are
