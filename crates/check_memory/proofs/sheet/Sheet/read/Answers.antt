use Rattle.std.proofs.Common.{◌∙◌, length, take, drop, ap, arith}
use Rattle.tl_types.specs.Bytes.{bit_in}
use Rattle.tl_types.proofs.Given.{length-given_in}
use Rattle.check_cells.proofs.Written.{cell_shown}
use Rattle.check_memory.proofs.sheet.Sheet.read.Goals as goal

pub known_cell-known-requires-clause-inside : goal.known_cell-known-requires-clause-inside
known_cell-known-requires-clause-inside c =
    omega (
      arith,
      c.requires.inside,
      ap length c.self.view_is,
      length-given_in (bit_in c.self.inside.masks) c.self.inside.lanes,
      c.self.invariant.lanes_counted,
      c.self.invariant.masks_counted,
    )

pub cell-requires-clause-inside : goal.cell-requires-clause-inside
cell-requires-clause-inside c =
    omega (
      arith,
      c.requires.inside,
      ap length c.self.view_is,
      length-given_in (bit_in c.self.inside.masks) c.self.inside.lanes,
    )

pub returns-then-width-le-WORD_BYTES : goal.returns-then-width-le-WORD_BYTES
returns-then-width-le-WORD_BYTES c =
    let inside = c.self.inside in
    let bits = c.known_cell-known.ensures.bits in
    c.set_cell.ensures ∙ cell_shown inside.masks inside.lanes c.args.start c.args.width c.known_cell-known.result
    c.cell.result c.cell.ensures.bytes bits
    ∙ ap (λ cells. take c.args.width (drop c.args.start cells)) c.self.view_is
