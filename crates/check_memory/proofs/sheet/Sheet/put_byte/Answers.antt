use Rattle.std.proofs.Common.{◌≡◌, ◌∙◌, ◌<◌, [], ◌∷◌, length, set, Some, sym, ap, arith}
use Rattle.tl_types.specs.Bytes.{bit_in, given_in}
use Rattle.tl_types.proofs.Given.{length-given_in}
use Rattle.tl_ops.proofs.LaneLists.{length-with_window}
use Rattle.check_memory.proofs.PageCells.{byte_shown}
use Rattle.check_memory.proofs.sheet.Sheet.put_byte.Goals as goal

pub put_byte-requires : goal.put_byte-requires
put_byte-requires c = omega (
  arith,
  c.requires,
  ap length c.self.view_is,
  length-given_in (bit_in c.self.inside.masks) c.self.inside.lanes,
)

pub mark_cell-requires-clause-inside : goal.mark_cell-requires-clause-inside
mark_cell-requires-clause-inside c =
    omega (
      arith,
      c.requires,
      ap length c.self.view_is,
      length-given_in (bit_in c.self.inside.masks) c.self.inside.lanes,
      c.self.invariant.lanes_counted,
      c.self.invariant.masks_counted,
    )

within : (c : goal.After-mark_cell) → c.args.place < length c.self.inside.lanes
within c = omega (
  arith,
  c.requires,
  ap length c.self.view_is,
  length-given_in (bit_in c.self.inside.masks) c.self.inside.lanes,
)

lanes_long : (c : goal.After-mark_cell) → length c.put_byte.new.self ≡ length c.self.inside.lanes
lanes_long c = ap length c.put_byte.ensures
    ∙ length-with_window c.self.inside.lanes c.args.place (c.args.byte ∷ []) (omega (arith, within c))

pub invariant_of-self : goal.invariant_of-self
invariant_of-self c = record {
  lanes_counted = lanes_long c ∙ c.self.invariant.lanes_counted;
  masks_counted = c.mark_cell.auto.masks ∙ c.self.invariant.masks_counted;
}

pub returns-clause-after : goal.returns-clause-after
returns-clause-after c =
    let bits = c.mark_cell.ensures.outside in
    ap (given_in (bit_in c.mark_cell.new.masks)) c.put_byte.ensures
    ∙ byte_shown c.self.inside.masks c.mark_cell.new.masks c.self.inside.lanes c.args.place c.args.byte (within c)
    (c.mark_cell.ensures.inside 0 (omega arith)) bits
    ∙ ap (λ cells. set cells c.args.place (Some c.args.byte)) c.self.view_is

pub returns-clause-len : goal.returns-clause-len
returns-clause-len c =
    length-given_in (bit_in c.mark_cell.new.masks) c.put_byte.new.self
    ∙ lanes_long c ∙ sym (length-given_in (bit_in c.self.inside.masks) c.self.inside.lanes)
    ∙ ap length c.self.view_is
