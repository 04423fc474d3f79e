use Rattle.std.proofs.Common.{◌≡◌, ◌∙◌, ◌+◌, ◌<◌, length, set, None, sym, ap, arith}
use Rattle.tl_types.specs.Bytes.{bit_in}
use Rattle.tl_types.proofs.Given.{length-given_in}
use Rattle.check_memory.proofs.Forgotten.{byte_forgotten}
use Rattle.check_memory.proofs.sheet.Sheet.forget_byte.Goals as goal

pub mark_cell-requires-clause-inside : goal.mark_cell-requires-clause-inside
mark_cell-requires-clause-inside c =
    omega (
      arith,
      c.requires,
      ap length c.self.view_is,
      length-given_in (bit_in c.self.inside.masks) c.self.inside.lanes,
      c.self.invariant.lanes_counted,
      c.self.invariant.masks_counted,
    )

pub invariant_of-self : goal.invariant_of-self
invariant_of-self c = record {
  lanes_counted = c.self.invariant.lanes_counted;
  masks_counted = c.mark_cell.auto.masks ∙ c.self.invariant.masks_counted;
}

pub returns-clause-after : goal.returns-clause-after
returns-clause-after c =
    let zero : c.args.place + 0 ≡ c.args.place = omega arith in
    let within : c.args.place < length c.self.inside.lanes =
    omega (
      arith,
      c.requires,
      ap length c.self.view_is,
      length-given_in (bit_in c.self.inside.masks) c.self.inside.lanes,
    ) in
    let bits = c.mark_cell.ensures.outside in
    byte_forgotten c.self.inside.masks c.mark_cell.new.masks c.self.inside.lanes c.args.place within
    (ap (bit_in c.mark_cell.new.masks) (sym zero) ∙ c.mark_cell.ensures.inside 0 (omega arith)) bits
    ∙ ap (λ cells. set cells c.args.place None) c.self.view_is

pub returns-clause-len : goal.returns-clause-len
returns-clause-len c =
    length-given_in (bit_in c.mark_cell.new.masks) c.self.inside.lanes
    ∙ sym (length-given_in (bit_in c.self.inside.masks) c.self.inside.lanes) ∙ ap length c.self.view_is
