use Rattle.std.proofs.Common.{◌≡◌, ◌∙◌, ◌+◌, ◌/◌, ◌<◌, length, Some, None, sym, ap, arith}
use Rattle.std.proofs.lemmas.List.{length-take}
use Rattle.std.specs.Int.{bit_at}
use Rattle.tl_types.specs.Bytes.{bit_in, given_in, given_byte}
use Rattle.tl_ops.specs.Cell.{lanes_of}
use Rattle.check_cells.proofs.Lanes.{byte_in_room}
use Rattle.check_cells.proofs.cells.Cells.get.Goals as goal

pub returns-then-known-eq1 : goal.returns-then-known-eq1
returns-then-known-eq1 c =
    let inside = c.self.inside in
    let place = c.args.place in
    let below : place < inside.len =
    omega (
      arith,
      c.requires,
      ap length c.self.view_is,
      length-take inside.len (given_in (bit_in inside.masks) (lanes_of inside.words)),
    ) in
    let within : place / 8 < length inside.words =
    omega (arith, below, c.self.invariant.in_limit, c.self.invariant.words_counted) in
    let zero : place + 0 ≡ place = omega arith in
    let bit : bit_in inside.masks place ≡ 1 = ap (bit_in inside.masks) (sym zero)
    ∙ sym (c.known_cell-known.ensures.bits 0 (omega arith)) ∙ ap (λ m. bit_at m 0) c.if-known-eq1.true in
    rw (← c.self.view_is) (byte_in_room (bit_in inside.masks) inside.words inside.len place c.cell_of-byte.result
    (Some c.cell_of-byte.result) below within c.cell_of-byte.ensures.value c.cell_of-byte.ensures.fits
    (ap (λ b. given_byte b c.cell_of-byte.result) bit))

pub returns-else-known-eq1 : goal.returns-else-known-eq1
returns-else-known-eq1 c =
    let inside = c.self.inside in
    let place = c.args.place in
    let below : place < inside.len =
    omega (
      arith,
      c.requires,
      ap length c.self.view_is,
      length-take inside.len (given_in (bit_in inside.masks) (lanes_of inside.words)),
    ) in
    let within : place / 8 < length inside.words =
    omega (arith, below, c.self.invariant.in_limit, c.self.invariant.words_counted) in
    let zero : place + 0 ≡ place = omega arith in
    let none : c.known_cell-known.result ≡ 0 = omega (arith, c.known_cell-known.ensures.fits, c.if-known-eq1.false) in
    let bit : bit_in inside.masks place ≡ 0 = ap (bit_in inside.masks) (sym zero)
    ∙ sym (c.known_cell-known.ensures.bits 0 (omega arith)) ∙ ap (λ m. bit_at m 0) none in
    rw (← c.self.view_is) (byte_in_room
    (bit_in inside.masks) inside.words inside.len place c.cell_of-byte.result None below within
    c.cell_of-byte.ensures.value c.cell_of-byte.ensures.fits (ap (λ b. given_byte b c.cell_of-byte.result) bit))
