use Rattle.std.proofs.Common.{◌≡◌, ◌∙◌, ℕ, ◌+◌, false, ◌==◌, List, length, set, get_or, slice_get, Some, None, refl, sym, ap, arith, rules}
use Rattle.std.proofs.lemmas.List.{set-get_or}
use Rattle.std.proofs.lemmas.Option.{get_or_from_slice_get}
use Rattle.std.specs.Int.{bit_at}
use Rattle.std.specs.Prelude.{option_map}
use Rattle.tl_types.specs.Bytes.{bit_in, given_in, given_byte}
use Rattle.tl_types.proofs.Given.{length-given_in, slice_get-given_in}
use Rattle.check_memory.specs.Cells.{clear_cell}
use Rattle.check_memory.proofs.Forgotten.{clear_bit}
use Rattle.check_memory.proofs.sheet.Sheet.clear_byte.Goals as goal

pub known_cell-requires-clause-inside : goal.known_cell-requires-clause-inside
known_cell-requires-clause-inside c =
    omega (
      arith,
      c.requires,
      ap length c.self.view_is,
      length-given_in (bit_in c.self.inside.masks) c.self.inside.lanes,
      c.self.invariant.lanes_counted,
      c.self.invariant.masks_counted,
    )

pub byte-byte-requires : goal.byte-byte-requires
byte-byte-requires c = omega (
  arith,
  c.requires,
  ap length c.self.view_is,
  length-given_in (bit_in c.self.inside.masks) c.self.inside.lanes,
)

-- a byte that is known, and one that is not
known_at : (masks lanes : List ℕ) (place byte bit : ℕ) → slice_get lanes place ≡ Some byte → bit_in masks place ≡ bit
    → get_or (given_in (bit_in masks) lanes) place None ≡ given_byte bit byte
known_at masks lanes place byte bit is marked =
    get_or_from_slice_get (given_in (bit_in masks) lanes) place (given_byte bit byte) None
    (slice_get-given_in (bit_in masks) lanes place ∙ ap (option_map (given_byte (bit_in masks place))) is
    ∙ ap (λ b. Some (given_byte b byte)) marked)

pub returns-then-known_cell-eq1-clause-after : goal.returns-then-known_cell-eq1-clause-after
returns-then-known_cell-eq1-clause-after c =
    let inside = c.self.inside in
    let zero : c.args.place + 0 ≡ c.args.place = omega arith in
    let bits = c.known_cell.ensures.bits in
    let bit : bit_in inside.masks c.args.place ≡ 1 = ap (bit_in inside.masks) (sym zero)
    ∙ sym (bits 0 (omega arith)) ∙ ap (λ m. bit_at m 0) c.if-known_cell-eq1.true in
    let was : get_or c.args.self.now c.args.place None ≡ Some c.byte-byte.result =
    ap (λ cells. get_or cells c.args.place None) (sym c.self.view_is)
    ∙ known_at inside.masks inside.lanes c.args.place c.byte-byte.result 1 c.byte-byte.ensures bit in
    c.put_byte.ensures.after ∙ ap (λ cell. set c.args.self.now c.args.place (clear_cell cell (Some c.args.ones)))
    (sym was)

-- ones that are not all clear nothing of an unknown byte
stays : (ones : ℕ) → (ones ≡ 255 → ⊥) → clear_cell None (Some ones) ≡ None
stays ones apart = let test : (ones == 255) ≡ false = search rules in rw test refl

pub returns-else-ones-eq255-clause-after : goal.returns-else-ones-eq255-clause-after
returns-else-ones-eq255-clause-after c =
    let inside = c.self.inside in
    let zero_place : c.args.place + 0 ≡ c.args.place = omega arith in
    let bits = c.known_cell.ensures.bits in
    let clear : c.known_cell.result ≡ 0 = omega (arith, c.known_cell.ensures.fits, c.if-known_cell-eq1.false) in
    let bit : bit_in inside.masks c.args.place ≡ 0 = ap (bit_in inside.masks) (sym zero_place)
    ∙ sym (bits 0 (omega arith)) ∙ ap (λ m. bit_at m 0) clear in
    let was : get_or c.args.self.now c.args.place None ≡ None =
    ap (λ cells. get_or cells c.args.place None) (sym c.self.view_is)
    ∙ clear_bit (bit_in inside.masks) inside.lanes c.args.place bit in
    let left : clear_cell (get_or c.args.self.now c.args.place None) (Some c.args.ones)
    ≡ get_or c.args.self.now c.args.place None = ap (λ cell. clear_cell cell (Some c.args.ones)) was
    ∙ stays c.args.ones c.if-ones-eq255.false ∙ sym was in
    sym (ap (set c.args.self.now c.args.place) left ∙ set-get_or c.args.self.now c.args.place None)
