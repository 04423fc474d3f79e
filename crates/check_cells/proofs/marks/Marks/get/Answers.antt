use Rattle.std.proofs.Common.{◌≡◌, ◌∙◌, ℕ, ◌+◌, ◌≤◌, nat_lt, get_or, false, ap, sym, arith}
use Rattle.std.specs.Prelude.{◌==◌}
use Rattle.tl_types.specs.Bytes.{bit_in}
use Rattle.check_cells.proofs.Marking.{mark_at, mark_past, bit_is}
use Rattle.check_cells.proofs.marks.Marks.get.Goals as goal

pub returns-then-place-self : goal.returns-then-place-self
returns-then-place-self c =
    let bits = c.self.inside.bits in
    let place = c.args.place in
    let zero : place + 0 ≡ place = omega arith in
    let bit : c.known_cell.result ≡ bit_in bits place =
    bit_is c.known_cell.result c.known_cell.ensures.fits ∙ c.known_cell.ensures.bits 0 (omega arith) ∙ ap (bit_in bits) zero in
    ap (λ b. b == 1) bit ∙ sym (mark_at bits c.self.inside.len place c.if-place-self.true)
    ∙ ap (λ m. get_or m place false) c.self.view_is

no : (a b : ℕ) → b ≤ a → nat_lt a b ≡ false
no a b past = search (arith, past)

pub returns-else-place-self : goal.returns-else-place-self
returns-else-place-self c =
    let place = c.args.place in
    no place c.self.inside.len c.if-place-self.false ∙ (sym (mark_past c.self.inside.bits c.self.inside.len place (omega (arith, c.if-place-self.false)))
    ∙ ap (λ m. get_or m place false) c.self.view_is)
