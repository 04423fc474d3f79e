-- One row alone is a moment of its time, and so are no rows, of any time.
use Rattle.std.proofs.Common.{◌∙◌, ℕ, take, ap, sym}
use Rattle.check_rows.proofs.MomentLemmas.{lone-kept-in, lone-row-in, none-kept}
use Rattle.check_rows.proofs.moment.Moment.go_on.Goals as goal

pub invariant_of-self : goal.invariant_of-self
invariant_of-self c =
    let bytes = c.bytes-bytes.ensures.value in
    let lanes = c.copy_from_slice.ensures.after ∙ ap (λ (n : ℕ). take n c.args.lanes.now) bytes in
    let one = sym c.len.ensures.value ∙ c.if-len-eq1.true in
    let wide = sym c.len-then-len-eq1.ensures.value ∙ c.if-len-bytes.true ∙ bytes in
    rw (lanes, c.deref_mut.ensures.value)
    (lone-kept-in c.self.inside.rows.items c.self.inside.lanes.items c.args.lanes.now c.args.row.now one wide
    c.requires.lanes c.requires.link)

pub invariant_of-self-2 : goal.invariant_of-self-2
invariant_of-self-2 c = rw (c.clear.ensures, c.clear-2.ensures) (none-kept c.args.row.now.time)
