use Rattle.std.proofs.Common.{◌<◌, ℕ, Option, Some, None, IsSomeAnd, unwrap_or, refl}
use Rattle.tl_audit.proofs.Cells.{square_cell}
use Rattle.tl_audit.proofs.lists.first_disordered.Goals as goal

below_it : (o : Option ℕ) (source : ℕ) → IsSomeAnd o (λ count. source < count) → source < unwrap_or o 0
below_it None source is = absurd is
below_it (Some count) source is = is

pub first_out_of_order-requires-clause-cells : goal.first_out_of_order-requires-clause-cells
first_out_of_order-requires-clause-cells c k e at =
    let places = c.requires k e at in
    let within : e.ask.source < c.unwrap_or-count.result =
    rw (c.unwrap_or-count.ensures, c.count.ensures) (below_it _ e.ask.source places.1) in
    rw (
      c.deref_mut.ensures.value,
      c.in_ok-lasts.ensures,
      square_cell {A = Option ℕ} None c.args.ports c.unwrap_or-count.result e.port e.ask.source places.0 within,
    ) refl
