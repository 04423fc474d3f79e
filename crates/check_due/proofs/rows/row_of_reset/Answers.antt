-- The first lane is zero.
use Rattle.std.proofs.Common.{◌≡◌, ℕ, ◌<◌, List, [], ◌∷◌, true, arith, length, refl, slice_set, take}
use Rattle.check_due.proofs.RowLemmas.{reset-row}
use Rattle.check_due.proofs.rows.row_of_reset.Goals as goal

first-lane : (lanes : List ℕ) → 0 < length lanes → take 1 (slice_set lanes 0 0) ≡ 0 ∷ []
first-lane [] some = absurd (omega (arith, some))
first-lane (lane ∷ lanes) some = refl

pub returns-clause-value : goal.returns-clause-value
returns-clause-value c =
    let lane = first-lane c.args.lanes.now (omega (arith, c.told-lanes)) in
    let told : c.args.buses.now.resets ≡ true = c.if-not-buses.false in
    rw (c.reset.ensures, lane, told) (reset-row c.args.buses.now.masters.now c.args.buses.now.ports.now c.args.line c.args.time (omega arith))
