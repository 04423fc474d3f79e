-- Nothing is in flight, and there is room for each wide source that somebody has.
use Rattle.std.proofs.Common.{◌≡◌, ℕ, ◌<◌, List, Option, None, length, refl, sym, subst, arith}
use Rattle.tl_map.specs.Owner.{IsOwned}
use Rattle.tl_map.specs.declared.owners.Owner.{Owner}
use Rattle.check_watch.specs.Plan.{LinkSide}
use Rattle.check_watch.specs.Plan.LinkSide.{AtMasters, AtPorts}
use Rattle.check_rows.specs.declared.request.Open.{Open}
use Rattle.check_unanswered.specs.Table.{open_at}
use Rattle.check_unanswered.specs.View.{open_table}
use Rattle.check_unanswered.proofs.Kept.{holds_fresh}
use Rattle.check_unanswered.proofs.pending.Pending.new.Goals as goal

-- what holds of both tables holds of that of each side
of_each : (masters ports : List (Option Open)) (taken : ℕ) (P : List (Option Open) → Type 0) → P masters → P ports
    → (side : LinkSide) → P (open_table (record { masters = masters; ports = ports; taken = taken }) side)
of_each masters ports taken P at_masters at_ports AtMasters = at_masters
of_each masters ports taken P at_masters at_ports AtPorts = at_ports

pub returns : goal.returns
returns c plan owners =
    let masters = c.in_ok-fresh_table.field-0.items in
    let ports = c.in_ok-fresh_table-2.field-0.items in
    let above : (wide : ℕ) → IsOwned plan.layout.owners wide → wide < c.wides-wides.result =
    subst (λ (l : List Owner). (wide : ℕ) → IsOwned l wide → wide < c.wides-wides.result) (sym owners)
    c.wides-wides.ensures.above in
    holds_fresh plan (record { masters = masters; ports = ports; taken = 0 }) refl
    (λ side wide owned. of_each masters ports 0 (λ t. wide < length t)
    (let lt = above wide owned in omega (arith, lt, c.in_ok-fresh_table.ensures.counted))
    (let lt = above wide owned in omega (arith, lt, c.in_ok-fresh_table-2.ensures.counted)) side)
    (λ side wide. of_each masters ports 0 (λ t. open_at t wide ≡ None)
    (c.in_ok-fresh_table.ensures.fresh wide) (c.in_ok-fresh_table-2.ensures.fresh wide) side)
