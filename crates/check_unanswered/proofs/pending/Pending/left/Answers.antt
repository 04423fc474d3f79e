-- What is left at the masters' links, else at the ports'.
use Rattle.std.proofs.Common.{◌≡◌, ◌∙◌, List, [], Option, None, Some, ap, inl, inr, subst}
use Rattle.std.specs.Prelude.{IfNone, IfSome}
use Rattle.check_watch.specs.Plan.{LinkSide}
use Rattle.check_watch.specs.Plan.LinkSide.{AtMasters, AtPorts}
use Rattle.check_sides.specs.Plan.{Plan}
use Rattle.check_rows.specs.Row.{SeenRow}
use Rattle.check_rows.specs.declared.request.Left.{Left}
use Rattle.check_unanswered.specs.Began.{IsComplete, IsCompleteOn, IsLeft}
use Rattle.check_unanswered.specs.Table.{IsEarliestOf, opens}
use Rattle.check_unanswered.specs.View.{Holds, PendingView}
use Rattle.check_unanswered.proofs.Kept.{complete_side, left_side}
use Rattle.check_unanswered.proofs.pending.Pending.left.Goals as goal

pub returns-in-Some-clause-left : goal.returns-in-Some-clause-left
returns-in-Some-clause-left c plan rows holds =
    inl (left_side plan rows c.args.self.now holds AtMasters c.in-Some.left
    (subst (λ t. IsEarliestOf t c.in-Some.left) (c.deref.ensures.value ∙ ap (λ (v : PendingView). v.masters) c.self.view_is) c.in-Some.ensures.some))

-- nothing is left at the masters' links, and the answer is that of the ports'
ports_complete : (plan : Plan) (rows : List SeenRow) (pending : PendingView) → Holds plan rows pending
    → opens pending.masters ≡ [] → (answer : Option Left) → IfNone answer (opens pending.ports ≡ [])
    → IfNone answer (IsComplete plan rows)
ports_complete plan rows pending holds masters (Some left) ports = tt
ports_complete plan rows pending holds masters None ports = both
  where
    both : (side : LinkSide) → IsCompleteOn plan rows side
    both AtMasters = complete_side plan rows pending holds AtMasters masters
    both AtPorts = complete_side plan rows pending holds AtPorts ports

ports_left : (plan : Plan) (rows : List SeenRow) (pending : PendingView) → Holds plan rows pending
    → opens pending.masters ≡ [] → (answer : Option Left) → IfSome answer (IsEarliestOf pending.ports)
    → IfSome answer (IsLeft plan rows)
ports_left plan rows pending holds masters None ports = tt
ports_left plan rows pending holds masters (Some left) ports =
    inr (complete_side plan rows pending holds AtMasters masters, left_side plan rows pending holds AtPorts left ports)

pub returns-in-None-clause-complete : goal.returns-in-None-clause-complete
returns-in-None-clause-complete c plan rows holds =
    ports_complete plan rows c.args.self.now holds
    (subst (λ t. opens t ≡ []) (c.deref.ensures.value ∙ ap (λ (v : PendingView). v.masters) c.self.view_is)
    c.in-None.ensures.none) c.left_in-in-None.result
    (subst (λ t. IfNone c.left_in-in-None.result (opens t ≡ [])) (c.deref-in-None.ensures.value ∙ ap (λ (v : PendingView). v.ports) c.self.view_is)
    c.left_in-in-None.ensures.none)

pub returns-in-None-clause-left : goal.returns-in-None-clause-left
returns-in-None-clause-left c plan rows holds =
    ports_left plan rows c.args.self.now holds
    (subst (λ t. opens t ≡ []) (c.deref.ensures.value ∙ ap (λ (v : PendingView). v.masters) c.self.view_is)
    c.in-None.ensures.none) c.left_in-in-None.result
    (subst (λ t. IfSome c.left_in-in-None.result (IsEarliestOf t)) (c.deref-in-None.ensures.value ∙ ap (λ (v : PendingView). v.ports) c.self.view_is)
    c.left_in-in-None.ensures.some)
