-- What a beat does to the requests in flight, said of all links.
use Rattle.std.proofs.Common.{◌≡◌, List, true, false, sym, subst}
use Rattle.std.specs.Prelude.{◌↔◌}
use Rattle.check_watch.specs.declared.pending.Change.{Change}
use Rattle.check_watch.specs.declared.pending.Change.TheVariants.{Nothing}
use Rattle.check_watch.specs.Pending as group
use Rattle.check_watch.specs.Plan.{Plan, Sighting}
use Rattle.check_sides.specs.Groups.{is_alone, shared_past}
use Rattle.check_sides.specs.Pending.{IsChange}
use Rattle.check_sides.proofs.Grouping.{shared_more, shared_same}

module _ (plan : Plan) (past : List Sighting) (x : Sighting) where
  abbrev before : List Sighting
  before = shared_past plan.layout past

  pub alone_changes : is_alone plan.layout x.link ≡ true → IsChange plan past x Nothing
  alone_changes alone side wide =
      subst (λ l. group.IsInFlightInGroup plan l side wide ↔ group.IsInFlightInGroup plan before side wide)
      (sym (shared_same x.beat x.known x.lanes past plan.layout x.link alone)) (λ h. h, λ h. h)

  pub shared_changes : is_alone plan.layout x.link ≡ false → (change : Change)
      → group.IsGroupChange plan before x change → IsChange plan past x change
  shared_changes shared change is =
      subst (λ l. group.IsChangeBy (group.IsInFlightInGroup plan before) (group.IsInFlightInGroup plan l) plan.layout.owners
      (group.EndsReply plan before x) x change)
      (sym (shared_more x.beat x.known x.lanes past plan.layout x.link shared)) is
