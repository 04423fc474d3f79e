-- What a reset loads is the same at all links.
use Rattle.std.proofs.Common.{◌≡◌, List, Option, IsTrue, subst}
use Rattle.check_memory.specs.declared.slave.Slave.{Slave}
use Rattle.check_flight.specs.PortSlave.{PortSlave}
use Rattle.check_watch.specs.Past as group
use Rattle.check_watch.specs.Plan.{Sighting}
use Rattle.check_watch.specs.Reset.{AreReset}
use Rattle.check_sides.specs.Groups.{are_apart, shared_past}
use Rattle.check_sides.specs.Plan.{Plan}
use Rattle.check_sides.specs.Reset.{AreOwnReset, IsReset}

pub same_loads : (plan : Plan) (past : List Sighting) (loaded own_loaded loads : List (Option Slave)) (resets own : List PortSlave)
    → loaded ≡ loads → (IsTrue (are_apart plan.layout) → own_loaded ≡ loads)
    → IsReset plan past loaded own_loaded resets own → IsReset plan past loads loads resets own
same_loads plan past loaded own_loaded loads resets own is own_is reset = record {
  shared = subst (λ (l : List (Option Slave)). AreReset plan (group.state plan (shared_past plan.layout past)) l resets) is
      reset.shared;
  apart = λ yes. subst (λ (l : List (Option Slave)). AreOwnReset plan past l own) (own_is yes) (reset.apart yes);
  together = reset.together;
}
