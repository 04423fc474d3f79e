-- The plan of a system, and what a reset loads by it.
use Rattle.std.proofs.Common.{◌≡◌, ◌∙◌, ℕ, ◌+◌, List, length, Ok, refl, sym, subst, ap}
use Rattle.std.specs.Prelude.{IsTrue}
use Rattle.std.proofs.lemmas.List.{length-map}
use Rattle.check_description.specs.Description.{Description}
use Rattle.check_description.specs.Port.{Port}
use Rattle.check_turns.specs.View.{are_apart}
use Rattle.check_watch.specs.Plan.{IsPlan, Layout, Plan}
use Rattle.check_start.specs.Loads.{AreLoads, AreLoadsOf, SystemPlan, loads_at_reset, loads_of}
use Rattle.check_start.specs.Slaves.{own_slaves, shared_side, shared_slaves}
use Rattle.check_start.specs.Start.{IsPlanOf, layout_of}
use Rattle.check_start.specs.declared.slaves.SlaveSide.TheVariants as side
use Rattle.check_start.specs.declared.start.Terms.{Terms}
use Rattle.check_start.proofs.Loading.{loads_counted, loads_hold}

-- a plan of beats is one of the system
pub plan_of : (terms : Terms) (system : Description) (images : List (List ℕ)) (begins : Plan) → IsPlan begins
    → begins.layout ≡ layout_of terms system → shared_slaves system.rules.corrupt terms images system.ports ≡ Ok begins.resets
    → (IsTrue (are_apart (layout_of terms system)) → own_slaves system.rules.corrupt terms images system.ports ≡ Ok begins.own)
    → (plan : SystemPlan) × IsPlanOf terms system images plan
plan_of terms system images begins is layout resets own = (
  record { begins = begins; loads = loads_of system.ports; within = terms.within },
  record { is = is; layout = layout; resets = resets; own = own; loads = refl; within = refl },
)

-- what is loaded is what the slaves of the plan held at the beginning
pub loads_are : (terms : Terms) (system : Description) (images : List (List ℕ)) (plan : SystemPlan)
    → IsPlanOf terms system images plan → AreLoadsOf plan (loads_at_reset images system.ports)
loads_are terms system images plan is =
    let loaded = loads_at_reset images system.ports in
    record {
      counted = loads_counted images system.ports
          ∙ ap (λ n. n + 1) (sym (ap (λ (l : Layout). length l.ports) is.layout
          ∙ length-map system.ports (λ (port : Port). port.ranges)));
      shared = subst (λ loads. AreLoads loads plan.begins.resets loaded) (sym is.loads)
          (loads_hold system.rules.corrupt (shared_side terms.links) terms.orders images system.ports plan.begins.resets is.resets);
      own = λ apart. subst (λ loads. AreLoads loads plan.begins.own loaded) (sym is.loads)
          (loads_hold system.rules.corrupt side.Ports terms.orders images system.ports plan.begins.own
          (is.own (subst (λ (l : Layout). IsTrue (are_apart l)) is.layout apart)));
    }
