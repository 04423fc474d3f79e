-- What a reset leaves of all links is one thing alone.
use Rattle.std.proofs.Common.{◌≡◌, ◌∙◌, ℕ, ◌<◌, Bool, true, false, List, length, Option, refl, sym, ap, arith}
use Rattle.std.specs.Prelude.{IsTrue}
use Rattle.check_memory.specs.declared.slave.Slave.{Slave}
use Rattle.check_flight.specs.PortSlave.{PortSlave, once_reset}
use Rattle.check_watch.specs.declared.beat.Link.TheVariants.{Port}
use Rattle.check_watch.specs.Past as group
use Rattle.check_watch.specs.Past.{State, slave_at}
use Rattle.check_watch.specs.Plan.{Sighting}
use Rattle.check_watch.specs.Reset.{IsCutAt, loaded_at}
use Rattle.check_watch.proofs.OneReset as group_proofs
use Rattle.check_watch.proofs.OneReset.{one_port, same_slaves}
use Rattle.check_sides.specs.Groups.{are_apart, is_alone, port_past, port_plan, shared_past}
use Rattle.check_sides.specs.Plan.{Plan}
use Rattle.check_sides.specs.Reset.{AreOwnReset, IsReset, IsResetLink}

one_link : (plan : Plan) (port : ℕ) (state : State) (load also_load : Option Slave) (later other : PortSlave)
    → load ≡ also_load → IsResetLink plan port state load later → IsResetLink plan port state also_load other
    → later ≡ other
one_link plan port state load also_load later other loads is also =
    is.2 ∙ ap (λ (s : PortSlave). once_reset s load)
    (one_port (IsCutAt plan state (Port port) port) (state.slaves port) is.0 also.0 is.1 also.1)
    ∙ ap (once_reset also.0) loads ∙ sym also.2

module _ (plan : Plan) (past : List Sighting) where
  one_own : (loaded also_loaded : List (Option Slave)) (own other : List PortSlave)
      → ((port : ℕ) → loaded_at loaded port ≡ loaded_at also_loaded port) → AreOwnReset plan past loaded own
      → AreOwnReset plan past also_loaded other → own ≡ other
  one_own loaded also_loaded own other loads is also =
      same_slaves own other (is.counted ∙ sym also.counted)
      (λ port inside.
      let counted = is.counted in
      let known : port < length plan.layout.ports = omega (arith, inside, counted) in
      by port known (is_alone plan.layout (Port port)) refl)
    where
      by : (port : ℕ) → port < length plan.layout.ports → (alone : Bool) → is_alone plan.layout (Port port) ≡ alone
          → slave_at own port ≡ slave_at other port
      by port known true alone =
          one_link (port_plan plan) port (group.state (port_plan plan) (port_past port past)) (loaded_at loaded port)
          (loaded_at also_loaded port) (slave_at own port) (slave_at other port) (loads port) (is.each port known alone)
          (also.each port known alone)
      by port known false shared = is.rest port known shared ∙ sym (also.rest port known shared)

  one_own_by : (apart : Bool) (loaded also_loaded : List (Option Slave)) (own other : List PortSlave)
      → (IsTrue apart → (port : ℕ) → loaded_at loaded port ≡ loaded_at also_loaded port)
      → (IsTrue apart → AreOwnReset plan past loaded own) → (IsTrue apart → AreOwnReset plan past also_loaded other)
      → (apart ≡ false → own ≡ plan.own) → (apart ≡ false → other ≡ plan.own) → own ≡ other
  one_own_by true loaded also_loaded own other loads is also still also_still =
      one_own loaded also_loaded own other (loads refl) (is refl) (also refl)
  one_own_by false loaded also_loaded own other loads is also still also_still = still refl ∙ sym (also_still refl)

  -- of the same loads a reset leaves the same
  pub one_reset : (loaded also_loaded own_loaded also_own_loaded : List (Option Slave)) (resets other_resets own other_own : List PortSlave)
      → ((port : ℕ) → loaded_at loaded port ≡ loaded_at also_loaded port)
      → (IsTrue (are_apart plan.layout) → (port : ℕ) → loaded_at own_loaded port ≡ loaded_at also_own_loaded port)
      → IsReset plan past loaded own_loaded resets own → IsReset plan past also_loaded also_own_loaded other_resets other_own
      → (resets ≡ other_resets) × (own ≡ other_own)
  one_reset loaded also_loaded own_loaded also_own_loaded resets other_resets own other_own loads own_loads is also = (
    group_proofs.one_reset plan (group.state plan (shared_past plan.layout past)) loaded also_loaded resets other_resets
        loads is.shared also.shared,
    one_own_by (are_apart plan.layout) own_loaded also_own_loaded own other_own own_loads is.apart also.apart
        is.together also.together,
  )
