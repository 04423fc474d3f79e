-- The memories of a system's ports are seen in the judge as the file says.
use Rattle.std.proofs.Common.{◌≡◌, ◌∙◌, ℕ, zero, suc, ◌+◌, Bool, true, false, List, [], ◌∷◌, ◌++◌, length, map, nat_lt, Result, Ok, Err, refl, ap, subst}
use Rattle.std.specs.Prelude.{◌||◌}
use Rattle.tl_text.specs.Reading.{◌>>=◌, unless}
use Rattle.check_flight.specs.PortSlave.{PortSlave, fresh_slave}
use Rattle.check_flight.specs.declared.order.Order.{Order}
use Rattle.check_flight.specs.declared.order.SideOrders.{SideOrders}
use Rattle.check_keys.specs.declared.fault.SystemFault.{SystemFault}
use Rattle.check_keys.specs.declared.fault.SystemFault.TheVariants.{ImageTooLong}
use Rattle.check_description.specs.Description.{Description}
use Rattle.check_description.specs.Port.{Port, may_answer_unknown}
use Rattle.check_description.specs.Ranges.{first_length}
use Rattle.check_description.specs.Slave.{error_slave, kept_at_reset, kept_by, slave_at_reset}
use Rattle.check_description.specs.declared.kind.PortKind.{PortKind}
use Rattle.check_description.specs.declared.kind.PortKind.TheVariants.{Memory, Device}
use Rattle.check_watch.specs.Past.{slave_at}
use Rattle.check_start.specs.Loads.{SystemPlan}
use Rattle.check_start.specs.Slaves.{image_at, order_of, shared_side, slaves_from}
use Rattle.check_start.specs.Start.{IsPlanOf}
use Rattle.check_start.specs.declared.slaves.SlaveSide.{SlaveSide}
use Rattle.check_start.specs.declared.start.Terms.{Terms}
use Rattle.check_coverage.specs.Mirrors.{HasMirrors, MirrorsView, mirrors_in, mirrors_of, no_mirrors}
use Rattle.check_program.specs.Mirrors.{port_mirrors}

-- ---- one port

-- the bytes of an image say nothing of it
any_image : (kind : PortKind) (port : Port) (image : List ℕ)
    → mirrors_of (kept_by kind port []) ≡ mirrors_of (kept_by kind port image)
any_image (Memory kind) port image = refl
any_image Device port image = refl

slave_seen : (corrupt : Bool) (number : ℕ) (port : Port) (image : List ℕ) (order : Order) (slave : PortSlave)
    → slave_at_reset corrupt number port image order ≡ Ok slave → port_mirrors port ≡ mirrors_of slave.kept
slave_seen corrupt number port image order slave is =
    any_image port.kind port image ∙ go (nat_lt (first_length port.ranges) (length image)) is
  where
    fresh : PortSlave
    fresh = fresh_slave (kept_at_reset port image) order (corrupt || may_answer_unknown port)

    same : (one : PortSlave) → ◌≡◌ {A = Result PortSlave SystemFault} (Ok one) (Ok slave) → one ≡ slave
    same one is = cc

    go : (long : Bool) → unless long (ImageTooLong number) fresh ≡ Ok slave
        → mirrors_of (kept_at_reset port image) ≡ mirrors_of slave.kept
    go true is = absurd cc
    go false is = ap (λ (s : PortSlave). mirrors_of s.kept) (same fresh is)

-- ---- all ports, and the error port

step : {A B : Type 0} (r : Result A SystemFault) (f : A → Result B SystemFault) (y : B) → (r >>= f) ≡ Ok y
    → (x : A) × (r ≡ Ok x) × (f x ≡ Ok y)
step (Ok x) f y is = (x, refl, is)
step (Err e) f y is = absurd cc

same_slaves : (one slaves : List PortSlave) → ◌≡◌ {A = Result (List PortSlave) SystemFault} (Ok one) (Ok slaves) → one ≡ slaves
same_slaves one slaves is = cc

module _ (corrupt : Bool) (side : SlaveSide) (orders : SideOrders) (images : List (List ℕ)) (error : PortSlave)
    (nowhere : no_mirrors ≡ mirrors_of error.kept) where
  error_seen : (port : ℕ) → no_mirrors ≡ mirrors_of (slave_at (error ∷ []) port).kept
  error_seen zero = nowhere
  error_seen (suc port) = refl

  one_more : (mirrors : MirrorsView) (slave : PortSlave) (all : List MirrorsView) (slaves : List PortSlave)
      → mirrors ≡ mirrors_of slave.kept
      → ((port : ℕ) → mirrors_in all port ≡ mirrors_of (slave_at slaves port).kept) → (port : ℕ)
      → mirrors_in (mirrors ∷ all) port ≡ mirrors_of (slave_at (slave ∷ slaves) port).kept
  one_more mirrors slave all slaves here rest zero = here
  one_more mirrors slave all slaves here rest (suc port) = rest port

  from_seen : (number : ℕ) (ports : List Port) (slaves : List PortSlave)
      → slaves_from corrupt side orders images number ports ≡ Ok slaves
      → (port : ℕ) → mirrors_in (map port_mirrors ports) port ≡ mirrors_of (slave_at (slaves ++ error ∷ []) port).kept
  from_seen number [] slaves is =
      subst (λ (l : List PortSlave). (port : ℕ) → no_mirrors ≡ mirrors_of (slave_at (l ++ error ∷ []) port).kept)
      (same_slaves [] slaves is) error_seen
  from_seen number (first ∷ ports) slaves is =
      let one = step (slave_at_reset corrupt number first (image_at images number) (order_of side orders first))
      (λ slave. slaves_from corrupt side orders images (number + 1) ports >>= (λ rest. Ok (slave ∷ rest))) slaves is in
      let rest = step (slaves_from corrupt side orders images (number + 1) ports) (λ rest. Ok (one.0 ∷ rest)) slaves one.2 in
      subst (λ (l : List PortSlave). (port : ℕ) → mirrors_in (map port_mirrors (first ∷ ports)) port
      ≡ mirrors_of (slave_at (l ++ error ∷ []) port).kept) (same_slaves (one.0 ∷ rest.0) slaves rest.2)
      (one_more (port_mirrors first) one.0 (map port_mirrors ports) (rest.0 ++ error ∷ [])
      (slave_seen corrupt number first (image_at images number) (order_of side orders first) one.0 one.1)
      (from_seen (number + 1) ports rest.0 rest.1))

pub plan_mirrors : (terms : Terms) (system : Description) (images : List (List ℕ)) (plan : SystemPlan)
    → IsPlanOf terms system images plan → HasMirrors plan.begins (map port_mirrors system.ports)
plan_mirrors terms system images plan is port =
    let side = shared_side terms.links in
    let error = error_slave system.rules.corrupt terms.orders.masters in
    let made = step (slaves_from system.rules.corrupt side terms.orders images 0 system.ports) (λ slaves. Ok (slaves ++ error ∷ [])) plan.begins.resets
    is.resets in
    from_seen system.rules.corrupt side terms.orders images error refl 0 system.ports made.0 made.1 port
    ∙ ap (λ (l : List PortSlave). mirrors_of (slave_at l port).kept) (same_slaves (made.0 ++ error ∷ []) plan.begins.resets made.2)
