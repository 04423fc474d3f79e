-- Ports' links that are judged each by itself, as they are reset one after the other, and what is kept of all links then.
use Rattle.std.proofs.Common.{◌≡◌, ◌∙◌, ◌⊎◌, inl, inr, ⊎_elim, ℕ, zero, suc, ◌+◌, ◌<◌, ◌≤◌, Bool, true, false, List, [], ◌∷◌, length, map, drop, set, get_or, slice_get, if◌then◌else◌, Option, Some, refl, sym, ap, subst, arith, length-set}
use Rattle.std.specs.Prelude.{IsTrue}
use Rattle.std.proofs.lemmas.List.{length-map}
use Rattle.tl_types.proofs.Lists.{slice_get-set_same, slice_get-set_other}
use Rattle.check_beats.specs.declared.bus.Bus.{Bus}
use Rattle.tl_types.specs.Request.{Request}
use Rattle.check_beats.specs.State.{Under, ask_so_far, nothing_under, replying_source}
use Rattle.check_memory.specs.declared.slave.Slave.{Slave}
use Rattle.check_flight.specs.Flight.{Flight, IsEndedAsk}
use Rattle.check_flight.specs.PortSlave.{PortSlave}
use Rattle.check_flight.specs.Side.{bus_at}
use Rattle.check_watch.specs.declared.beat.Link.TheVariants.{Port}
use Rattle.check_watch.specs.Past as group
use Rattle.check_watch.specs.Past.{State, slave_at}
use Rattle.check_watch.specs.Plan.{Layout, Sighting}
use Rattle.check_watch.specs.Reset as group_reset
use Rattle.check_watch.specs.Reset.{AreReset, IsCutAt, IsLeftPort, IsTaken, loaded_at}
use Rattle.check_watch.specs.View as group_view
use Rattle.check_watch.proofs.Resetting.{alike_left_port}
use Rattle.check_sides.specs.Groups.{are_apart, is_alone, port_past, port_plan, shared_past}
use Rattle.check_sides.specs.Plan.{IsPlan, Plan}
use Rattle.check_sides.specs.Reset.{AreResetLinks, IsCutIn, IsReset, IsResetLink, IsResetOf, plan_after_reset}
use Rattle.check_sides.specs.View.{HaveBuses, IsSized, Keeps, KeepsPort, PortView, View, flight_in}
use Rattle.check_sides.proofs.Fresh.{shared_none}
use Rattle.check_sides.proofs.Grouping.{apart_from}
use Rattle.check_sides.proofs.Opening.{some_same}

-- so many links are reset, and the rest are not
pub record FirstReset (links now : List PortView) (loaded left : List (Option Slave)) (count : ℕ) : Type 0 where
  pub counted : length now ≡ length links
  pub buses : (buses : List Bus) → HaveBuses links buses → HaveBuses now buses
  pub done : (port : ℕ) (link later : PortView) → port < count → slice_get links port ≡ Some link
      → slice_get now port ≡ Some later → IsResetOf link port (loaded_at loaded port) later
  pub to_do : (port : ℕ) → count ≤ port → slice_get now port ≡ slice_get links port
  pub to_load : (port : ℕ) → count ≤ port → loaded_at left port ≡ loaded_at loaded port

pub none_reset : (links : List PortView) (loaded : List (Option Slave)) → FirstReset links links loaded loaded 0
none_reset links loaded = record {
  counted = refl;
  buses = λ buses have. have;
  done = λ port link later below. absurd (omega (arith, below));
  to_do = λ port past. refl;
  to_load = λ port past. refl;
}

within : {X : Type 0} (xs : List X) (k : ℕ) (x : X) → slice_get xs k ≡ Some x → k < length xs
within [] k x is = cc
within (y ∷ xs) zero x is = omega arith
within (y ∷ xs) (suc k) x is = let rest = within xs k x is in omega (arith, rest)

-- what stands at a place, from a read of it
pub stands_there : {X : Type 0} (xs : List X) (k : ℕ) (x : X) → k < length xs → x ≡ get_or xs k x → slice_get xs k ≡ Some x
stands_there [] k x inside read = absurd (omega (arith, inside))
stands_there (y ∷ xs) zero x inside read = ap Some (sym read)
stands_there (y ∷ xs) (suc k) x inside read = stands_there xs k x (omega (arith, inside)) read

pub all_reset : (links now : List PortView) (loaded left : List (Option Slave)) (count : ℕ) → length links ≤ count
    → FirstReset links now loaded left count → AreResetLinks links loaded now
all_reset links now loaded left count past is port link later here there =
    let inside = within links port link here in
    is.done port link later (omega (arith, past, inside)) here there

pub one_more_reset : (links now : List PortView) (loaded left left' : List (Option Slave)) (count : ℕ)
    (link later : PortView) → FirstReset links now loaded left count → slice_get now count ≡ Some link
    → later.under.bus ≡ link.under.bus
    → IsResetOf link count (loaded_at left count) later
    → ((other : ℕ) → (other ≡ count → ⊥) → loaded_at left' other ≡ loaded_at left other)
    → FirstReset links (set now count later) loaded left' (count + 1)
one_more_reset links now loaded left left' count link later is here bus reset rest = record {
  counted = length-set now count later ∙ is.counted;
  buses = λ buses have port found at. ⊎_elim
      (λ (same : count ≡ port).
      let own : later ≡ found =
      some_same later found (sym (slice_get-set_same now count later inside) ∙ ap (λ n. slice_get (set now count later) n) same ∙ at) in
      ap (λ (v : PortView). v.under.bus) (sym own) ∙ bus
      ∙ is.buses buses have port link (ap (λ n. slice_get now n) (sym same) ∙ here))
      (λ apart. is.buses buses have port found (sym (slice_get-set_other now count port later apart) ∙ at))
      (same_or_not count port);
  done = λ port first found below old at. ⊎_elim
      (λ (same : count ≡ port).
      let own : later ≡ found =
      some_same later found (sym (slice_get-set_same now count later inside) ∙ ap (λ n. slice_get (set now count later) n) same ∙ at) in
      let was : link ≡ first =
      some_same link first (sym here ∙ ap (λ n. slice_get now n) same ∙ is.to_do port (omega (arith, same)) ∙ old) in
      subst (λ (n : ℕ). IsResetOf first n (loaded_at loaded n) found) same
      (subst (λ (v : PortView). IsResetOf first count (loaded_at loaded count) v) own
      (subst (λ (v : PortView). IsResetOf v count (loaded_at loaded count) later) was
      (subst (λ (l : Option Slave). IsResetOf link count l later) (is.to_load count (omega arith)) reset))))
      (λ apart. is.done port first found (omega (arith, below, apart)) old
      (sym (slice_get-set_other now count port later apart) ∙ at))
      (same_or_not count port);
  to_do = λ port past.
      slice_get-set_other now count port later (λ same. absurd (omega (arith, past, same)))
      ∙ is.to_do port (omega (arith, past));
  to_load = λ port past. rest port (λ same. absurd (omega (arith, past, same))) ∙ is.to_load port (omega (arith, past));
}
  where
    inside : count < length now
    inside = within now count link here

    same_or_not : (a b : ℕ) → (a ≡ b) ⊎ (a ≡ b → ⊥)
    same_or_not zero zero = inl refl
    same_or_not zero (suc b) = inr (λ is. absurd (omega (arith, is)))
    same_or_not (suc a) zero = inr (λ is. absurd (omega (arith, is)))
    same_or_not (suc a) (suc b) =
        ⊎_elim (λ is. inl (ap suc is)) (λ apart. inr (λ is. apart (omega (arith, is)))) (same_or_not a b)

-- ---- one link, by what is kept of it and by what crossed there

module _ (plan : Plan) (port : ℕ) (past : List Sighting) (link : PortView) (known : port < length plan.layout.ports)
    (keeps : KeepsPort (port_plan plan) port past link) where
  -- what was left there
  abbrev pub there : State
  there = group.state (port_plan plan) past

  taken : (ask : Request) → IsTaken (port_plan plan) (Port port) port ask
  taken ask = record { known = known; goes = refl; effect = refl }

  cut_there : (ask : Request) → IsCutIn link port ask → IsCutAt (port_plan plan) there (Port port) port ask
  cut_there ask is = ⊎_elim
      (λ here. inl (taken ask, ap (λ (u : Under). ask_so_far u.asking) keeps.under ∙ here))
      (λ opened. inr (
        opened.0,
        (
          taken ask,
          (
            subst (λ (f : Flight). IsEndedAsk port ask f.turn) (sym (keeps.flights opened.0)) opened.1.0,
            λ answered. opened.1.1 (ap (λ (u : Under). replying_source u.replying) (sym keeps.under) ∙ answered.1
                ∙ ap (λ (n : ℕ). Some n) (sym answered.2)),
          ),
        ),
      )) is

  cut_here : (ask : Request) → IsCutAt (port_plan plan) there (Port port) port ask → IsCutIn link port ask
  cut_here ask is = ⊎_elim
      (λ under. inl (ap (λ (u : Under). ask_so_far u.asking) (sym keeps.under) ∙ under.1))
      (λ opened. inr (
        opened.0,
        (
          subst (λ (f : Flight). IsEndedAsk port ask f.turn) (keeps.flights opened.0) opened.1.1.0,
          λ replying. opened.1.1.1 (opened.0, ap (λ (u : Under). replying_source u.replying) keeps.under ∙ replying, refl),
        ),
      )) is

  pub link_reset : (load : Option Slave) (later : PortView) → IsResetOf link port load later
      → IsResetLink (port_plan plan) port there load later.slave
  link_reset load later is = (
    is.0,
    subst (λ (s : PortSlave). IsLeftPort (IsCutAt (port_plan plan) there (Port port) port) s is.0) (sym keeps.slave)
        (alike_left_port (IsCutIn link port) (IsCutAt (port_plan plan) there (Port port) port) link.slave is.0 cut_there
        cut_here is.1),
    ap (λ (v : PortView). v.slave) is.2,
  )

-- ---- all links

some_there : {X : Type 0} (xs : List X) (k : ℕ) → k < length xs → (x : X) × (slice_get xs k ≡ Some x)
some_there [] k inside = absurd (omega (arith, inside))
some_there (y ∷ xs) zero inside = (y, refl)
some_there (y ∷ xs) (suc k) inside = some_there xs k (omega (arith, inside))

-- the slaves of the links
abbrev pub slaves_of : List PortView → List PortSlave
slaves_of links = map (λ (link : PortView). link.slave) links

slave_of : (links : List PortView) (port : ℕ) (link : PortView) → slice_get links port ≡ Some link
    → slave_at (slaves_of links) port ≡ link.slave
slave_of [] port link is = cc
slave_of (first ∷ links) zero link is = ap (λ (v : PortView). v.slave) (some_same first link is)
slave_of (first ∷ links) (suc port) link is = slave_of links port link is

-- the slave of each port's link by itself: that of the link if this is judged so, else what stood there
abbrev pub own_from : (ℕ → Bool) → List PortSlave → List PortSlave → List PortSlave
own_from alone [] were = []
own_from alone (slave ∷ of_links) were =
    (if alone 0 then slave else slave_at were 0) ∷ own_from (λ port. alone (suc port)) of_links (drop 1 were)

length-own_from : (alone : ℕ → Bool) (of_links were : List PortSlave)
    → length (own_from alone of_links were) ≡ length of_links
length-own_from alone [] were = refl
length-own_from alone (slave ∷ of_links) were = ap suc (length-own_from (λ port. alone (suc port)) of_links (drop 1 were))

rest_at : (were : List PortSlave) (port : ℕ) → slave_at (drop 1 were) port ≡ slave_at were (suc port)
rest_at [] port = refl
rest_at (slave ∷ were) port = refl

own_at : (alone : ℕ → Bool) (of_links were : List PortSlave) (port : ℕ) → port < length of_links
    → slave_at (own_from alone of_links were) port
    ≡ (if alone port then slave_at of_links port else slave_at were port)
own_at alone [] were port inside = absurd (omega (arith, inside))
own_at alone (slave ∷ of_links) were zero inside = refl
own_at alone (slave ∷ of_links) were (suc port) inside =
    own_at (λ port. alone (suc port)) of_links (drop 1 were) port (omega (arith, inside))
    ∙ ap (λ (s : PortSlave). if alone (suc port) then slave_at of_links port else s) (rest_at were port)

-- the slaves of links by themselves: these if some are judged so, else what stood there
abbrev pub own_then : Bool → List PortSlave → List PortSlave → List PortSlave
own_then true of_links were = of_links
own_then false of_links were = were

own_apart : (apart : Bool) (of_links were : List PortSlave) → IsTrue apart → own_then apart of_links were ≡ of_links
own_apart true of_links were is = refl
own_apart false of_links were is = absurd (cc)

own_together : (apart : Bool) (of_links were : List PortSlave) → apart ≡ false → own_then apart of_links were ≡ were
own_together true of_links were never = absurd (cc)
own_together false of_links were never = refl

module _ (plan : Plan) (past : List Sighting) (old new : View) (keeps : Keeps plan past old) (sized : IsSized old)
    (loaded own : List (Option Slave)) (resets : List PortSlave) (layout : new.layout ≡ old.layout)
    (counted : length new.ports ≡ length old.ports) (links : AreResetLinks old.ports own new.ports) where
  abbrev stands_alone : ℕ → Bool
  stands_alone port = is_alone plan.layout (Port port)

  abbrev own_now : List PortSlave
  own_now = own_from stands_alone (slaves_of new.ports) plan.own

  abbrev pub own_after : List PortSlave
  own_after = own_then (are_apart plan.layout) own_now plan.own

  are_own : IsTrue (are_apart plan.layout) → own_after ≡ own_now
  are_own apart = own_apart (are_apart plan.layout) own_now plan.own apart

  -- how many there are
  own_counted : length own_now ≡ length new.ports
  own_counted = length-own_from stands_alone (slaves_of new.ports) plan.own ∙ length-map new.ports (λ (link : PortView). link.slave)

  -- and the slave of a port
  after_at : IsTrue (are_apart plan.layout) → (port : ℕ) → port < length new.ports → (alone : Bool)
      → is_alone plan.layout (Port port) ≡ alone
      → slave_at own_after port ≡ (if alone then slave_at (slaves_of new.ports) port else slave_at plan.own port)
  after_at apart port inside alone is =
      ap (λ (s : List PortSlave). slave_at s port) (are_own apart)
      ∙ own_at stands_alone (slaves_of new.ports) plan.own port
      (subst (λ (n : ℕ). port < n) (sym (length-map new.ports (λ (link : PortView). link.slave))) inside)
      ∙ ap (λ (b : Bool). if b then slave_at (slaves_of new.ports) port else slave_at plan.own port) is

  all_there : IsTrue (are_apart plan.layout) → length old.ports ≡ length plan.layout.ports
  all_there apart =
      sized.ports (subst (λ (l : Layout). IsTrue (are_apart l)) (sym keeps.suits.layout) apart)
      ∙ ap (λ (l : Layout). length l.ports) keeps.suits.layout

  own_reset : IsTrue (are_apart plan.layout) → (port : ℕ) → port < length plan.layout.ports
      → IsTrue (is_alone plan.layout (Port port))
      → IsResetLink (port_plan plan) port (group.state (port_plan plan) (port_past port past)) (loaded_at own port)
      (slave_at own_after port)
  own_reset apart port known alone =
      let all = all_there apart in
      let link = some_there old.ports port (omega (arith, known, all)) in
      let later = some_there new.ports port (omega (arith, known, all, counted)) in
      subst (λ (s : PortSlave). IsResetLink (port_plan plan) port
      (group.state (port_plan plan) (port_past port past)) (loaded_at own port) s)
      (sym (after_at apart port (omega (arith, known, all, counted)) true alone ∙ slave_of new.ports port later.0 later.1))
      (link_reset plan port (port_past port past) link.0 known (keeps.ports port alone link.0 link.1)
      (loaded_at own port) later.0 (links port link.0 later.0 link.1 later.1))

  pub is_reset : AreReset plan (group.state plan (shared_past plan.layout past)) loaded resets
      → IsReset plan past loaded own resets own_after
  is_reset shared = record {
    shared = shared;
    apart = λ apart. record {
      counted = ap (λ (s : List PortSlave). length s) (are_own apart) ∙ own_counted ∙ counted ∙ all_there apart;
      each = own_reset apart;
      rest = λ port known shared.
          let all = all_there apart in after_at apart port (omega (arith, known, all, counted)) false shared;
    };
    together = own_together (are_apart plan.layout) own_now plan.own;
  }

  pub keeps_on : group_view.KeepsGroup (group_reset.reset_plan plan resets) [] new.shared
      → Keeps (plan_after_reset plan resets own_after) [] new
  keeps_on shared = record {
    suits = record { lawful = lawful; layout = layout ∙ keeps.suits.layout };
    lawful = tt;
    shared = subst (λ p. group_view.KeepsGroup (plan_after_reset plan resets own_after) p new.shared)
        (sym (shared_none plan.layout)) (record {
          suits = record { lawful = lawful; layout = shared.suits.layout };
          lawful = tt;
          state = shared.state;
        });
    ports = λ port alone later found. fresh_port port alone later found;
  }
    where
      lawful : IsPlan (plan_after_reset plan resets own_after)
      lawful = record {
        owners = keeps.suits.lawful.owners;
        wide = keeps.suits.lawful.wide;
        decode = keeps.suits.lawful.decode;
      }

      fresh_port : (port : ℕ) → IsTrue (is_alone plan.layout (Port port)) → (later : PortView)
          → slice_get new.ports port ≡ Some later → KeepsPort (port_plan (plan_after_reset plan resets own_after)) port [] later
      fresh_port port alone later found =
          let inside = within new.ports port later found in
          let link = some_there old.ports port (omega (arith, counted, within new.ports port later found)) in
          let is = links port link.0 later link.1 found in
          let bus : bus_at plan.layout.port_buses port ≡ link.0.under.bus =
          ap (λ (l : Layout). bus_at l.port_buses port) (sym keeps.suits.layout) ∙ sym (sized.buses port link.0 link.1) in
          record {
            lawful = tt;
            under = ap nothing_under bus ∙ sym (ap (λ (v : PortView). v.under) is.2);
            flights = λ source. sym (ap (λ (v : PortView). flight_in v source) is.2);
            slave = after_at (apart_from plan.layout (Port port) alone) port inside true alone
                ∙ slave_of new.ports port later found;
            unkept = λ source none. tt;
          }
