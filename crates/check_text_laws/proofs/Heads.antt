-- A request that is open at a port is in flight as it is counted, whole, and of that port.
use Rattle.std.proofs.Common.{◌≡◌, ◌≢◌, ◌∙◌, ◌⊎◌, inl, inr, ⊎_elim, ℕ, Bool, true, false, List, [], ◌∷◌, ◌++◌, length, Option, Some, refl, ap, sym, subst}
use Rattle.std.specs.List.{AllByRecursion}
use Rattle.tl_types.specs.Request.{Request}
use Rattle.tl_map.specs.Map.{IsLawfulAddressMap}
use Rattle.check_cells.specs.Sent.{Sent}
use Rattle.check_beats.specs.Message.{op_of}
use Rattle.check_flight.specs.Crossing.{Crossing}
use Rattle.check_flight.specs.Crossing.Crossing.{Waiting, Crossed, Given}
use Rattle.check_flight.specs.Flight.{Turn}
use Rattle.check_flight.specs.Flight.Turn.{Idle, Asking, Asked}
use Rattle.check_watch.specs.Lawful.{IsLawfulGroup as IsGroupLawful}
use Rattle.check_watch.specs.Past.{State, state}
use Rattle.check_watch.specs.Plan.{IsPlan, Plan, LinkSide, Sighting, RoutesWide, link_number, may_cross, route_of}
use Rattle.check_watch.specs.Plan.LinkSide.{AtMasters, AtPorts}
use Rattle.check_watch.specs.declared.beat.Link.TheVariants.{Master, Port}
use Rattle.check_watch.proofs.Judging.{route_is as route_by_plan}
use Rattle.check_watch_laws.specs.Crossed.{AreWatched as AreGroupWatched}
use Rattle.check_watch_laws.specs.Crossings.{IsOfMaster}
use Rattle.check_watch_laws.specs.Memories.{port_for, side_by, side_for}
use Rattle.check_watch_laws.specs.Messages.{IsInPlace}
use Rattle.check_watch_laws.specs.Moments.{RequestMoment, moments}
use Rattle.check_watch_laws.specs.Moments.Act.{Accepts}
use Rattle.check_watch_laws.proofs.Crossing.{all_stand, asks_owned, last_of_all, story_at}
use Rattle.check_watch_laws.proofs.Flights.{in_step, pending}
use Rattle.check_watch_laws.proofs.Placing.{asks_placed}
use Rattle.check_watch_laws.proofs.Standing.{IsOut, Stands, Story, goes_to, is_out}
use Rattle.check_watch_laws.proofs.Turns.{link_on}
use Rattle.check_order_laws.specs.Open.{IsOpen}
use Rattle.check_order_laws.proofs.Asked.{IsAskedAt, asked_if_open}
use Rattle.check_order_laws.proofs.InTurn.{none_open, open_after, open_here, open_more, open_then, open_there}
use Rattle.check_order_laws.proofs.Turning.{are_open}
use Rattle.check_watch.specs.declared.links.Links.{Links}
use Rattle.check_watch.specs.declared.links.Links.TheVariants.{Both, Masters, Ports, Each}
use Rattle.check_coverage.specs.Flights.{InFlight, master_of}
use Rattle.check_coverage.proofs.Owners.{master_is}
use Rattle.check_text_laws.proofs.Finding.{found}
use Rattle.check_text_laws.proofs.Kept.{AreKept, IsKeptAs, IsWholeAs}
use Rattle.check_text_laws.proofs.Rows.{counted_side}

-- ---- what is open

-- no later moment is of this source
stays_open : (held : ℕ → Option Sent) (later : List RequestMoment) (wide : ℕ)
    → AllByRecursion (λ (moment : RequestMoment). moment.wide ≢ wide) later → open_after held later wide ≡ held wide
stays_open held [] wide none = refl
stays_open held (moment ∷ later) wide none =
    stays_open (open_then held moment) later wide none.1
    ∙ open_there held moment wide (λ is. none.0 (sym is))

pub open_of : (all : List RequestMoment) (wide : ℕ) (ask : Sent) → IsOpen all wide ask
    → open_after none_open all wide ≡ Some ask
open_of all wide ask is =
    let accepted : RequestMoment = record { act = Accepts; wide = wide; sent = ask } in
    ap (λ l. open_after none_open l wide) is.accepted
    ∙ ap (λ (f : ℕ → Option Sent). f wide) (open_more none_open is.before (accepted ∷ is.later))
    ∙ stays_open (open_then (open_after none_open is.before) accepted) is.later wide is.unanswered
    ∙ open_here (open_after none_open is.before) accepted wide refl

-- ---- at which side

-- a port's slave is seen at the side that is counted; or both sides are watched, and it is seen at the port's link
sides : (links : Links) (crosses : Bool) → (side_by links crosses ≡ counted_side links)
    ⊎ ((links ≡ Both) × (side_by links crosses ≡ AtPorts)
    × (counted_side links ≡ AtMasters))
sides Both true = inr (refl, refl, refl)
sides Both false = inl refl
sides Masters crosses = inl refl
sides Ports crosses = inl refl
sides Each crosses = inl refl

-- ---- what a port has taken is what a master sent

record IsSentAs (turn : Turn) (ask : Request) : Type 0 where
  number : ℕ
  sent : Sent
  turn_is : turn ≡ Asked number sent
  op : ask.op ≡ sent.ask.op
  address : ask.address ≡ sent.ask.address
  size : ask.size ≡ sent.ask.size

abbrev sent_in : Sent → Turn → Sent
sent_in other Idle = other
sent_in other (Asking n) = other
sent_in other (Asked n sent) = sent

asked_same : (m n : ℕ) (one other : Sent) → Asked m one ≡ Asked n other → one ≡ other
asked_same m n one other is = ap (sent_in one) is

some_pending : (there : Turn) (number : ℕ) (ask : Sent) → there ≡ Asked number ask → pending AtPorts there ≡ [] → ⊥
some_pending there number ask is none =
    let no : pending AtPorts (Asked number ask) ≡ [] = sym (ap (λ t. pending AtPorts t) is) ∙ none in absurd (cc)

module _ (plan : Plan) (wide : ℕ) (story : Story) (there : Turn) (number : ℕ) (ask : Sent)
    (is : there ≡ Asked number ask) where
  sent_out : (n : ℕ) (sent : Sent) (out : Bool) (port : ℕ) (crossing : Crossing)
      → IsOut plan wide story out n port sent crossing there → IsSentAs (Asked n sent) ask.ask
  sent_out n sent false port crossing stands = absurd (some_pending there number ask is stands.free)
  sent_out n sent true port Waiting stands = absurd (some_pending there number ask is stands.free)
  sent_out n sent true port Crossed stands =
      let same : ask ≡ stands.seen = asked_same number port ask stands.seen (sym is ∙ stands.is) in
      record {
        number = n;
        sent = sent;
        turn_is = refl;
        op = ap (λ (r : Sent). r.ask.op) same ∙ stands.across.same.op;
        address = ap (λ (r : Sent). r.ask.address) same ∙ stands.across.same.address;
        size = ap (λ (r : Sent). r.ask.size) same ∙ stands.across.same.size;
      }
  sent_out n sent true port (Given answer) stands = absurd (some_pending there number ask is stands.free)

  was_sent : (turn : Turn) (crossing : Crossing) → Stands plan wide story turn crossing there → IsSentAs turn ask.ask
  was_sent Idle crossing stands = absurd (some_pending there number ask is stands.free)
  was_sent (Asking n) crossing stands = absurd (some_pending there number ask is stands.free)
  was_sent (Asked n sent) crossing stands = sent_out n sent (is_out plan wide n sent) (goes_to plan wide n sent) crossing stands

-- ---- what is open is counted

-- a request is in flight as it is counted, whole, and of the port
pub record IsHead (port : ℕ) (kept : Option InFlight) (ask : Request) : Type 0 where
  pub flight : InFlight
  pub is : kept ≡ Some flight
  pub whole : flight.is_whole ≡ true
  pub port_is : flight.port ≡ port
  pub op : ask.op ≡ op_of flight.first.opcode flight.first.param
  pub address : ask.address ≡ flight.first.address
  pub size : ask.size ≡ flight.first.size

module _ (plan : Plan) (is_plan : IsPlan plan) (map : IsLawfulAddressMap plan.layout.ports)
    (past : List Sighting) (watched : AreGroupWatched plan.layout past)
    (lawful : IsGroupLawful plan past) (flights : List InFlight)
    (kept : AreKept plan (state plan past) (counted_side plan.layout.links) flights) (port wide : ℕ)
    (ask : Sent) (is_open : IsOpen (moments plan port past) wide ask) where
  abbrev p : Plan
  p = plan

  abbrev s : State
  s = state p past

  abbrev side : LinkSide
  side = side_for p.layout port

  at : IsAskedAt p s port wide side (s.flights side wide).turn ask
  at = asked_if_open p s port wide side (s.flights side wide).turn ask
      (sym (are_open p past watched lawful port wide) ∙ open_of (moments p port past) wide ask is_open)

  -- a port's link has requests of the port alone
  routed : (number : ℕ) → (s.flights AtPorts wide).turn ≡ Asked number ask
      → RoutesWide plan.layout wide ask.ask.address ask.ask.size number
  routed number is =
      let step = in_step p past lawful AtPorts wide in
      last_of_all (IsInPlace p.layout wide) step.done (record { link = Port number; sent = ask })
      (subst (λ l. AllByRecursion (IsInPlace p.layout wide) l)
      (step.asks_are ∙ ap (λ t. step.done ++ pending AtPorts t) is) (asks_placed p past lawful AtPorts wide))
      number refl

  -- the master that has the source
  abbrev owner : ℕ
  owner = master_of plan.layout.owners wide

  -- a master's link has requests of its own sources alone
  owned : (number : ℕ) → (s.flights AtMasters wide).turn ≡ Asked number ask → number ≡ owner
  owned number is =
      let step = in_step p past lawful AtMasters wide in
      let own = last_of_all (IsOfMaster p.layout wide) step.done (record { link = Master number; sent = ask })
      (subst (λ l. AllByRecursion (IsOfMaster p.layout wide) l)
      (step.asks_are ∙ ap (λ t. step.done ++ pending AtMasters t) is) (asks_owned p is_plan past lawful wide)) in
      ap link_number own.1 ∙ master_is p.layout.owners own.0 ask.ask.source wide is_plan.owners own.2

  route_is : route_of plan owner ask.ask.address ask.ask.size ≡ port
  route_is = go side at.number at.turn_is at.goes
    where
      by_owner : (master : ℕ) → master ≡ owner
          → route_of plan owner ask.ask.address ask.ask.size ≡ route_of plan master ask.ask.address ask.ask.size
      by_owner master is = ap (λ m. route_of plan m ask.ask.address ask.ask.size) (sym is)

      go : (sd : LinkSide) (number : ℕ) → (s.flights sd wide).turn ≡ Asked number ask
          → port_for p (link_on sd number) ask.ask ≡ port → route_of plan owner ask.ask.address ask.ask.size ≡ port
      go AtMasters number is goes = by_owner number (owned number is) ∙ goes
      go AtPorts number is goes =
          let there = routed number is in
          by_owner there.master (master_is p.layout.owners there.master there.owns.0 wide is_plan.owners there.owns.1)
          ∙ route_by_plan plan is_plan there.master ask.ask.address ask.ask.size number there.routes ∙ goes

  pub head : IsHead port (found wide flights) ask.ask
  head = ⊎_elim
      (λ (same : side ≡ counted_side plan.layout.links).
      let whole : IsWholeAs plan wide ask.ask (found wide flights) =
      subst (λ t. IsKeptAs plan wide t (found wide flights)) at.turn_is
      (subst (λ sd. IsKeptAs plan wide (s.flights sd wide).turn (found wide flights)) (sym same) (kept.turns wide)) in
      record {
        flight = whole.flight;
        is = whole.is;
        whole = whole.whole;
        port_is = whole.port ∙ route_is;
        op = whole.op;
        address = whole.address;
        size = whole.size;
      })
      (λ (both : (plan.layout.links ≡ Both) × (side ≡ AtPorts)
      × (counted_side plan.layout.links ≡ AtMasters)).
      let there : (s.flights AtPorts wide).turn ≡ Asked at.number ask =
      subst (λ sd. (s.flights sd wide).turn ≡ Asked at.number ask) both.1 at.turn_is in
      let sent = was_sent p wide (story_at p wide past) (s.flights AtPorts wide).turn at.number ask there
      (s.flights AtMasters wide).turn (s.crossings wide) (all_stand p is_plan both.0 past watched lawful wide) in
      let whole : IsWholeAs plan wide sent.sent.ask (found wide flights) =
      subst (λ t. IsKeptAs plan wide t (found wide flights)) sent.turn_is
      (subst (λ sd. IsKeptAs plan wide (s.flights sd wide).turn (found wide flights)) both.2 (kept.turns wide)) in
      record {
        flight = whole.flight;
        is = whole.is;
        whole = whole.whole;
        port_is = whole.port ∙ (λ i. route_of plan owner (sym sent.address i) (sym sent.size i)) ∙ route_is;
        op = sent.op ∙ whole.op;
        address = sent.address ∙ whole.address;
        size = sent.size ∙ whole.size;
      })
      (sides plan.layout.links (may_cross plan.layout port))
