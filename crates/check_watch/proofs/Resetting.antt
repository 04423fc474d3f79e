-- What a reset leaves: of one request that is cut short after another, and of the whole system.
use Rattle.std.proofs.Common.{◌≡◌, ◌∙◌, ◌⊎◌, inl, inr, ⊎_elim, ℕ, zero, suc, ◌+◌, ◌<◌, ◌≤◌, ◌↔◌, Bool, true, false, List, [], ◌∷◌, ◌++◌, length, map, take, set, get_or, Option, Some, None, refl, sym, ap, subst, arith, length-set}
use Rattle.std.specs.Prelude.{option_map, unwrap_or, Result, Ok, Err, OnOk}
use Rattle.std.proofs.lemmas.Bool.{cases_lt, true≢false}
use Rattle.std.proofs.lemmas.List.{length-map}
use Rattle.tl_types.specs.Request.{Request}
use Rattle.check_cells.specs.Sent.{Sent}
use Rattle.check_memory.specs.declared.slave.Slave.{Slave}
use Rattle.check_contests.proofs.Leaving.{none_left_slave, cut_left_slave, both_left_slave, alike_left_slave}
use Rattle.tl_map.specs.Owner.{IsOwned}
use Rattle.check_beats.specs.declared.bus.Bus.{Bus}
use Rattle.check_beats.specs.State.{Under, ask_so_far, nothing_under, replying_source}
use Rattle.check_flight.specs.Crossing.{Crossing}
use Rattle.check_flight.specs.Crossing.Crossing.{Waiting}
use Rattle.check_flight.specs.Flight.{Flight, Turn, IsAskedAt, IsEndedAsk, asked, idle}
use Rattle.check_flight.specs.Flight.Turn.{Idle, Asking, Asked}
use Rattle.check_flight.specs.PortSlave.{PortSlave, once_cut, once_reset}
use Rattle.check_flight.specs.Side.{SideView, bus_at, flight_at, side_reset, under_at}
use Rattle.check_watch.specs.declared.beat.Link.{Link}
use Rattle.check_watch.specs.declared.beat.Link.TheVariants.{Master, Port}
use Rattle.check_watch.specs.Past.{State, no_slave, slave_at}
use Rattle.check_watch.specs.Plan.{HasLink, IsPlan, Layout, Plan, RoutesAt, link_number, side_of}
use Rattle.check_watch.specs.Reset.{AreLeft, AreReset, IsBeingAnswered, IsCut, IsCutOpen, IsCutUnderWay, IsLeftPort, IsTaken, IsUnderWay, loaded_at, port_asked, reset_plan}
use Rattle.check_watch.specs.Scene.{takes_effect}
use Rattle.check_watch.specs.View.{AreSame, GroupView, HaveBuses, IsSized, KeepsGroup, SuitsGroup, crossing_at, flight_in, state_in, wides_in}
use Rattle.check_watch.proofs.Beginning.{fresh_keeps}
use Rattle.check_watch.proofs.Judging.{port_is}

-- ---- one slave

pub none_left_port : (C : Request → Type 0) (slave : PortSlave) → ((ask : Request) → C ask → ⊥) → IsLeftPort C slave slave
none_left_port C slave none = record { same = refl; kept = none_left_slave C slave.kept none }

pub cut_left_port : (slave : PortSlave) (ask : Request) → IsLeftPort (λ other. other ≡ ask) slave (once_cut slave ask)
cut_left_port slave ask = record { same = refl; kept = cut_left_slave slave.kept ask }

pub both_left_port : (C D : Request → Type 0) (slave mid left : PortSlave) → IsLeftPort C slave mid → IsLeftPort D mid left
    → IsLeftPort (λ ask. C ask ⊎ D ask) slave left
both_left_port C D slave mid left first second = record {
  same = second.same ∙ ap (λ (s : PortSlave). record s { kept = left.kept }) first.same;
  kept = both_left_slave C D slave.kept mid.kept left.kept first.kept second.kept;
}

pub alike_left_port : (C D : Request → Type 0) (slave left : PortSlave) → ((ask : Request) → C ask → D ask)
    → ((ask : Request) → D ask → C ask) → IsLeftPort C slave left → IsLeftPort D slave left
alike_left_port C D slave left to from is = record {
  same = is.same;
  kept = alike_left_slave C D slave.kept left.kept to from is.kept;
}

-- ---- all slaves

pub none_left : (C : ℕ → Request → Type 0) (slaves : List PortSlave) → ((port : ℕ) (ask : Request) → C port ask → ⊥)
    → AreLeft C slaves slaves
none_left C slaves none = record {
  counted = refl;
  each = λ port. none_left_port (C port) (slave_at slaves port) (none port);
}

pub both_left : (C D : ℕ → Request → Type 0) (slaves mid left : List PortSlave) → AreLeft C slaves mid
    → AreLeft D mid left → AreLeft (λ port ask. C port ask ⊎ D port ask) slaves left
both_left C D slaves mid left first second = record {
  counted = second.counted ∙ first.counted;
  each = λ port. both_left_port (C port) (D port) (slave_at slaves port) (slave_at mid port) (slave_at left port)
      (first.each port) (second.each port);
}

pub alike_left : (C D : ℕ → Request → Type 0) (slaves left : List PortSlave)
    → ((port : ℕ) (ask : Request) → C port ask → D port ask) → ((port : ℕ) (ask : Request) → D port ask → C port ask)
    → AreLeft C slaves left → AreLeft D slaves left
alike_left C D slaves left to from is = record {
  counted = is.counted;
  each = λ port. alike_left_port (C port) (D port) (slave_at slaves port) (slave_at left port) (to port) (from port)
      (is.each port);
}

slave_at-set_same : (slaves : List PortSlave) (port : ℕ) (slave : PortSlave) → port < length slaves
    → slave_at (set slaves port slave) port ≡ slave
slave_at-set_same [] port slave below = absurd (omega (arith, below))
slave_at-set_same (first ∷ slaves) zero slave below = refl
slave_at-set_same (first ∷ slaves) (suc port) slave below = slave_at-set_same slaves port slave (omega (arith, below))

slave_at-set_other : (slaves : List PortSlave) (port other : ℕ) (slave : PortSlave) → (port ≡ other → ⊥)
    → slave_at (set slaves port slave) other ≡ slave_at slaves other
slave_at-set_other [] port other slave apart = refl
slave_at-set_other (first ∷ slaves) zero zero slave apart = absurd (apart refl)
slave_at-set_other (first ∷ slaves) zero (suc other) slave apart = refl
slave_at-set_other (first ∷ slaves) (suc port) zero slave apart = refl
slave_at-set_other (first ∷ slaves) (suc port) (suc other) slave apart =
    slave_at-set_other slaves port other slave (λ is. apart (ap suc is))

same_or_not : (a b : ℕ) → (a ≡ b) ⊎ (a ≡ b → ⊥)
same_or_not zero zero = inl refl
same_or_not zero (suc b) = inr (λ is. absurd (omega (arith, is)))
same_or_not (suc a) zero = inr (λ is. absurd (omega (arith, is)))
same_or_not (suc a) (suc b) =
    ⊎_elim (λ is. inl (ap suc is)) (λ apart. inr (λ is. apart (omega (arith, is)))) (same_or_not a b)

-- one request is cut short at the slave of a port, and it is the only one
pub cut_left : (C : ℕ → Request → Type 0) (slaves left : List PortSlave) (port : ℕ) (ask : Request) → port < length slaves
    → C port ask → ((other : ℕ) (a : Request) → C other a → (other ≡ port) × (a ≡ ask))
    → left ≡ set slaves port (once_cut (slave_at slaves port) ask) → AreLeft C slaves left
cut_left C slaves left port ask below holds only is = record {
  counted = ap (λ (s : List PortSlave). length s) is ∙ length-set slaves port (once_cut (slave_at slaves port) ask);
  each = each;
}
  where
    here : IsLeftPort (C port) (slave_at slaves port) (slave_at left port)
    here =
        subst (λ (s : PortSlave). IsLeftPort (C port) (slave_at slaves port) s)
        (sym (ap (λ (s : List PortSlave). slave_at s port) is
        ∙ slave_at-set_same slaves port (once_cut (slave_at slaves port) ask) below))
        (alike_left_port (λ other. other ≡ ask) (C port) (slave_at slaves port) (once_cut (slave_at slaves port) ask)
        (λ a same. subst (λ (r : Request). C port r) (sym same) holds)
        (λ a is'. (only port a is').1)
        (cut_left_port (slave_at slaves port) ask))

    there : (other : ℕ) → (port ≡ other → ⊥) → IsLeftPort (C other) (slave_at slaves other) (slave_at left other)
    there other apart =
        subst (λ (s : PortSlave). IsLeftPort (C other) (slave_at slaves other) s)
        (sym (ap (λ (s : List PortSlave). slave_at s other) is
        ∙ slave_at-set_other slaves port other (once_cut (slave_at slaves port) ask) apart))
        (none_left_port (C other) (slave_at slaves other) (λ a holds'. apart (sym (only other a holds').0)))

    each : (other : ℕ) → IsLeftPort (C other) (slave_at slaves other) (slave_at left other)
    each other =
        ⊎_elim
        (λ same. subst (λ (n : ℕ). IsLeftPort (C n) (slave_at slaves n) (slave_at left n)) same here)
        (λ apart. there other apart)
        (same_or_not port other)

-- ---- requests of numbers, one after the other

-- those of the numbers below one
abbrev pub UpTo : (ℕ → ℕ → Request → Type 0) → ℕ → ℕ → Request → Type 0
UpTo C count port ask = (number : ℕ) × (number < count) × C number port ask

pub none_up_to : (C : ℕ → ℕ → Request → Type 0) (slaves : List PortSlave) → AreLeft (UpTo C 0) slaves slaves
none_up_to C slaves = none_left (UpTo C 0) slaves (λ port ask is. absurd (omega (arith, is.1)))

pub one_more : (C : ℕ → ℕ → Request → Type 0) (slaves mid left : List PortSlave) (count : ℕ)
    → AreLeft (UpTo C count) slaves mid → AreLeft (C count) mid left → AreLeft (UpTo C (count + 1)) slaves left
one_more C slaves mid left count first second =
    alike_left (λ port ask. UpTo C count port ask ⊎ C count port ask) (UpTo C (count + 1)) slaves left to from
    (both_left (UpTo C count) (C count) slaves mid left first second)
  where
    to : (port : ℕ) (ask : Request) → UpTo C count port ask ⊎ C count port ask → UpTo C (count + 1) port ask
    to port ask is =
        ⊎_elim (λ before. (before.0, omega (arith, before.1), before.2)) (λ here. (count, omega arith, here)) is

    from : (port : ℕ) (ask : Request) → UpTo C (count + 1) port ask → UpTo C count port ask ⊎ C count port ask
    from port ask is =
        ⊎_elim
        (λ (same : is.0 ≡ count). inr (subst (λ (n : ℕ). C n port ask) same is.2))
        (λ apart. let below : is.0 < count = omega (arith, is.1, apart) in inl (is.0, below, is.2))
        (same_or_not is.0 count)

-- ---- one request at a link

pub goes_is : (plan : Plan) (view : GroupView) (link : Link) (ask : Request) (port : ℕ) → SuitsGroup plan view
    → ((number other : ℕ) → link ≡ Master number → (port ≡ other) ↔ RoutesAt view.layout number ask.address ask.size other)
    → ((number : ℕ) → link ≡ Port number → port ≡ number) → port_asked plan link ask ≡ port
goes_is plan view (Port p) ask port suits at_master at_port = sym (at_port p refl)
goes_is plan view (Master m) ask port suits at_master at_port =
    sym (port_is plan view m ask.address ask.size port suits (λ other. at_master m other refl))

-- the request that a beat ends or not, alone at its link
abbrev pub Alone : Plan → Link → Request → ℕ → Request → Type 0
Alone plan link ask port other = IsTaken plan link port other × (other ≡ ask)

module _ (plan : Plan) (view : GroupView) (link : Link) (ask : Request) (port : ℕ) (suits : SuitsGroup plan view)
    (goes : port_asked plan link ask ≡ port) where
  by_plan : (known : HasLink view.layout link) → HasLink plan.layout link
  by_plan known = subst (λ (l : Layout). HasLink l link) suits.layout known

  effect_by_plan : (b : Bool) → b ≡ takes_effect view.layout link port → takes_effect plan.layout link port ≡ b
  effect_by_plan b is = ap (λ (l : Layout). takes_effect l link port) (sym suits.layout) ∙ sym is

  pub alone_cut : (left : List PortSlave) → HasLink view.layout link → port < length view.slaves
      → true ≡ takes_effect view.layout link port → left ≡ set view.slaves port (once_cut (slave_at view.slaves port) ask)
      → AreLeft (Alone plan link ask) view.slaves left
  alone_cut left known below effect is =
      cut_left (Alone plan link ask) view.slaves left port ask below
      (record { known = by_plan known; goes = goes; effect = effect_by_plan true effect }, refl)
      (λ other a held. (sym held.0.goes ∙ ap (λ (r : Request). port_asked plan link r) held.1 ∙ goes, held.1))
      is

  pub alone_none : false ≡ takes_effect view.layout link port → AreLeft (Alone plan link ask) view.slaves view.slaves
  alone_none effect =
      none_left (Alone plan link ask) view.slaves
      (λ other a held.
      let same : other ≡ port = sym held.0.goes ∙ ap (λ (r : Request). port_asked plan link r) held.1 ∙ goes in
      let none : takes_effect plan.layout link port ≡ false = effect_by_plan false effect in
      let some : takes_effect plan.layout link port ≡ true =
      ap (λ (n : ℕ). takes_effect plan.layout link n) (sym same) ∙ held.0.effect in
      true≢false (sym some ∙ none))

-- the slave at a place
pub slave_there : (slaves : List PortSlave) (port : ℕ) (slave : PortSlave) → port < length slaves
    → slave ≡ get_or slaves port slave → slave_at slaves port ≡ slave
slave_there [] port slave below is = absurd (omega (arith, below))
slave_there (first ∷ slaves) zero slave below is = sym is
slave_there (first ∷ slaves) (suc port) slave below is = slave_there slaves port slave (omega (arith, below)) is

pub on_ok : {T E P Q : Type 0} (r : Result T E) → (P → Q) → OnOk r P → OnOk r Q
on_ok (Ok x) f is = f is
on_ok (Err e) f is = is

-- ---- what is under way at a link, and what has ended there

some_same : {A : Type 0} (a b : A) → Some a ≡ Some b → a ≡ b
some_same a b is = ap (λ o. unwrap_or o a) is

-- a request that has ended at a link is the one that is told, and is told
pub ask_here : (number : ℕ) (ask : Request) (turn : Turn) → IsAskedAt number turn
    → option_map (λ (sent : Sent). sent.ask) (asked turn) ≡ Some ask → IsEndedAsk number ask turn
ask_here number ask Idle at is = absurd at
ask_here number ask (Asking link) at is = absurd at
ask_here number ask (Asked link sent) at is = (at, some_same sent.ask ask is)

pub ask_told : (number : ℕ) (ask : Request) (turn : Turn) → IsEndedAsk number ask turn
    → option_map (λ (sent : Sent). sent.ask) (asked turn) ≡ Some ask
ask_told number ask Idle of = absurd of
ask_told number ask (Asking link) of = absurd of
ask_told number ask (Asked link sent) of = ap (λ r. Some r) of.1

-- it has ended there, and at one link alone
pub ask_at : (number : ℕ) (ask : Request) (turn : Turn) → IsEndedAsk number ask turn → IsAskedAt number turn
ask_at number ask Idle of = of
ask_at number ask (Asking link) of = of
ask_at number ask (Asked link sent) of = of.0

pub one_number : (one other : ℕ) (turn : Turn) → IsAskedAt one turn → IsAskedAt other turn → one ≡ other
one_number one other Idle at also = absurd at
one_number one other (Asking link) at also = absurd at
one_number one other (Asked link sent) at also = sym at ∙ also

module _ (plan : Plan) (state : State) (link : Link) (slaves left : List PortSlave) where
  pub under_way : (ask : Request) → ask_so_far (state.links (side_of link) (link_number link)).asking ≡ Some ask
      → AreLeft (Alone plan link ask) slaves left → AreLeft (IsCutUnderWay plan state link) slaves left
  under_way ask here =
      alike_left (Alone plan link ask) (IsCutUnderWay plan state link) slaves left
      (λ port other is. (is.0, here ∙ ap (λ r. Some r) (sym is.1)))
      (λ port other is. (is.0, some_same other ask (sym is.1 ∙ here)))

  pub none_under_way : ask_so_far (state.links (side_of link) (link_number link)).asking ≡ None
      → AreLeft (IsCutUnderWay plan state link) slaves slaves
  none_under_way here =
      none_left (IsCutUnderWay plan state link) slaves (λ port ask is. some_none ask (sym is.1 ∙ here))
    where
      some_none : (ask : Request) → Some ask ≡ None → ⊥
      some_none ask is = cc

  pub open_cut : (wide : ℕ) (ask : Request)
      → option_map (λ (sent : Sent). sent.ask) (asked (state.flights (side_of link) wide).turn) ≡ Some ask
      → IsAskedAt (link_number link) (state.flights (side_of link) wide).turn
      → (IsBeingAnswered plan.layout state link wide → ⊥)
      → AreLeft (Alone plan link ask) slaves left → AreLeft (IsCutOpen plan state link wide) slaves left
  open_cut wide ask here at unanswered =
      alike_left (Alone plan link ask) (IsCutOpen plan state link wide) slaves left
      (λ port other is. (
        is.0,
        (
          ask_here (link_number link) other (state.flights (side_of link) wide).turn at
              (here ∙ ap (λ r. Some r) (sym is.1)),
          unanswered,
        ),
      ))
      (λ port other is. (
        is.0,
        some_same other ask
            (sym (ask_told (link_number link) other (state.flights (side_of link) wide).turn is.1.0) ∙ here),
      ))

  pub none_open : (wide : ℕ) → (HasLink plan.layout link → ⊥) ⊎ IsBeingAnswered plan.layout state link wide
      → AreLeft (IsCutOpen plan state link wide) slaves slaves
  none_open wide why =
      none_left (IsCutOpen plan state link wide) slaves
      (λ port ask is. ⊎_elim (λ unknown. unknown is.0.known) (λ answered. is.1.1 answered) why)

pub answered_by_plan : (plan : Plan) (view : GroupView) (link : Link) (wide : ℕ) → SuitsGroup plan view
    → IsBeingAnswered plan.layout (state_in view) link wide → IsBeingAnswered view.layout (state_in view) link wide
answered_by_plan plan view link wide suits is =
    subst (λ (l : Layout). IsBeingAnswered l (state_in view) link wide) (sym suits.layout) is

pub answered_in_plan : (plan : Plan) (view : GroupView) (link : Link) (wide : ℕ) → SuitsGroup plan view
    → IsBeingAnswered view.layout (state_in view) link wide → IsBeingAnswered plan.layout (state_in view) link wide
answered_in_plan plan view link wide suits is =
    subst (λ (l : Layout). IsBeingAnswered l (state_in view) link wide) suits.layout is

-- a request that has ended is there
pub unasked : (number : ℕ) (turn : Turn) → IsAskedAt number turn → asked turn ≡ None → ⊥
unasked number Idle at is = at
unasked number (Asking link) at is = at
unasked number (Asked link sent) at is = cc

-- what has ended of a wide source on one side, whichever link it is
module _ (plan : Plan) (state : State) (wide : ℕ) (slaves left : List PortSlave) (at : ℕ → Link) (turn : Turn)
    (numbers : (n : ℕ) → link_number (at n) ≡ n) (turns : (n : ℕ) → (state.flights (side_of (at n)) wide).turn ≡ turn) where
  pub one_link : (number : ℕ) → IsAskedAt number turn → AreLeft (IsCutOpen plan state (at number) wide) slaves left
      → AreLeft (λ port ask. (n : ℕ) × IsCutOpen plan state (at n) wide port ask) slaves left
  one_link number here =
      alike_left (IsCutOpen plan state (at number) wide) (λ port ask. (n : ℕ) × IsCutOpen plan state (at n) wide port ask)
      slaves left (λ port ask is. (number, is))
      (λ port ask is. subst (λ n. IsCutOpen plan state (at n) wide port ask) (same is.0 ask is.1.1.0) is.1)
    where
      same : (n : ℕ) (ask : Request) → IsEndedAsk (link_number (at n)) ask (state.flights (side_of (at n)) wide).turn
          → n ≡ number
      same n ask is =
          sym (numbers n)
          ∙ one_number (link_number (at n)) number turn
          (subst (λ (t : Turn). IsAskedAt (link_number (at n)) t) (turns n)
          (ask_at (link_number (at n)) ask (state.flights (side_of (at n)) wide).turn is))
          here

  pub no_link : ((number : ℕ) → IsAskedAt number turn → ⊥)
      → AreLeft (λ port ask. (n : ℕ) × IsCutOpen plan state (at n) wide port ask) slaves slaves
  no_link none =
      none_left (λ port ask. (n : ℕ) × IsCutOpen plan state (at n) wide port ask) slaves
      (λ port ask is. none is.0 (there is.0 ask is.1.1.0))
    where
      there : (n : ℕ) (ask : Request) → IsEndedAsk (link_number (at n)) ask (state.flights (side_of (at n)) wide).turn
          → IsAskedAt n turn
      there n ask is =
          subst (λ (m : ℕ). IsAskedAt m turn) (numbers n)
          (subst (λ (t : Turn). IsAskedAt (link_number (at n)) t) (turns n)
          (ask_at (link_number (at n)) ask (state.flights (side_of (at n)) wide).turn is))

-- ---- a step that changes slaves alone

pub suits_after : (plan : Plan) (old mid : GroupView) → mid ≡ record old { slaves = mid.slaves } → SuitsGroup plan old
    → SuitsGroup plan mid
suits_after plan old mid rest suits = record {
  lawful = suits.lawful;
  layout = ap (λ (v : GroupView). v.layout) rest ∙ suits.layout;
}

-- ---- all numbers

pub all_numbers : (C : ℕ → ℕ → Request → Type 0) (slaves left : List PortSlave) (count : ℕ)
    → ((number port : ℕ) (ask : Request) → C number port ask → number < count) → AreLeft (UpTo C count) slaves left
    → AreLeft (λ port ask. (number : ℕ) × C number port ask) slaves left
all_numbers C slaves left count few =
    alike_left (UpTo C count) (λ port ask. (number : ℕ) × C number port ask) slaves left
    (λ port ask is. (is.0, is.2)) (λ port ask is. (is.0, few is.0 port ask is.1, is.1))

pub none_some : {A : Type 0} (a : A) → None ≡ Some a → ⊥
none_some a is = cc

-- what has ended of a wide source on either side
pub either_side : (plan : Plan) (state : State) (wide : ℕ) (slaves mid left : List PortSlave)
    → AreLeft (λ port ask. (n : ℕ) × IsCutOpen plan state (Master n) wide port ask) slaves mid
    → AreLeft (λ port ask. (n : ℕ) × IsCutOpen plan state (Port n) wide port ask) mid left
    → AreLeft (λ port ask. (link : Link) × IsCutOpen plan state link wide port ask) slaves left
either_side plan state wide slaves mid left first second =
    alike_left (λ port ask. M port ask ⊎ P port ask) (λ port ask. (link : Link) × IsCutOpen plan state link wide port ask)
    slaves left
    (λ port ask is. ⊎_elim (λ at. (Master at.0, at.1)) (λ at. (Port at.0, at.1)) is)
    (λ port ask is. by_side is.0 port ask is.1)
    (both_left M P slaves mid left first second)
  where
    M : ℕ → Request → Type 0
    M port ask = (n : ℕ) × IsCutOpen plan state (Master n) wide port ask

    P : ℕ → Request → Type 0
    P port ask = (n : ℕ) × IsCutOpen plan state (Port n) wide port ask

    by_side : (link : Link) (port : ℕ) (ask : Request) → IsCutOpen plan state link wide port ask → M port ask ⊎ P port ask
    by_side (Master m) port ask is = inl (m, is)
    by_side (Port p) port ask is = inr (p, is)

-- a wide source of which a request has ended is one that is kept
pub wide_there : (flights : List Flight) (wide number : ℕ) (ask : Request)
    → IsEndedAsk number ask (flight_at flights wide).turn → wide < length flights
wide_there [] wide number ask is = absurd is
wide_there (first ∷ flights) zero number ask is = omega arith
wide_there (first ∷ flights) (suc wide) number ask is =
    let below : wide < length flights = wide_there flights wide number ask is in omega (arith, below)

pub wide_kept : (view : GroupView) → IsSized view → (link : Link) (wide number : ℕ) (ask : Request)
    → IsEndedAsk number ask (flight_in view link wide).turn → wide < wides_in view
wide_kept view sized (Master m) wide number ask is =
    omega (arith, wide_there view.masters.flights wide number ask is, sized.at_masters)
wide_kept view sized (Port p) wide number ask is =
    omega (arith, wide_there view.ports.flights wide number ask is, sized.at_ports)

-- ---- all that is cut short

pub all_cut : (plan : Plan) (state : State) (slaves first second left : List PortSlave)
    → AreLeft (λ port ask. (n : ℕ) × IsCutUnderWay plan state (Master n) port ask) slaves first
    → AreLeft (λ port ask. (n : ℕ) × IsCutUnderWay plan state (Port n) port ask) first second
    → AreLeft (λ port ask. (wide : ℕ) × ((link : Link) × IsCutOpen plan state link wide port ask)) second left
    → AreLeft (IsCut plan state) slaves left
all_cut plan state slaves first second left sending arriving answered =
    alike_left (λ port ask. (S port ask ⊎ A port ask) ⊎ O port ask) (IsCut plan state) slaves left
    (λ port ask is. ⊎_elim (λ under. ⊎_elim
    (λ at. (Master at.0, inl at.1)) (λ at. (Port at.0, inl at.1)) under) (λ at. (at.1.0, inr (at.0, at.1.1))) is)
    (λ port ask is. by_link is.0 port ask is.1)
    (both_left (λ port ask. S port ask ⊎ A port ask) O slaves second left
    (both_left S A slaves first second sending arriving) answered)
  where
    S : ℕ → Request → Type 0
    S port ask = (n : ℕ) × IsCutUnderWay plan state (Master n) port ask

    A : ℕ → Request → Type 0
    A port ask = (n : ℕ) × IsCutUnderWay plan state (Port n) port ask

    O : ℕ → Request → Type 0
    O port ask = (wide : ℕ) × ((link : Link) × IsCutOpen plan state link wide port ask)

    by_link : (link : Link) (port : ℕ) (ask : Request)
        → IsCutUnderWay plan state link port ask ⊎ ((wide : ℕ) × IsCutOpen plan state link wide port ask)
        → (S port ask ⊎ A port ask) ⊎ O port ask
    by_link (Master m) port ask is = ⊎_elim (λ at. inl (inl (m, at))) (λ at. inr (at.0, (Master m, at.1))) is
    by_link (Port p) port ask is = ⊎_elim (λ at. inl (inr (p, at))) (λ at. inr (at.0, (Port p, at.1))) is

-- in a state that says the same
pub same_cut : (plan : Plan) (a b : State) → AreSame a b → (port : ℕ) (ask : Request) → IsCut plan a port ask
    → IsCut plan b port ask
same_cut plan a b same port ask is = (is.0, ⊎_elim (λ at. inl (at.0, under is.0 at.1)) (λ at. inr (at.0, opened is.0 at.0 at.1)) is.1)
  where
    under : (link : Link) → IsUnderWay a link ask → IsUnderWay b link ask
    under link at = ap (λ (u : Under). ask_so_far u.asking) (sym (same.links (side_of link) (link_number link))) ∙ at

    opened : (link : Link) (wide : ℕ) → IsCutOpen plan a link wide port ask → IsCutOpen plan b link wide port ask
    opened link wide at = (
      at.0,
      (
        subst (λ (f : Flight). IsEndedAsk (link_number link) ask f.turn) (same.flights (side_of link) wide) at.1.0,
        λ answered. at.1.1 (
          answered.0,
          ap (λ (u : Under). replying_source u.replying) (same.links (side_of link) (link_number link)) ∙ answered.1,
          answered.2,
        ),
      ),
    )

pub same_back : (a b : State) → AreSame a b → AreSame b a
same_back a b same = record {
  links = λ side number. sym (same.links side number);
  flights = λ side wide. sym (same.flights side wide);
  crossings = λ wide. sym (same.crossings wide);
  slaves = λ port. sym (same.slaves port);
}

-- ---- what is kept from then on

pub reset_under : (links : List Under) (number : ℕ)
    → under_at (map (λ (under : Under). nothing_under under.bus) links) number ≡ nothing_under (under_at links number).bus
reset_under [] number = refl
reset_under (link ∷ links) zero = refl
reset_under (link ∷ links) (suc number) = reset_under links number

pub reset_flight : (flights : List Flight) (wide : ℕ) → flight_at (map (λ (_ : Flight). idle) flights) wide ≡ idle
reset_flight [] wide = refl
reset_flight (flight ∷ flights) zero = refl
reset_flight (flight ∷ flights) (suc wide) = reset_flight flights wide

pub reset_crossing : (crossings : List Crossing) (wide : ℕ)
    → crossing_at (map (λ (_ : Crossing). Waiting) crossings) wide ≡ Waiting
reset_crossing [] wide = refl
reset_crossing (crossing ∷ crossings) zero = refl
reset_crossing (crossing ∷ crossings) (suc wide) = reset_crossing crossings wide

-- places that are not there
no_slave_beyond : (slaves : List PortSlave) (port : ℕ) → length slaves ≤ port → slave_at slaves port ≡ no_slave
no_slave_beyond [] port past = refl
no_slave_beyond (slave ∷ slaves) zero past = absurd (omega (arith, past))
no_slave_beyond (slave ∷ slaves) (suc port) past = no_slave_beyond slaves port (omega (arith, past))

none_loaded_beyond : (loaded : List (Option Slave)) (port : ℕ) → length loaded ≤ port → loaded_at loaded port ≡ None
none_loaded_beyond [] port past = refl
none_loaded_beyond (load ∷ loaded) zero past = absurd (omega (arith, past))
none_loaded_beyond (load ∷ loaded) (suc port) past = none_loaded_beyond loaded port (omega (arith, past))

-- so many slaves are reset, and the rest are not
pub record FirstReset (slaves now : List PortSlave) (loaded left : List (Option Slave)) (count : ℕ) : Type 0 where
  pub slaves_counted : length now ≡ length slaves
  pub loaded_counted : length left ≡ length loaded
  pub done : (port : ℕ) → port < count → slave_at now port ≡ once_reset (slave_at slaves port) (loaded_at loaded port)
  pub to_do : (port : ℕ) → count ≤ port → slave_at now port ≡ slave_at slaves port
  pub to_load : (port : ℕ) → count ≤ port → loaded_at left port ≡ loaded_at loaded port

pub none_reset : (slaves : List PortSlave) (loaded : List (Option Slave)) → FirstReset slaves slaves loaded loaded 0
none_reset slaves loaded = record {
  slaves_counted = refl;
  loaded_counted = refl;
  done = λ port below. absurd (omega (arith, below));
  to_do = λ port past. refl;
  to_load = λ port past. refl;
}

pub all_reset : (slaves now : List PortSlave) (loaded left : List (Option Slave)) (count : ℕ) → length loaded ≡ length slaves
    → length slaves ≤ count → FirstReset slaves now loaded left count → (port : ℕ)
    → slave_at now port ≡ once_reset (slave_at slaves port) (loaded_at loaded port)
all_reset slaves now loaded left count long past is port =
    ⊎_elim (λ below. is.done port below)
    (λ (from : count ≤ port).
    let beyond : slave_at slaves port ≡ no_slave = no_slave_beyond slaves port (omega (arith, past, from)) in
    let none : loaded_at loaded port ≡ None = none_loaded_beyond loaded port (omega (arith, past, from, long)) in
    is.to_do port from ∙ beyond
    ∙ ap (λ (s : PortSlave). once_reset s None) (sym beyond)
    ∙ ap (λ (l : Option Slave). once_reset (slave_at slaves port) l) (sym none))
    (cases_lt port count)

pub one_more_reset : (slaves now : List PortSlave) (loaded left : List (Option Slave)) (count : ℕ) (slave : PortSlave)
    (load none : Option Slave) → count < length slaves → FirstReset slaves now loaded left count
    → load ≡ loaded_at left count → slave ≡ once_reset (slave_at now count) load
    → FirstReset slaves (set now count slave) loaded (set left count none) (count + 1)
one_more_reset slaves now loaded left count slave load none below is taken made = record {
  slaves_counted = length-set now count slave ∙ is.slaves_counted;
  loaded_counted = length-set left count none ∙ is.loaded_counted;
  done = λ port under. ⊎_elim
      (λ (before : port < count).
      slave_at-set_other now count port slave (λ same. absurd (omega (arith, before, same))) ∙ is.done port before)
      (λ (from : count ≤ port). let same : count ≡ port = omega (arith, from, under) in
      subst (λ (n : ℕ). slave_at (set now count slave) n ≡ once_reset (slave_at slaves n) (loaded_at loaded n)) same
      (slave_at-set_same now count slave (omega (arith, below, is.slaves_counted)) ∙ made
      ∙ ap (λ (s : PortSlave). once_reset s load) (is.to_do count (omega arith))
      ∙ ap (λ (l : Option Slave). once_reset (slave_at slaves count) l) (taken ∙ is.to_load count (omega arith))))
      (cases_lt port count);
  to_do = λ port past.
      slave_at-set_other now count port slave (λ same. absurd (omega (arith, past, same)))
      ∙ is.to_do port (omega (arith, past));
  to_load = λ port past.
      loaded_at-set_other left count port none (λ same. absurd (omega (arith, past, same)))
      ∙ is.to_load port (omega (arith, past));
}
  where
    loaded_at-set_other : (loads : List (Option Slave)) (place other : ℕ) (load : Option Slave) → (place ≡ other → ⊥)
        → loaded_at (set loads place load) other ≡ loaded_at loads other
    loaded_at-set_other [] place other load apart = refl
    loaded_at-set_other (first ∷ loads) zero zero load apart = absurd (apart refl)
    loaded_at-set_other (first ∷ loads) zero (suc other) load apart = refl
    loaded_at-set_other (first ∷ loads) (suc place) zero load apart = refl
    loaded_at-set_other (first ∷ loads) (suc place) (suc other) load apart =
        loaded_at-set_other loads place other load (λ is. apart (ap suc is))

-- what is loaded at a place
pub load_there : (loaded : List (Option Slave)) (port : ℕ) (load : Option Slave) → port < length loaded
    → load ≡ get_or loaded port load → load ≡ loaded_at loaded port
load_there [] port load below is = absurd (omega (arith, below))
load_there (first ∷ loaded) zero load below is = is
load_there (first ∷ loaded) (suc port) load below is = load_there loaded port load (omega (arith, below)) is

-- the plan that goes on
pub plan_goes_on : (plan : Plan) (after : List PortSlave) → IsPlan plan → IsPlan (reset_plan plan after)
plan_goes_on plan after lawful = record { owners = lawful.owners; wide = lawful.wide; decode = lawful.decode }

-- the slaves after the reset
pub slaves_reset : (plan : Plan) (state before : State) (slaves left after : List PortSlave) (loaded : List (Option Slave))
    → AreSame before state → ((port : ℕ) → slave_at slaves port ≡ before.slaves port)
    → AreLeft (IsCut plan before) slaves left
    → length after ≡ length plan.layout.ports + 1
    → ((port : ℕ) → slave_at after port ≡ once_reset (slave_at left port) (loaded_at loaded port))
    → AreReset plan state loaded after
slaves_reset plan state before slaves left after loaded same are cut counted is = record {
  counted = counted;
  each = λ port. (
    slave_at left port,
    subst (λ (s : PortSlave). IsLeftPort (IsCut plan state port) s (slave_at left port))
        (are port ∙ same.slaves port)
        (alike_left_port (IsCut plan before port) (IsCut plan state port) (slave_at slaves port) (slave_at left port)
        (same_cut plan before state same port) (same_cut plan state before (same_back before state same) port)
        (cut.each port)),
    is port,
  );
}

-- a list that is written back as a whole
pub written_back : {A : Type 0} (new rest : List A) (count : ℕ) → length new ≡ count → take count (new ++ rest) ≡ new
written_back [] rest zero long = refl
written_back [] rest (suc count) long = absurd (omega (arith, long))
written_back (a ∷ new) rest zero long = absurd (omega (arith, long))
written_back (a ∷ new) rest (suc count) long = ap (λ tail. a ∷ tail) (written_back new rest count (omega (arith, long)))

module _ (old new : GroupView) (layout : new.layout ≡ old.layout) (masters : new.masters ≡ side_reset old.masters)
    (ports : new.ports ≡ side_reset old.ports) (crossings : new.crossings ≡ map (λ (_ : Crossing). Waiting) old.crossings) where
  links_again : (side was : SideView) → side ≡ side_reset was → (number : ℕ)
      → under_at side.links number ≡ nothing_under (under_at was.links number).bus
  links_again side was is number = ap (λ (s : SideView). under_at s.links number) is ∙ reset_under was.links number

  wides_again : wides_in new ≡ wides_in old
  wides_again = ap (λ (c : List Crossing). length c) crossings ∙ length-map old.crossings (λ (_ : Crossing). Waiting)

  flights_again : (side was : SideView) → side ≡ side_reset was → length side.flights ≡ length was.flights
  flights_again side was is =
      ap (λ (s : SideView). length s.flights) is ∙ length-map was.flights (λ (_ : Flight). idle)

  counted_again : (side was : SideView) → side ≡ side_reset was → length side.links ≡ length was.links
  counted_again side was is =
      ap (λ (s : SideView). length s.links) is ∙ length-map was.links (λ (under : Under). nothing_under under.bus)

  buses_again : (side was : SideView) (buses : List Bus) → side ≡ side_reset was → HaveBuses was.links buses
      → HaveBuses side.links buses
  buses_again side was buses is have number =
      ap (λ (u : Under). u.bus) (links_again side was is number) ∙ have number

  pub sized_again : IsSized old → length new.slaves ≡ length old.slaves → IsSized new
  sized_again sized slaves = record {
    masters = counted_again new.masters old.masters masters ∙ sized.masters ∙ ap (λ (l : Layout). length l.owners) (sym layout);
    ports = counted_again new.ports old.ports ports ∙ sized.ports ∙ ap (λ (l : Layout). length l.ports) (sym layout);
    master_buses = subst (λ (l : Layout). HaveBuses new.masters.links l.master_buses) (sym layout)
        (buses_again new.masters old.masters old.layout.master_buses masters sized.master_buses);
    port_buses = subst (λ (l : Layout). HaveBuses new.ports.links l.port_buses) (sym layout)
        (buses_again new.ports old.ports old.layout.port_buses ports sized.port_buses);
    slaves = slaves ∙ sized.slaves ∙ ap (λ (l : Layout). length l.ports + 1) (sym layout);
    at_masters = flights_again new.masters old.masters masters ∙ sized.at_masters ∙ sym wides_again;
    at_ports = flights_again new.ports old.ports ports ∙ sized.at_ports ∙ sym wides_again;
    owned = λ wide owned. subst (λ (n : ℕ). wide < n) (sym wides_again)
        (sized.owned wide (subst (λ (l : Layout). IsOwned l.owners wide) layout owned));
  }

  pub keeps_again : (plan : Plan) → IsSized old → SuitsGroup plan old → KeepsGroup (reset_plan plan new.slaves) [] new
  keeps_again plan sized suits =
      fresh_keeps (reset_plan plan new.slaves) new (plan_goes_on plan new.slaves suits.lawful)
      (sym (layout ∙ suits.layout))
      (λ number. links_again new.masters old.masters masters number
      ∙ ap nothing_under (sized.master_buses number ∙ ap (λ (l : Layout). bus_at l.master_buses number) (sym layout)))
      (λ wide. ap (λ (s : SideView). flight_at s.flights wide) masters ∙ reset_flight old.masters.flights wide)
      (λ number. links_again new.ports old.ports ports number
      ∙ ap nothing_under (sized.port_buses number ∙ ap (λ (l : Layout). bus_at l.port_buses number) (sym layout)))
      (λ wide. ap (λ (s : SideView). flight_at s.flights wide) ports ∙ reset_flight old.ports.flights wide)
      (λ wide. ap (λ (c : List Crossing). crossing_at c wide) crossings ∙ reset_crossing old.crossings wide)
      refl
