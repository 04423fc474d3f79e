-- The request that a port's slave accepts or answers with a beat is the one that it sees of its port.
use Rattle.std.proofs.Common.{◌≡◌, ◌∙◌, ℕ, suc, ◌-◌, ◌<◌, Bool, true, false, if◌then◌else◌, List, [], ◌∷◌, length, map, filter, Option, Some, None, take, drop, refl, ap, sym, subst, arith, eqb-true, nltb→le, T, not}
use Rattle.std.specs.Prelude.{◌==◌, ◌&&◌, nat_lt}
use Rattle.check_cells.specs.Sent.{Sent}
use Rattle.check_beats.specs.declared.beat.AskHead.{AskHead}
use Rattle.check_beats.specs.declared.beat.ReplyHead.{ReplyHead}
use Rattle.check_flight.specs.Flight.{Turn}
use Rattle.check_flight.specs.Flight.Turn.{Asked}
use Rattle.check_watch.specs.declared.beat.Beat.TheVariants.{A, D}
use Rattle.check_watch.specs.declared.beat.Link.{Link}
use Rattle.check_watch.specs.declared.beat.Link.TheVariants.{Master, Port}
use Rattle.check_watch.specs.declared.links.Links.{Links}
use Rattle.check_watch.specs.declared.links.Links.TheVariants.{Both, Masters, Ports, Each}
use Rattle.check_watch.specs.Plan.{Plan, Layout, Sighting, side_of, link_number, wide_of, same_side, are_both, is_apart, may_cross, HasLink, AreMastersTogether, IsPortTogether, IsGroupLink}
use Rattle.check_watch.specs.Plan.LinkSide.{AtMasters, AtPorts}
use Rattle.check_watch.specs.Scene.{ask_by, ask_if, takes_effect, begins_reply}
use Rattle.check_watch.proofs.InFlight.{ask_at, reply_at}
use Rattle.check_watch_laws.specs.Crossed.{asks, replies, next_answered, replying_at, ask_ended}
use Rattle.check_watch_laws.specs.Memories.{side_by, side_for, port_for, is_for, ask_answered}
use Rattle.check_watch_laws.specs.Moments.{Act, RequestMoment, moment_of}
use Rattle.check_watch_laws.specs.Moments.Act.{Accepts, Answers}
use Rattle.check_watch_laws.proofs.Flights.{pending, InStep, ask_list, ask_seen}
use Rattle.check_watch_laws.proofs.Links.{under_by}
use Rattle.check_watch_laws.proofs.Lists.{drop_front}
use Rattle.check_watch_laws.proofs.Turns.{link_on, own_link}

-- ---- where the slave of a port is seen

less : (m n : ℕ) → m < n → nat_lt m n ≡ true
less m n h = go (nat_lt m n) refl
  where
    go : (b : Bool) → nat_lt m n ≡ b → b ≡ true
    go true is = refl
    go false is = absurd (omega (arith, h, nltb→le m n (subst (λ b. T (not b)) (sym is) tt)))

at_masters : (links : Links) (crosses : Bool) → AreMastersTogether links
    → (if are_both links && crosses then false else true) ≡ same_side AtMasters (side_by links crosses)
at_masters Both true watched = refl
at_masters Both false watched = refl
at_masters Masters crosses watched = refl
at_masters Ports crosses watched = absurd watched
at_masters Each crosses watched = refl

at_ports : (links : Links) (apart in_map : Bool) → IsPortTogether links apart → in_map ≡ true
    → true ≡ same_side AtPorts (side_by links (in_map && not apart))
at_ports Both false true watched is = refl
at_ports Both false false watched is = cc
at_ports Both true in_map watched is = absurd watched
at_ports Masters apart in_map watched is = absurd watched
at_ports Ports apart in_map watched is = refl
at_ports Each apart in_map watched is = absurd watched

-- requests are compared at a port's link that is judged with the masters'
pub crosses_there : (layout : Layout) (p : ℕ) → layout.links ≡ Both → HasLink layout (Port p)
    → IsGroupLink layout (Port p) → may_cross layout p ≡ true
crosses_there layout p both has watched =
    go (is_apart layout p) (subst (λ links. IsPortTogether links (is_apart layout p)) both watched)
  where
    go : (apart : Bool) → IsPortTogether Both apart → (nat_lt p (length layout.ports) && not apart) ≡ true
    go false kept = ap (λ b. b && true) (less p (length layout.ports) has)
    go true kept = absurd kept

-- a port's slave accepts requests at a link that is watched just if it is seen there
pub takes : (layout : Layout) (link : Link) (port : ℕ) → HasLink layout link → IsGroupLink layout link
    → ((p : ℕ) → link ≡ Port p → port ≡ p)
    → takes_effect layout link port ≡ same_side (side_of link) (side_for layout port)
takes layout (Master m) port has watched own = at_masters layout.links (may_cross layout port) watched
takes layout (Port p) port has watched own =
    at_ports layout.links (is_apart layout port) (nat_lt port (length layout.ports))
    (subst (λ n. IsPortTogether layout.links (is_apart layout n)) (sym (own p refl)) watched)
    (ap (λ n. nat_lt n (length layout.ports)) (own p refl) ∙ less p (length layout.ports) has)

-- ---- the request of a port's slave

abbrev pub moment_if : Act → ℕ → Option Sent → List RequestMoment
moment_if act wide None = []
moment_if act wide (Some ask) = record { act = act; wide = wide; sent = ask } ∷ []

none_taken : (act : Act) (wide : ℕ) (here seen : Bool)
    → [] ≡ (if here then moment_if act wide (ask_if seen None) else [])
none_taken act wide true true = refl
none_taken act wide true false = refl
none_taken act wide false seen = refl

none_here : (act : Act) (wide : ℕ) (here : Bool) → [] ≡ (if here then moment_if act wide None else [])
none_here act wide true = refl
none_here act wide false = refl

module _ (plan : Plan) (link : Link) (wide port found : ℕ) (has : HasLink plan.layout link)
    (watched : IsGroupLink plan.layout link) (own : (p : ℕ) → link ≡ Port p → found ≡ p) where
  -- a request that is seen is one of this port, if it goes there
  taken : (act : Act) (ask : Sent) → port_for plan link ask.ask ≡ found
      → map (moment_of act wide) (filter (is_for plan port) (record { link = link; sent = ask } ∷ [])) ≡
      (if found == port then moment_if act wide (ask_if (takes_effect plan.layout link found) (Some ask)) else [])
  taken act ask goes = go (found == port) refl
    where
      -- by where it is seen and where it goes
      Done : Bool → Bool → List RequestMoment
      Done seen here = map (moment_of act wide) (if seen && here then record { link = link; sent = ask } ∷ [] else [])

      at : (seen : Bool) → Done seen true ≡ moment_if act wide (ask_if seen (Some ask))
      at true = refl
      at false = refl

      past : (seen : Bool) → Done seen false ≡ []
      past true = refl
      past false = refl

      here_is : (port_for plan link ask.ask == port) ≡ (found == port)
      here_is = ap (λ n. n == port) goes

      go : (here : Bool) → (found == port) ≡ here
          → Done (same_side (side_of link) (side_for plan.layout port)) (port_for plan link ask.ask == port) ≡
          (if here then moment_if act wide (ask_if (takes_effect plan.layout link found) (Some ask)) else [])
      go true is =
          let there : found ≡ port = eqb-true found port is in
          ap (λ h. Done (same_side (side_of link) (side_for plan.layout port)) h) (here_is ∙ is)
          ∙ at (same_side (side_of link) (side_for plan.layout port))
          ∙ ap (λ p. moment_if act wide (ask_if (same_side (side_of link) (side_for plan.layout p)) (Some ask)))
          (sym there)
          ∙ ap (λ b. moment_if act wide (ask_if b (Some ask))) (sym (takes plan.layout link found has watched own))
      go false is = ap (λ h. Done (same_side (side_of link) (side_for plan.layout port)) h) (here_is ∙ is)
          ∙ past (same_side (side_of link) (side_for plan.layout port))

  -- with a beat of a request
  pub ask_taken : (past : List Sighting) (known : ℕ) (lanes : List ℕ) (beat : AskHead)
      → ((ask : Sent) → ask_by (under_by plan.layout link past) beat lanes ≡ Some ask
      → port_for plan link ask.ask ≡ found)
      → map (moment_of Accepts wide)
      (filter (is_for plan port) (ask_ended plan.layout past (ask_at link known lanes beat) (A beat)))
      ≡ (if found == port then moment_if Accepts wide (ask_if (takes_effect plan.layout link found)
      (ask_by (under_by plan.layout link past) beat lanes)) else [])
  ask_taken past known lanes beat goes =
      ap (λ l. map (moment_of Accepts wide) (filter (is_for plan port) l)) (ask_seen plan.layout past link known lanes beat)
      ∙ go (ask_by (under_by plan.layout link past) beat lanes) goes
    where
      go : (o : Option Sent) → ((ask : Sent) → o ≡ Some ask → port_for plan link ask.ask ≡ found)
          → map (moment_of Accepts wide) (filter (is_for plan port) (ask_list link o))
          ≡ (if found == port then moment_if Accepts wide (ask_if (takes_effect plan.layout link found) o) else [])
      go (Some ask) there = taken Accepts ask (there ask refl)
      go None there = none_taken Accepts wide (found == port) (takes_effect plan.layout link found)

  -- with a beat of a reply
  pub reply_taken : (past : List Sighting) (known : ℕ) (lanes : List ℕ) (beat : ReplyHead)
      (ask : Sent) → port_for plan link ask.ask ≡ found
      → next_answered plan (side_of link) (wide_of plan link beat.source) past ≡ record { link = link; sent = ask } ∷ []
      → map (moment_of Answers wide)
      (filter (is_for plan port) (ask_answered plan past (reply_at link known lanes beat) (D beat)))
      ≡ (if found == port then moment_if Answers wide (ask_if
      (takes_effect plan.layout link found && begins_reply (replying_at plan.layout link past)) (Some ask)) else [])
  reply_taken past known lanes beat ask goes next = go (begins_reply (replying_at plan.layout link past))
    where
      off : (seen : Bool)
          → [] ≡ (if found == port then moment_if Answers wide (ask_if (seen && false) (Some ask)) else [])
      off true = none_here Answers wide (found == port)
      off false = none_here Answers wide (found == port)

      on : (seen : Bool) → (if found == port then moment_if Answers wide (ask_if seen (Some ask)) else []) ≡
          (if found == port then moment_if Answers wide (ask_if (seen && true) (Some ask)) else [])
      on true = refl
      on false = refl

      go : (begins : Bool) → map (moment_of Answers wide)
          (filter (is_for plan port) (if begins then next_answered plan (side_of link)
          (wide_of plan link beat.source) past else []))
          ≡ (if found == port then moment_if Answers wide (ask_if (takes_effect plan.layout link found && begins)
          (Some ask)) else [])
      go true = ap (λ l. map (moment_of Answers wide) (filter (is_for plan port) l)) next ∙ taken Answers ask goes
          ∙ on (takes_effect plan.layout link found)
      go false = off (takes_effect plan.layout link found)

-- the request that the next reply of a source answers is the one in flight
pub next_is : (plan : Plan) (past : List Sighting) (link : Link) (wide : ℕ) (turn : Turn) (ask : Sent)
    → InStep (side_of link) turn (asks plan (side_of link) wide past) (replies plan (side_of link) wide past)
    → turn ≡ Asked (link_number link) ask → next_answered plan
    (side_of link) wide past ≡ record { link = link; sent = ask } ∷ []
next_is plan past link wide turn ask step is =
    let n = length (replies plan (side_of link) wide past) in
    let one : suc n - n ≡ 1 = omega arith in
    ap (λ l. take (suc n - n) (drop n l)) step.asks_are
    ∙ ap (λ l. take (suc n - n) l) (drop_front step.done (pending (side_of link) turn) n step.counted)
    ∙ ap (λ t. take (suc n - n) (pending (side_of link) t)) is
    ∙ ap (λ k. take k (record { link = link_on (side_of link) (link_number link); sent = ask } ∷ [])) one
    ∙ ap (λ (l : Link). record { link = l; sent = ask } ∷ []) (own_link link)
