-- A beat of a request: what it ends is open then, if it goes to the port, and nothing of its source was open before.
use Rattle.std.proofs.Common.{◌≡◌, ◌∙◌, ◌⊎◌, ⊎_elim, ℕ, Bool, true, false, if◌then◌else◌, List, [], ◌∷◌, ◌++◌, Option, Some, None, refl, ap, sym, subst, eqb-true}
use Rattle.std.specs.Prelude.{◌==◌}
use Rattle.check_cells.specs.Sent.{Sent}
use Rattle.check_beats.specs.State.{Under, ReplyBegun}
use Rattle.check_beats.specs.declared.beat.AskHead.{AskHead}
use Rattle.check_flight.specs.Flight.{Turn}
use Rattle.check_flight.specs.Flight.Turn.{Idle, Asking, Asked}
use Rattle.check_watch.specs.declared.beat.Beat.TheVariants.{A}
use Rattle.check_watch.specs.declared.beat.Link.{Link}
use Rattle.check_watch.specs.declared.beat.Link.TheVariants.{Port}
use Rattle.check_watch.specs.Allowed.{OfAsked, IsAllowedAsk}
use Rattle.check_watch.specs.Past.{State, scene_found, scene_of, state_after}
use Rattle.check_watch.specs.Plan.{Plan, Sighting, LinkSide, side_of, link_number, wide_of, is_link, is_of, HasLink, IsGroupLink}
use Rattle.check_watch.specs.Scene.{ask_by, ask_if, turn_by, takes_effect, flight_after, under_after}
use Rattle.check_watch.proofs.InFlight.{ask_at, of_is}
use Rattle.check_watch_laws.specs.Memories.{side_for, port_for}
use Rattle.check_watch_laws.specs.Messages.{IsReplyBeatTo as AnswersTo}
use Rattle.check_watch_laws.specs.Moments.{RequestMoment, moments, moments_with}
use Rattle.check_watch_laws.specs.Moments.Act.{Accepts}
use Rattle.check_watch_laws.proofs.Done.{accepts_now, ask_does, ended_goes, port_own}
use Rattle.check_watch_laws.proofs.Links.{LinksAre, same_link}
use Rattle.check_watch_laws.proofs.Taking.{moment_if}
use Rattle.check_watch_laws.proofs.Turns.{AsksFly, open_before, link_on, own_link}
use Rattle.check_watch_laws.proofs.UnderWay.{RepliesAnswer}
use Rattle.check_order_laws.proofs.InTurn.{open_after, open_more, none_open, open_here, AreInTurn}
use Rattle.check_order_laws.proofs.Openings.{unseen_by, AreOpen, open_if, open_ask, open_in, replies_to, asked_only, seen_there, side_there, taken_there, other_open}

module _ (plan : Plan) (s : State) (past : List Sighting) (linked : LinksAre plan s past) (busy : AsksFly plan s)
    (replies : RepliesAnswer plan s) (opens : AreOpen plan s past) (link : Link) (known : ℕ) (lanes : List ℕ)
    (has : HasLink plan.layout link) (watched : IsGroupLink plan.layout link) (beat : AskHead)
    (allowed : IsAllowedAsk plan.layout link (scene_of plan s link (A beat)) beat known lanes) where
  abbrev own : ℕ
  own = wide_of plan link beat.source

  abbrev turn : Turn
  turn = (s.flights (side_of link) own).turn

  abbrev under : Under
  under = s.links (side_of link) (link_number link)

  abbrev found : ℕ
  found = (scene_found plan s link (A beat)).port

  abbrev ended : Option Sent
  ended = ask_by under beat lanes

  abbrev done : Option Sent
  done = accepts_now plan s link lanes beat

  abbrev after : State
  after = state_after plan s (ask_at link known lanes beat)

  abbrev more : ℕ → List RequestMoment
  more port = if found == port then moment_if Accepts own done else []

  abbrev before : ℕ → ℕ → Option Sent
  before port = open_after none_open (moments plan port past)

  unseen : takes_effect plan.layout link found ≡ false → done ≡ None
  unseen = unseen_by (takes_effect plan.layout link found) ended

  at_port : (p : ℕ) → link ≡ Port p → found ≡ p
  at_port = port_own plan link turn (A beat)

  -- no reply begins or goes on with it
  replying_stays : (at : Link) → (after.links (side_of at) (link_number at)).replying
      ≡ (s.links (side_of at) (link_number at)).replying
  replying_stays at = go (is_link link (side_of at) (link_number at)) refl
    where
      go : (here : Bool) → is_link link (side_of at) (link_number at) ≡ here
          → (if here then under_after under (A beat) known lanes
          else s.links (side_of at) (link_number at)).replying
          ≡ (s.links (side_of at) (link_number at)).replying
      go true is = ap (λ (l : Link). (s.links (side_of l) (link_number l)).replying) (same_link link at is)
      go false is = refl

  free : (turn ≡ Idle) ⊎ (turn ≡ Asking (link_number link))
  free = open_before plan s busy link known lanes beat allowed

  none_before : (port : ℕ) → side_of link ≡ side_for plan.layout port → before port own ≡ None
  none_before port side =
      opens port own
      ∙ ap (λ sd. open_in plan s port own sd (s.flights sd own).turn) (sym side)
      ∙ ⊎_elim (λ (is : turn ≡ Idle). ap (λ t. open_in plan s port own (side_of link) t) is)
      (λ (is : turn ≡ Asking (link_number link)). ap (λ t. open_in plan s port own (side_of link) t) is) free

  no_reply : replies_to plan link own under.replying ≡ false
  no_reply = go under.replying refl
    where
      go : (kept : Option ReplyBegun) → under.replying ≡ kept → replies_to plan link own kept ≡ false
      go None is = refl
      go (Some b) is = by (wide_of plan link b.first.source == own) refl
        where
          by : (same : Bool) → (wide_of plan link b.first.source == own) ≡ same → same ≡ false
          by true same = absurd (asked_only (link_number link) (link_number link) turn
              (λ ask. AnswersTo ask b.first)
              (subst (λ w. OfAsked (link_number link) (s.flights (side_of link) w).turn
              (λ ask. AnswersTo ask b.first)) (eqb-true (wide_of plan link b.first.source) own same)
              (replies link b is)) free)
          by false same = refl

  -- ---- of its own source

  own_open : (port : ℕ) → side_of link ≡ side_for plan.layout port
      → open_after (before port) (more port) own
      ≡ open_in plan after port own (side_of link) (turn_by (link_number link) ended)
  own_open port side = by_ended ended refl
    where
      none : before port own ≡ None
      none = none_before port side

      by_none : (here seen : Bool)
          → open_after (before port) (if here then moment_if Accepts own (ask_if seen None) else []) own ≡ None
      by_none true true = none
      by_none true false = none
      by_none false seen = none

      by_some : (ask : Sent) → (here : Bool) → (found == port) ≡ here
          → open_after (before port) (if here then moment_if Accepts own
          (ask_if (takes_effect plan.layout link found) (Some ask)) else []) own ≡ open_if here false ask
      by_some ask true is =
          ap (λ b. open_after (before port) (moment_if Accepts own (ask_if b (Some ask))) own)
          (taken_there plan link has watched found own done at_port unseen port is side)
          ∙ open_here (before port) (record { act = Accepts; wide = own; sent = ask }) own refl
      by_some ask false is = none

      by_ended : (o : Option Sent) → ended ≡ o
          → open_after (before port) (if found == port then moment_if Accepts own
          (ask_if (takes_effect plan.layout link found) o) else []) own
          ≡ open_in plan after port own (side_of link) (turn_by (link_number link) o)
      by_ended None so = by_none (found == port) (takes_effect plan.layout link found)
      by_ended (Some ask) so =
          by_some ask (found == port) refl
          ∙ ap (λ b. open_if (found == port) b ask)
          (sym (ap (λ k. replies_to plan link own k) (replying_stays link) ∙ no_reply))
          ∙ ap (λ p. open_if (p == port)
          (replies_to plan link own (after.links (side_of link) (link_number link)).replying) ask)
          (sym (ended_goes plan link turn under lanes beat ask so))
          ∙ ap (λ l. open_ask plan after port own l ask) (sym (own_link link))

  -- ---- all sources

  moments_are : (port : ℕ) → moments plan port (ask_at link known lanes beat ∷ past) ≡ moments plan port past ++ more port
  moments_are port = ap (λ l. moments plan port past ++ l) (ask_does plan s past linked link known lanes has watched beat port)

  opened : (port wide : ℕ) → open_after none_open (moments plan port (ask_at link known lanes beat ∷ past)) wide
      ≡ open_after (before port) (more port) wide
  opened port wide =
      ap (λ l. open_after none_open l wide) (moments_are port)
      ∙ ap (λ (f : ℕ → Option Sent). f wide) (open_more none_open (moments plan port past) (more port))

  same_open : (port wide : ℕ) (side : LinkSide) (t : Turn)
      → open_in plan s port wide side t ≡ open_in plan after port wide side t
  same_open port wide side Idle = refl
  same_open port wide side (Asking n) = refl
  same_open port wide side (Asked n ask) =
      ap (λ k. open_if (port_for plan (link_on side n) ask.ask == port) (replies_to plan (link_on side n) wide k) ask)
      (sym (replying_stays (link_on side n)))

  pub ask_opens : AreOpen plan (state_after plan s (ask_at link known lanes beat)) (ask_at link known lanes beat ∷ past)
  ask_opens port wide = go (is_of plan (ask_at link known lanes beat) (side_for plan.layout port) wide) refl
    where
      Opens : LinkSide → ℕ → Type 0
      Opens sd w = open_after none_open (moments plan port (ask_at link known lanes beat ∷ past)) w
          ≡ open_in plan after port w sd (turn_by (link_number link) ended)

      go : (of : Bool) → is_of plan (ask_at link known lanes beat) (side_for plan.layout port) wide ≡ of
          → open_after none_open (moments plan port (ask_at link known lanes beat ∷ past)) wide
          ≡ open_in plan (state_after plan s (ask_at link known lanes beat)) port wide (side_for plan.layout port)
          (if of then flight_after plan.layout link (scene_of plan s link (A beat)) (A beat) lanes
          else s.flights (side_for plan.layout port) wide).turn
      go true is =
          let both = of_is plan (ask_at link known lanes beat) (side_for plan.layout port) wide is in
          subst (λ sd. Opens sd wide) both.0 (subst (λ w. Opens (side_of link) w) both.1
          (opened port own ∙ own_open port both.0))
      go false is =
          opened port wide
          ∙ other_open plan link has watched found own done at_port unseen Accepts port wide (before port) is
          ∙ opens port wide
          ∙ same_open port wide (side_for plan.layout port) (s.flights (side_for plan.layout port) wide).turn

  -- the moment comes in turn
  pub ask_in_turn : (port : ℕ) → AreInTurn (open_after none_open (moments plan port past))
      (moments_with plan port past (ask_at link known lanes beat) (A beat))
  ask_in_turn port =
      subst (λ l. AreInTurn (before port) l)
      (sym (ask_does plan s past linked link known lanes has watched beat port)) (go (found == port) refl)
    where
      by_done : (found == port) ≡ true → (o : Option Sent) → done ≡ o
          → AreInTurn (before port) (moment_if Accepts own o)
      by_done here None so = tt
      by_done here (Some ask) so = (
        none_before port (side_there plan link has watched found own done at_port unseen port here
            (seen_there plan link has watched found own done at_port unseen ask so)),
        tt,
      )

      go : (here : Bool) → (found == port) ≡ here
          → AreInTurn (before port) (if here then moment_if Accepts own done else [])
      go true is = by_done is done refl
      go false is = tt
