-- A beat of a reply: the request that it answers is open before its first beat, and not afterwards.
use Rattle.std.proofs.Common.{◌≡◌, ◌∙◌, ◌+◌, ℕ, Bool, true, false, if◌then◌else◌, List, [], ◌∷◌, ◌++◌, replicate, Option, Some, None, unwrap_or, refl, ap, sym, subst}
use Rattle.std.specs.Prelude.{◌==◌, ◌&&◌}
use Rattle.check_cells.specs.Sent.{Sent}
use Rattle.check_beats.specs.Message.{seen_cells as seen_bytes, is_spoiled}
use Rattle.check_beats.specs.State.{Under, ReplyBegun, first_reply, ends_reply, replied_beats, replied_bytes, replied_spoiled}
use Rattle.check_beats.specs.declared.beat.ReplyHead.{ReplyHead}
use Rattle.check_flight.specs.Flight.{Turn, Flight, idle, asked}
use Rattle.check_flight.specs.Flight.Turn.{Idle, Asking, Asked}
use Rattle.check_watch.specs.declared.beat.Beat.TheVariants.{D}
use Rattle.check_watch.specs.declared.beat.Link.{Link}
use Rattle.check_watch.specs.declared.beat.Link.TheVariants.{Port}
use Rattle.check_watch.specs.Allowed.{IsAllowedReply}
use Rattle.check_watch.specs.Past.{State, scene_found, scene_of, state_after}
use Rattle.check_watch.specs.Plan.{Plan, Sighting, LinkSide, side_of, link_number, wide_of, same_side, is_link, is_of, HasLink, IsGroupLink}
use Rattle.check_watch.specs.Scene.{ask_if, takes_effect, begins_reply, flight_after, under_after}
use Rattle.check_watch.proofs.InFlight.{reply_at, of_is}
use Rattle.check_watch_laws.specs.Memories.{side_for, port_for}
use Rattle.check_watch_laws.specs.Moments.{RequestMoment, moments, moments_with}
use Rattle.check_watch_laws.specs.Moments.Act.{Answers}
use Rattle.check_watch_laws.proofs.Done.{answers_now, reply_does, reply_goes, port_own}
use Rattle.check_watch_laws.proofs.Dues.{side_on}
use Rattle.check_watch_laws.proofs.Flights.{AreInStep}
use Rattle.check_watch_laws.proofs.Heads.{first_reply_after}
use Rattle.check_watch_laws.proofs.Links.{LinksAre, same_link}
use Rattle.check_watch_laws.proofs.Taking.{moment_if}
use Rattle.check_watch_laws.proofs.Turns.{link_on, own_link, own_is, asked_at, eqb_own, same_side-refl}
use Rattle.check_watch_laws.proofs.UnderWay.{first_source}
use Rattle.check_order_laws.proofs.InTurn.{open_after, open_more, none_open, open_here, AreInTurn}
use Rattle.check_order_laws.proofs.Openings.{unseen_late, AreOpen, open_if, open_ask, open_in, not_open, replies_to, side_there, taken_there, other_open}

module _ (plan : Plan) (s : State) (past : List Sighting) (linked : LinksAre plan s past) (steps : AreInStep plan s past)
    (opens : AreOpen plan s past) (link : Link) (known : ℕ) (lanes : List ℕ)
    (has : HasLink plan.layout link) (watched : IsGroupLink plan.layout link) (beat : ReplyHead)
    (allowed : IsAllowedReply plan.layout link (scene_of plan s link (D beat)) beat known lanes) where
  abbrev own : ℕ
  own = wide_of plan link beat.source

  abbrev turn : Turn
  turn = (s.flights (side_of link) own).turn

  abbrev under : Under
  under = s.links (side_of link) (link_number link)

  abbrev found : ℕ
  found = (scene_found plan s link (D beat)).port

  abbrev done : Option Sent
  done = answers_now plan s link beat

  abbrev after : State
  after = state_after plan s (reply_at link known lanes beat)

  abbrev more : ℕ → List RequestMoment
  more port = if found == port then moment_if Answers own done else []

  abbrev before : ℕ → ℕ → Option Sent
  before port = open_after none_open (moments plan port past)

  answers : (ask : Sent) × (turn ≡ Asked (link_number link) ask)
  answers = let is = asked_at (link_number link) turn _ allowed.answers in (is.0, is.1)

  goes : port_for plan link answers.0.ask ≡ found
  goes = reply_goes plan link turn (link_number link) beat answers.0 answers.1

  unseen : takes_effect plan.layout link found ≡ false → done ≡ None
  unseen = unseen_late (takes_effect plan.layout link found) (begins_reply under.replying) (asked turn)

  at_port : (p : ℕ) → link ≡ Port p → found ≡ p
  at_port = port_own plan link turn (D beat)

  -- ---- the reply that is under way

  was_own : (b : ReplyBegun) → under.replying ≡ Some b → b.first.source ≡ beat.source
  was_own b is = sym (allowed.fits.same b.first (ap first_reply is)).source

  is_own : (b : ReplyBegun) → (under_after under (D beat) known lanes).replying ≡ Some b → b.first.source ≡ beat.source
  is_own b is = sym (ap (λ (h : ReplyHead). h.source)
      (first_reply_after under.bus under.replying beat known lanes b is).0)
      ∙ first_source under.replying beat allowed.fits.same

  not_other : (wide : ℕ) → (own == wide) ≡ false → (kept : Option ReplyBegun)
      → ((b : ReplyBegun) → kept ≡ Some b → b.first.source ≡ beat.source) → replies_to plan link wide kept ≡ false
  not_other wide other None source = refl
  not_other wide other (Some b) source = ap (λ n. wide_of plan link n == wide) (source b refl) ∙ other

  -- of another source none is, at any link of its side
  replying_stays : (wide : ℕ) (at : Link) → (side_of link ≡ side_of at → (own == wide) ≡ false)
      → replies_to plan at wide (after.links (side_of at) (link_number at)).replying
      ≡ replies_to plan at wide (s.links (side_of at) (link_number at)).replying
  replying_stays wide at other = go (is_link link (side_of at) (link_number at)) refl
    where
      go : (here : Bool) → is_link link (side_of at) (link_number at) ≡ here
          → replies_to plan at wide (if here then under_after under (D beat) known lanes
          else s.links (side_of at) (link_number at)).replying
          ≡ replies_to plan at wide (s.links (side_of at) (link_number at)).replying
      go true is =
          let same : link ≡ at = same_link link at is in
          let apart : (own == wide) ≡ false = other (ap (λ l. side_of l) same) in
          subst (λ l. replies_to plan l wide (under_after under (D beat) known lanes).replying
          ≡ replies_to plan l wide (s.links (side_of l) (link_number l)).replying) same
          (not_other wide apart (under_after under (D beat) known lanes).replying is_own
          ∙ sym (not_other wide apart under.replying was_own))
      go false is = refl

  -- of its own source it is this one, if it goes on
  goes_on : ends_reply under.bus under.replying beat ≡ false
      → replies_to plan link own (after.links (side_of link) (link_number link)).replying ≡ true
  goes_on is =
      ap (λ (h : Bool). replies_to plan link own (if h then under_after under (D beat) known lanes else under).replying)
      (own_is link)
      ∙ ap (λ (ends : Bool). replies_to plan link own (if ends then None else Some (record {
        first = unwrap_or (first_reply under.replying) beat;
        beats = replied_beats under.replying + 1;
        bytes = replied_bytes under.replying ++ seen_bytes beat known lanes 0 under.bus;
        spoiled = replied_spoiled under.replying ++ replicate under.bus (is_spoiled beat);
      }))) is
      ∙ ap (λ n. wide_of plan link n == own) (first_source under.replying beat allowed.fits.same)
      ∙ eqb_own own

  -- ---- of its own source

  open_before : (port : ℕ) → side_of link ≡ side_for plan.layout port
      → before port own ≡ open_if (found == port) (replies_to plan link own under.replying) answers.0
  open_before port side =
      opens port own
      ∙ ap (λ sd. open_in plan s port own sd (s.flights sd own).turn) (sym side)
      ∙ ap (λ t. open_in plan s port own (side_of link) t) answers.1
      ∙ ap (λ l. open_ask plan s port own l answers.0) (own_link link)
      ∙ ap (λ p. open_if (p == port) (replies_to plan link own under.replying) answers.0) goes

  none_after : (port : ℕ) → side_of link ≡ side_for plan.layout port
      → open_after (before port) (more port) own ≡ None
  none_after port side = go under.replying refl
    where
      Now : Bool → Option ReplyBegun → Option Sent
      Now here kept = open_after (before port) (if here then moment_if Answers own
          (ask_if (takes_effect plan.layout link found && begins_reply kept) (asked turn)) else []) own

      taken : (here : Bool) → (found == port) ≡ here → under.replying ≡ None → Now here None ≡ None
      taken true here is =
          ap (λ b. open_after (before port) (moment_if Answers own (ask_if (b && true) (asked turn))) own)
          (taken_there plan link has watched found own done at_port unseen port here side)
          ∙ ap (λ t. open_after (before port) (moment_if Answers own (asked t)) own) answers.1
          ∙ open_here (before port) (record { act = Answers; wide = own; sent = answers.0 }) own refl
      taken false here is =
          open_before port side ∙ ap (λ h. open_if h (replies_to plan link own under.replying) answers.0) here

      passed : (b : ReplyBegun) → (here seen : Bool) → before port own ≡ None
          → open_after (before port) (if here then moment_if Answers own (ask_if (seen && false) (asked turn)) else [])
          own ≡ None
      passed b true true none = none
      passed b true false none = none
      passed b false seen none = none

      go : (kept : Option ReplyBegun) → under.replying ≡ kept → Now (found == port) under.replying ≡ None
      go None is = ap (λ k. Now (found == port) k) is ∙ taken (found == port) refl is
      go (Some b) is = ap (λ k. Now (found == port) k) is
          ∙ passed b (found == port) (takes_effect plan.layout link found)
          (open_before port side
          ∙ ap (λ b'. open_if (found == port) b' answers.0)
          (ap (λ k. replies_to plan link own k) is ∙ ap (λ n. wide_of plan link n == own) (was_own b is) ∙ eqb_own own)
          ∙ not_open (found == port) answers.0)

  none_in : (port : ℕ) (flight : Flight) → flight.turn ≡ turn → (ends : Bool)
      → ends_reply under.bus under.replying beat ≡ ends
      → open_in plan after port own (side_of link) (if ends then idle else flight).turn ≡ None
  none_in port flight same true is = refl
  none_in port flight same false is =
      ap (λ t. open_in plan after port own (side_of link) t) (same ∙ answers.1)
      ∙ ap (λ l. open_ask plan after port own l answers.0) (own_link link)
      ∙ ap (λ b. open_if (port_for plan link answers.0.ask == port) b answers.0) (goes_on is)
      ∙ not_open (port_for plan link answers.0.ask == port) answers.0

  -- ---- all sources

  does : (port : ℕ) → moments_with plan port past (reply_at link known lanes beat) (D beat) ≡ more port
  does port = reply_does plan s past linked link known lanes has watched steps beat answers.0 answers.1 port

  opened : (port wide : ℕ) → open_after none_open (moments plan port (reply_at link known lanes beat ∷ past)) wide
      ≡ open_after (before port) (more port) wide
  opened port wide =
      ap (λ l. open_after none_open (moments plan port past ++ l) wide) (does port)
      ∙ ap (λ (f : ℕ → Option Sent). f wide) (open_more none_open (moments plan port past) (more port))

  same_open : (port wide : ℕ) (side : LinkSide) (t : Turn) → (side_of link ≡ side → (own == wide) ≡ false)
      → open_in plan s port wide side t ≡ open_in plan after port wide side t
  same_open port wide side Idle other = refl
  same_open port wide side (Asking n) other = refl
  same_open port wide side (Asked n ask) other =
      ap (λ b. open_if (port_for plan (link_on side n) ask.ask == port) b ask)
      (sym (replying_stays wide (link_on side n) (λ same. other (same ∙ side_on side n))))

  other_source : (side : LinkSide) (wide : ℕ) → (same_side (side_of link) side && (own == wide)) ≡ false
      → side_of link ≡ side → (own == wide) ≡ false
  other_source side wide other same =
      sym (ap (λ b. b && (own == wide))
      (ap (λ sd. same_side (side_of link) sd) (sym same) ∙ same_side-refl (side_of link))) ∙ other

  pub reply_opens : AreOpen plan (state_after plan s (reply_at link known lanes beat))
      (reply_at link known lanes beat ∷ past)
  reply_opens port wide = go (is_of plan (reply_at link known lanes beat) (side_for plan.layout port) wide) refl
    where
      Opens : LinkSide → ℕ → Type 0
      Opens sd w = open_after none_open (moments plan port (reply_at link known lanes beat ∷ past)) w
          ≡ open_in plan after port w sd
          (flight_after plan.layout link (scene_of plan s link (D beat)) (D beat) lanes).turn

      go : (of : Bool) → is_of plan (reply_at link known lanes beat) (side_for plan.layout port) wide ≡ of
          → open_after none_open (moments plan port (reply_at link known lanes beat ∷ past)) wide
          ≡ open_in plan (state_after plan s (reply_at link known lanes beat)) port wide (side_for plan.layout port)
          (if of then flight_after plan.layout link (scene_of plan s link (D beat)) (D beat) lanes
          else s.flights (side_for plan.layout port) wide).turn
      go true is =
          let both = of_is plan (reply_at link known lanes beat) (side_for plan.layout port) wide is in
          subst (λ sd. Opens sd wide) both.0 (subst (λ w. Opens (side_of link) w) both.1
          (opened port own ∙ none_after port both.0
          ∙ sym (none_in port (scene_of plan s link (D beat)).flight refl
          (ends_reply under.bus under.replying beat) refl)))
      go false is =
          opened port wide
          ∙ other_open plan link has watched found own done at_port unseen Answers port wide (before port) is
          ∙ opens port wide
          ∙ same_open port wide (side_for plan.layout port) (s.flights (side_for plan.layout port) wide).turn
          (other_source (side_for plan.layout port) wide is)

  -- the moment comes in turn
  pub reply_in_turn : (port : ℕ) → AreInTurn (open_after none_open (moments plan port past))
      (moments_with plan port past (reply_at link known lanes beat) (D beat))
  reply_in_turn port = subst (λ l. AreInTurn (before port) l) (sym (does port)) (go (found == port) refl)
    where
      by_kept : (found == port) ≡ true → (kept : Option ReplyBegun) → under.replying ≡ kept → (seen : Bool)
          → takes_effect plan.layout link found ≡ seen
          → AreInTurn (before port) (moment_if Answers own (ask_if (seen && begins_reply kept) (asked turn)))
      by_kept here None is false seen = tt
      by_kept here (Some b) is false seen = tt
      by_kept here (Some b) is true seen = tt
      by_kept here None is true seen =
          subst (λ t. AreInTurn (before port) (moment_if Answers own (asked t))) (sym answers.1) (
            open_before port (side_there plan link has watched found own done at_port unseen port here seen)
                ∙ ap (λ h. open_if h (replies_to plan link own under.replying) answers.0) here
                ∙ ap (λ k. open_if true (replies_to plan link own k) answers.0) is,
            tt,
          )

      go : (here : Bool) → (found == port) ≡ here
          → AreInTurn (before port) (if here then moment_if Answers own done else [])
      go true is = by_kept is under.replying refl (takes_effect plan.layout link found) refl
      go false is = tt
