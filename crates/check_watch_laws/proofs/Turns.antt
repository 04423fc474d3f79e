-- What is in flight of messages that are under way, source by source.
use Rattle.std.proofs.Common.{◌≡◌, ◌∙◌, ℕ, ◌⊎◌, inl, inr, Bool, true, false, List, Option, Some, None, refl, ap, sym, subst}
use Rattle.std.specs.Prelude.{◌==◌}
use Rattle.std.proofs.lemmas.Bool.{eqb-false}
use Rattle.tl_types.specs.Request.{Request}
use Rattle.check_cells.specs.Sent.{Sent}
use Rattle.check_beats.specs.State.{AskBegun, first_ask}
use Rattle.check_beats.specs.declared.beat.AskHead.{AskHead}
use Rattle.check_flight.specs.Flight.{Turn, Flight}
use Rattle.check_flight.specs.Flight.Turn.{Idle, Asking, Asked}
use Rattle.check_watch.specs.declared.beat.Beat.TheVariants.{A}
use Rattle.check_watch.specs.declared.beat.Link.{Link}
use Rattle.check_watch.specs.declared.beat.Link.TheVariants.{Master, Port}
use Rattle.check_watch.specs.Allowed.{OfAsked, IsAllowedAsk}
use Rattle.check_watch.specs.Lawful.{IsLawfulGroup}
use Rattle.check_watch.specs.Past.{State, scene_of, state, state_after}
use Rattle.check_watch.specs.Plan.{Plan, Sighting, LinkSide, side_of, link_number, source_of, wide_of, same_side, is_link, is_of}
use Rattle.check_watch.specs.Plan.LinkSide.{AtMasters, AtPorts}
use Rattle.check_watch.proofs.InFlight.{of_is, other_stays, under_way_flies}

-- ---- sides and links

abbrev pub link_on : LinkSide → ℕ → Link
link_on AtMasters n = Master n
link_on AtPorts n = Port n

pub same_side-refl : (a : LinkSide) → same_side a a ≡ true
same_side-refl AtMasters = refl
same_side-refl AtPorts = refl

pub eqb_own : (n : ℕ) → (n == n) ≡ true
eqb_own n = go (n == n) refl
  where
    go : (b : Bool) → (n == n) ≡ b → b ≡ true
    go true is = refl
    go false is = absurd (eqb-false n n is refl)

pub own_link : (link : Link) → link_on (side_of link) (link_number link) ≡ link
own_link (Master m) = refl
own_link (Port p) = refl

pub is_link_by : (a b : Link) → side_of a ≡ side_of b → link_number a ≡ link_number b
    → is_link a (side_of b) (link_number b) ≡ true
is_link_by a b side number = rw (← side, ← number, same_side-refl (side_of a)) (eqb_own (link_number a))

pub own_is : (link : Link) → is_link link (side_of link) (link_number link) ≡ true
own_is link = is_link_by link link refl refl

pub true_or_false : (b : Bool) → b ≡ true → b ≡ false → ⊥
true_or_false b so not = absurd (cc)

-- ---- turns

pub asking_same : (m n : ℕ) → Asking m ≡ Asking n → m ≡ n
asking_same m n is = ap number is
  where
    number : Turn → ℕ
    number Idle = 0
    number (Asking k) = k
    number (Asked k ask) = k

-- what has ended at a reply
pub asked_at : (n : ℕ) (turn : Turn) (P : Request → Type 0) → OfAsked n turn P → (ask : Sent) × (turn ≡ Asked n ask)
    × P ask.ask
asked_at n Idle P of = absurd of
asked_at n (Asking m) P of = absurd of
asked_at n (Asked m ask) P of = (ask, ap (λ k. Asked k ask) of.0, of.1)

-- a request that is under way at a link is in flight of its source there
abbrev pub AsksFly : Plan → State → Type 0
AsksFly plan s =
    (link : Link) (begun : AskBegun)
    → (s.links (side_of link) (link_number link)).asking ≡ Some begun
    → (s.flights (side_of link) (wide_of plan link begun.first.source)).turn ≡ Asking (link_number link)

pub asks_fly : (plan : Plan) (past : List Sighting) → IsLawfulGroup plan past → AsksFly plan (state plan past)
asks_fly plan past lawful = (under_way_flies plan past lawful).0

module _ (plan : Plan) (s : State) where
  -- a beat of a request finds nothing in flight of its source, or its own request
  pub open_before : AsksFly plan s → (link : Link) (known : ℕ) (lanes : List ℕ) (beat : AskHead)
      → IsAllowedAsk plan.layout link (scene_of plan s link (A beat)) beat known lanes
      → ((s.flights (side_of link) (wide_of plan link beat.source)).turn ≡ Idle)
      ⊎ ((s.flights (side_of link) (wide_of plan link beat.source)).turn ≡ Asking (link_number link))
  open_before asks link known lanes beat allowed = go (s.links (side_of link) (link_number link)).asking refl
    where
      go : (begun : Option AskBegun) → (s.links (side_of link) (link_number link)).asking ≡ begun
          → ((s.flights (side_of link) (wide_of plan link beat.source)).turn ≡ Idle)
          ⊎ ((s.flights (side_of link) (wide_of plan link beat.source)).turn ≡ Asking (link_number link))
      go None is = inl (allowed.free is)
      go (Some begun) is =
          let source : beat.source ≡ begun.first.source =
          (allowed.fits.same begun.first (ap first_ask is)).source in
          inr (ap (λ n. (s.flights (side_of link) (wide_of plan link n)).turn) source ∙ asks link begun is)

  -- what is in flight of a source stays after a beat that is not of it
  pub elsewhere : (x : Sighting) (side : LinkSide) (wide : ℕ) (P : Turn → Type 0) → P (s.flights side wide).turn
      → (is_of plan x side wide ≡ true → ⊥) → P ((state_after plan s x).flights side wide).turn
  elsewhere x side wide P is none = go (is_of plan x side wide) refl
    where
      go : (of : Bool) → is_of plan x side wide ≡ of → P ((state_after plan s x).flights side wide).turn
      go true same = absurd (none same)
      go false same = subst (λ (f : Flight). P f.turn) (sym (other_stays plan s x side wide same)) is

  -- what a beat finds in flight of its own source
  pub mine : (x : Sighting) (side : LinkSide) (wide : ℕ) (P : Turn → Type 0) → is_of plan x side wide ≡ true
      → P (s.flights side wide).turn → P (s.flights (side_of x.link) (wide_of plan x.link (source_of x.beat))).turn
  mine x side wide P same is = let both = of_is plan x side wide same in rw (both.0, both.1) is

pub same_side-true : (a b : LinkSide) → same_side a b ≡ true → a ≡ b
same_side-true AtMasters AtMasters is = refl
same_side-true AtMasters AtPorts is = cc
same_side-true AtPorts AtMasters is = cc
same_side-true AtPorts AtPorts is = refl
