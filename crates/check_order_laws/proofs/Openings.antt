-- What is open at a port is what is in flight there that has ended, and of whose reply no beat has crossed yet. One beat of
-- another source changes nothing of that.
use Rattle.std.proofs.Common.{◌≡◌, ◌∙◌, ◌⊎◌, inl, inr, ⊎_elim, ℕ, Bool, true, false, if◌then◌else◌, List, [], Option, Some, None, refl, ap, sym, subst, eqb-true}
use Rattle.std.specs.Prelude.{◌==◌, ◌&&◌, ◌≢◌}
use Rattle.std.proofs.lemmas.Bool.{cases_eq, eq-eqb}
use Rattle.tl_types.specs.Request.{Request}
use Rattle.check_cells.specs.Sent.{Sent}
use Rattle.check_beats.specs.State.{ReplyBegun}
use Rattle.check_flight.specs.Flight.{Turn}
use Rattle.check_flight.specs.Flight.Turn.{Idle, Asking, Asked}
use Rattle.check_watch.specs.declared.beat.Link.{Link}
use Rattle.check_watch.specs.declared.beat.Link.TheVariants.{Port}
use Rattle.check_watch.specs.Allowed.{OfAsked}
use Rattle.check_watch.specs.Past.{State}
use Rattle.check_watch.specs.Plan.{Plan, Sighting, LinkSide, side_of, link_number, wide_of, same_side, HasLink, IsGroupLink}
use Rattle.check_watch.specs.Scene.{ask_if, takes_effect}
use Rattle.check_watch_laws.specs.Memories.{side_for, port_for}
use Rattle.check_watch_laws.specs.Moments.{Act, moments}
use Rattle.check_watch_laws.proofs.Taking.{moment_if, takes}
use Rattle.check_watch_laws.proofs.Turns.{link_on, true_or_false, same_side-true, same_side-refl}
use Rattle.check_order_laws.proofs.InTurn.{open_after, none_open, open_there}

-- ---- what is open

-- the reply that is under way at a link is one of this wide source
abbrev pub replies_to : Plan → Link → ℕ → Option ReplyBegun → Bool
replies_to plan link wide None = false
replies_to plan link wide (Some begun) = wide_of plan link begun.first.source == wide

abbrev pub open_if : Bool → Bool → Sent → Option Sent
open_if here replying ask = if here then (if replying then None else Some ask) else None

abbrev pub open_ask : Plan → State → ℕ → ℕ → Link → Sent → Option Sent
open_ask plan s port wide link ask =
    open_if (port_for plan link ask.ask == port)
    (replies_to plan link wide (s.links (side_of link) (link_number link)).replying) ask

abbrev pub open_in : Plan → State → ℕ → ℕ → LinkSide → Turn → Option Sent
open_in plan s port wide side Idle = None
open_in plan s port wide side (Asking n) = None
open_in plan s port wide side (Asked n ask) = open_ask plan s port wide (link_on side n) ask

abbrev pub AreOpen : Plan → State → List Sighting → Type 0
AreOpen plan s past =
    (port wide : ℕ) → open_after none_open (moments plan port past) wide
    ≡ open_in plan s port wide (side_for plan.layout port) (s.flights (side_for plan.layout port) wide).turn

pub not_open : (here : Bool) (ask : Sent) → open_if here true ask ≡ None
not_open true ask = refl
not_open false ask = refl

-- what has ended is not idle, and does not begin
pub asked_only : (n k : ℕ) (turn : Turn) (P : Request → Type 0) → OfAsked n turn P
    → (turn ≡ Idle) ⊎ (turn ≡ Asking k) → ⊥
asked_only n k turn P of (inl is) = subst (λ t. OfAsked n t P) is of
asked_only n k turn P of (inr is) = subst (λ t. OfAsked n t P) is of

pub unseen_by : (seen : Bool) (ended : Option Sent) → seen ≡ false → ask_if seen ended ≡ None
unseen_by true ended is = cc
unseen_by false ended is = refl

pub unseen_late : (seen begins : Bool) (ended : Option Sent) → seen ≡ false → ask_if (seen && begins) ended ≡ None
unseen_late true begins ended is = cc
unseen_late false begins ended is = refl

pub both_so : (a b : Bool) → a ≡ true → b ≡ true → (a && b) ≡ true
both_so true b left right = right
both_so false b left right = cc

-- ---- a beat of a link

module _ (plan : Plan) (link : Link) (has : HasLink plan.layout link) (watched : IsGroupLink plan.layout link)
    (found own : ℕ) (done : Option Sent)
    (at_port : (p : ℕ) → link ≡ Port p → found ≡ p)
    (unseen : takes_effect plan.layout link found ≡ false → done ≡ None) where
  -- a request that a port's slave sees is one that it sees at this link
  pub seen_there : (ask : Sent) → done ≡ Some ask → takes_effect plan.layout link found ≡ true
  seen_there ask is = go (takes_effect plan.layout link found) refl
    where
      go : (seen : Bool) → takes_effect plan.layout link found ≡ seen → seen ≡ true
      go true so = refl
      go false so = let none : None ≡ Some ask = sym (unseen so) ∙ is in absurd (cc)

  pub side_there : (port : ℕ) → (found == port) ≡ true → takes_effect plan.layout link found ≡ true
      → side_of link ≡ side_for plan.layout port
  side_there port here seen =
      same_side-true (side_of link) (side_for plan.layout port)
      (ap (λ p. same_side (side_of link) (side_for plan.layout p)) (sym (eqb-true found port here))
      ∙ sym (takes plan.layout link found has watched at_port) ∙ seen)

  pub taken_there : (port : ℕ) → (found == port) ≡ true → side_of link ≡ side_for plan.layout port
      → takes_effect plan.layout link found ≡ true
  taken_there port here side =
      takes plan.layout link found has watched at_port
      ∙ ap (λ p. same_side (side_of link) (side_for plan.layout p)) (eqb-true found port here)
      ∙ ap (λ sd. same_side (side_of link) sd) (sym side) ∙ same_side-refl (side_of link)

  -- of another source nothing is opened and nothing is closed
  pub other_open : (act : Act) (port wide : ℕ) (held : ℕ → Option Sent)
      → (same_side (side_of link) (side_for plan.layout port) && (own == wide)) ≡ false
      → open_after held (if found == port then moment_if act own done else []) wide ≡ held wide
  other_open act port wide held other = go (found == port) refl
    where
      by_done : (found == port) ≡ true → (o : Option Sent) → done ≡ o
          → open_after held (moment_if act own o) wide ≡ held wide
      by_done here None so = refl
      by_done here (Some ask) so = ⊎_elim
          (λ (same : wide ≡ own).
          absurd (true_or_false (same_side (side_of link) (side_for plan.layout port) && (own == wide))
          (both_so (same_side (side_of link) (side_for plan.layout port)) (own == wide)
          (ap (λ sd. same_side (side_of link) sd) (sym (side_there port here (seen_there ask so)))
          ∙ same_side-refl (side_of link))
          (eq-eqb own wide (sym same))) other))
          (λ (apart : wide ≢ own). open_there held (record { act = act; wide = own; sent = ask }) wide apart)
          (cases_eq wide own)

      go : (here : Bool) → (found == port) ≡ here
          → open_after held (if here then moment_if act own done else []) wide ≡ held wide
      go true is = by_done is done refl
      go false is = refl
