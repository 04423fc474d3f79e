-- The captured replies of each source are those of its port's memory.
use Rattle.std.proofs.Common.{◌≡◌, ◌∙◌, ℕ, Bool, true, false, if◌then◌else◌, List, [], ◌∷◌, ◌++◌, Option, Some, None, refl, ap, sym, subst, eqb-true, append-nil}
use Rattle.std.specs.Prelude.{◌==◌, ◌&&◌}
use Rattle.check_cells.specs.Sent.{Sent}
use Rattle.check_cells.specs.Pattern.{Pattern}
use Rattle.check_flight.specs.declared.answer.Answer.{Answer}
use Rattle.check_flight.specs.Flight.{Turn, Flight, asked, due_by}
use Rattle.check_flight.specs.Flight.Turn.{Idle, Asking, Asked}
use Rattle.check_flight.specs.PortSlave.{PortSlave, due_accepting, due_answering}
use Rattle.check_watch.specs.declared.beat.Link.{Link}
use Rattle.check_watch.specs.declared.beat.Link.TheVariants.{Port}
use Rattle.check_watch.specs.Past.{State}
use Rattle.check_watch.specs.Plan.{Plan, Sighting, LinkSide, side_of, link_number, same_side, HasLink, IsGroupLink}
use Rattle.check_watch.specs.Scene.{ask_if, turn_by, takes_effect}
use Rattle.check_watch_laws.specs.Crossed.{AskSeen, ReplySeen}
use Rattle.check_watch_laws.specs.Memories.{side_for, port_for, reset_of, exchanges_at, entries_of, with_source}
use Rattle.check_watch_laws.specs.Moments.{Act, moments, entry_due, dues_of}
use Rattle.check_watch_laws.specs.Moments.Act.{Accepts, Answers}
use Rattle.check_watch_laws.proofs.Turns.{link_on, own_link, true_or_false}
use Rattle.check_watch_laws.proofs.Taking.{takes}
use Rattle.check_watch_laws.proofs.Told.{gains, AreMatched}

-- the entry of the request in flight, if its reply is due at this port
abbrev pub owed : Plan → ℕ → ℕ → LinkSide → Turn → Option Answer → List (Sent × Pattern)
owed plan port wide side Idle due = []
owed plan port wide side (Asking n) due = []
owed plan port wide side (Asked n ask) None = []
owed plan port wide side (Asked n ask) (Some answer) =
    if port_for plan (link_on side n) ask.ask == port then
    (with_source wide ask, record answer.reply { source = wide }) ∷ [] else []

-- the entries of a source are those that were captured, and the one of the request in flight
pub record IsTold (plan : Plan) (port wide : ℕ) (side : LinkSide) (flight : Flight) (seen : List (AskSeen × ReplySeen))
    (entries : List (Sent × Pattern)) : Type 0 where
  pub front : List (Sent × Pattern)
  pub entries_are : entries ≡ front ++ owed plan port wide side flight.turn flight.due
  pub matched : AreMatched wide seen front

abbrev pub history_at : Plan → ℕ → List Sighting → List (Sent × Pattern)
history_at plan port past = dues_of port (reset_of plan port) (moments plan port past)

abbrev pub AreTold : Plan → State → List Sighting → Type 0
AreTold plan s past =
    (port wide : ℕ) → IsTold plan port wide (side_for plan.layout port) (s.flights (side_for plan.layout port) wide)
    (exchanges_at plan port wide past) (entries_of wide (history_at plan port past))

-- ---- a request whose reply is due

no_entry : (here : Bool) → ◌≡◌ {A = List (Sent × Pattern)} [] (if here then [] else [])
no_entry true = refl
no_entry false = refl

-- what is owed of a request in flight is its entry
owed_entry : (plan : Plan) (port wide found : ℕ) (link : Link) (ask : Sent) (due : Option Answer)
    → port_for plan link ask.ask ≡ found → owed plan port wide (side_of link) (Asked (link_number link) ask) due
    ≡ (if found == port then entry_due wide ask due else [])
owed_entry plan port wide found link ask None goes = no_entry (found == port)
owed_entry plan port wide found link ask (Some answer) goes =
    ap (λ l. if port_for plan l ask.ask == port then
    (with_source wide ask, record answer.reply { source = wide }) ∷ [] else []) (own_link link)
    ∙ ap (λ p. if p == port then (with_source wide ask, record answer.reply { source = wide }) ∷ [] else []) goes

-- the entry of a request whose reply is due as it is accepted
pub new_owed : (plan : Plan) (port wide found : ℕ) (link : Link) (slave : PortSlave) (effect : Bool)
    (ended : Option Sent) → ((ask : Sent) → ended ≡ Some ask → port_for plan link ask.ask ≡ found)
    → owed plan port wide (side_of link) (turn_by (link_number link) ended)
    (due_accepting found slave (ask_if effect ended)) ≡
    (if found == port then gains Accepts found slave wide (ask_if effect ended) else [])
new_owed plan port wide found link slave true None goes = no_entry (found == port)
new_owed plan port wide found link slave false None goes = no_entry (found == port)
new_owed plan port wide found link slave true (Some ask) goes =
    owed_entry plan port wide found link ask (due_accepting found slave (Some ask)) (goes ask refl)
new_owed plan port wide found link slave false (Some ask) goes = no_entry (found == port)

-- the entry of a request whose reply is due as it is answered
pub late_owed : (plan : Plan) (port wide found : ℕ) (link : Link) (slave : PortSlave) (effect : Bool) (turn : Turn)
    (ask : Sent) (due : Option Answer) → turn ≡ Asked (link_number link) ask → port_for plan link ask.ask ≡ found
    → ((answer : Answer) → due_answering found slave wide (ask_if effect (Some ask)) ≡ Some answer → due ≡ None)
    → owed plan port wide (side_of link) turn due
    ++ (if found == port then gains Answers found slave wide (ask_if effect (asked turn)) else [])
    ≡ owed plan port wide (side_of link) turn
    (due_by due (due_answering found slave wide (ask_if effect (asked turn))))
late_owed plan port wide found link slave effect turn ask due is goes fresh =
    subst (λ t. owed plan port wide (side_of link) t due
    ++ (if found == port then gains Answers found slave wide (ask_if effect (asked t)) else [])
    ≡ owed plan port wide (side_of link) t
    (due_by due (due_answering found slave wide (ask_if effect (asked t)))))
    (sym is) (go effect fresh)
  where
    stays : owed plan port wide (side_of link) (Asked (link_number link) ask) due
        ++ (if found == port then [] else []) ≡ owed plan port wide (side_of link) (Asked (link_number link) ask) due
    stays = ap (λ l. owed plan port wide (side_of link) (Asked (link_number link) ask) due ++ l)
        (sym (no_entry (found == port)))
        ∙ append-nil (owed plan port wide (side_of link) (Asked (link_number link) ask) due)

    there : (later : Option Answer) → ((answer : Answer) → later ≡ Some answer → due ≡ None)
        → owed plan port wide (side_of link) (Asked (link_number link) ask) due
        ++ (if found == port then entry_due wide ask later else [])
        ≡ owed plan port wide (side_of link) (Asked (link_number link) ask) (due_by due later)
    there None new = stays
    there (Some answer) new =
        ap (λ d. owed plan port wide (side_of link) (Asked (link_number link) ask) d
        ++ (if found == port then entry_due wide ask (Some answer) else [])) (new answer refl)
        ∙ sym (owed_entry plan port wide found link ask (Some answer) goes)

    go : (e : Bool)
        → ((answer : Answer) → due_answering found slave wide (ask_if e (Some ask)) ≡ Some answer → due ≡ None)
        → owed plan port wide (side_of link) (Asked (link_number link) ask) due
        ++ (if found == port then gains Answers found slave wide (ask_if e (Some ask)) else [])
        ≡ owed plan port wide (side_of link) (Asked (link_number link) ask)
        (due_by due (due_answering found slave wide (ask_if e (Some ask))))
    go false new = stays
    go true new = there (due_answering found slave wide (Some ask)) new

-- ---- one beat more

module _ (plan : Plan) (link : Link) (has : HasLink plan.layout link) (watched : IsGroupLink plan.layout link)
    (found own : ℕ) (done : Option Sent)
    (at_port : (p : ℕ) → link ≡ Port p → found ≡ p)
    (unseen : takes_effect plan.layout link found ≡ false → done ≡ None) where
  -- what is seen of another source is no entry of this one
  pub other_entry : (act : Act) (port wide : ℕ) (there : PortSlave)
      → (same_side (side_of link) (side_for plan.layout port) && (own == wide)) ≡ false
      → (if found == port then (if own == wide then gains act port there own done else []) else []) ≡ []
  other_entry act port wide there other =
      go (found == port) (own == wide) (takes_effect plan.layout link found) refl refl refl
    where
      none : (o : Option Sent) → o ≡ None → gains act port there own o ≡ []
      none o is = ap (λ e. gains act port there own e) is

      go : (here same seen : Bool) → (found == port) ≡ here → (own == wide) ≡ same
          → takes_effect plan.layout link found ≡ seen
          → (if here then (if same then gains act port there own done else []) else []) ≡ []
      go false same seen here_is same_is seen_is = refl
      go true false seen here_is same_is seen_is = refl
      go true true false here_is same_is seen_is = none done (unseen seen_is)
      go true true true here_is same_is seen_is =
          let side : same_side (side_of link) (side_for plan.layout port) ≡ true =
          ap (λ p. same_side (side_of link) (side_for plan.layout p)) (sym (eqb-true found port here_is))
          ∙ sym (takes plan.layout link found has watched at_port) ∙ seen_is in
          absurd (true_or_false (same_side (side_of link) (side_for plan.layout port) && (own == wide))
          (rw (side, same_is) refl) other)
