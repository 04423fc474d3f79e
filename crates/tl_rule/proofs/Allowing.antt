-- How a step is shown to keep the rule: on a table that is written as parts, and where it changes something.
use Rattle.std.proofs.Common.{◌≡◌, ℕ, ◌<◌, eqb, false, List, length, get_or, set, sym, refl, ap, subst, ◌∙◌, arith, Some, slice_get}
use mathlib.Core.Option as maybe
use mathlib.Core.Option.{some, none}
use lib.ListN.{get_elem?}
use prog.Atomic.{either}
use Rattle.atomic_table.specs.Table.{State, step, Act, keeps, Valid, Allows, carried_after, stepped, homes_after}
use Rattle.tl_types.specs.Request.{Request}
use Rattle.tl_types.specs.Response.{Response}
use Rattle.tl_types.specs.declared.trace.Entry.{Entry}
use Rattle.tl_slots.specs.declared.phase.Phase.{Phase}
use Rattle.tl_slots.specs.declared.phase.Phase.TheVariants.{Free}
use Rattle.tl_slots.specs.declared.event.Event.{Event}
use Rattle.tl_slots.specs.Machine.{IsAllowed, state_after}
use Rattle.tl_slots.specs.Word.{word}
use Rattle.tl_rule.specs.declared.view.About.{About}
use Rattle.tl_rule.specs.declared.view.Held.{Held}
use Rattle.tl_rule.specs.declared.view.Hands.{Hands}
use Rattle.tl_rule.specs.declared.view.Desk.{Desk}
use Rattle.tl_rule.specs.declared.view.View.{View}
use Rattle.tl_rule.specs.declared.view.View.TheVariants.{Master, Port}
use Rattle.tl_rule.specs.Record.{Berth}
use Rattle.tl_rule.specs.Views.{hands, with_hand, with_serving}
use Rattle.tl_rule.specs.Rule.{Parts, Lawful, Fits, phase, views_of, table_of}
use Rattle.tl_rule.specs.Events.{state_of, IsOneEvent, IsEventOf}
use lib.Seq.{set-get_or}
use Rattle.atomic_table.proofs.Lists.{set_again, exchanged}
use Rattle.tl_rule.specs.Moves.{Seat, Won, Tried}
use Rattle.tl_rule.proofs.Tables.{set_word}
use Rattle.tl_rule.proofs.Lists.{get_here}
use Rattle.tl_rule.proofs.MasterFrame.{master_moves}
use Rattle.tl_rule.proofs.PortFrame.{port_moves}
use Rattle.tl_rule.proofs.Facts.{Known, KnownPort}

-- it is enough to look at tables that are written as parts
pub by_parts : (a : About) (P : State Berth View → Type 0) → ((c : Parts) → Lawful a c → P (table_of a c))
    → (s : State Berth View) → Fits a s → P s
by_parts a P prove s F = subst P (sym F.is) (prove F.parts F.lawful)

-- what an event leaves fits
pub fits_after : (a : About) (event : Event) (s t : State Berth View) → IsOneEvent a event s t → Fits a t
fits_after a event s t E = record { parts = E.after; is = E.is; lawful = E.lawful_after }

-- what a seat is told of the event, in what its own view knows of what never changes
pub event_told : (a known : About) (event : Event) (s t : State Berth View) (id : ℕ) (v w : View) → known ≡ a
    → get_elem? s.views id ≡ some v → t.views ≡ set s.views id w → IsOneEvent a event s t → IsEventOf known event v w
event_told a known event s t id v w same had has one =
    subst (λ (z : About). IsEventOf z event v w) (sym same)
    (record { before = s; after = t; seat = id; had = had; has = has; one = one })

-- ---- what is enough for an event to be allowed

module _ (a : About) (c : Parts) (L : Lawful a c) where
  pub found : (i : ℕ) (f : Phase) → i < a.slots → phase c i ≡ f → slice_get c.phases i ≡ Some f
  found i f lt e = let n = L.shape.phases in get_here c.phases i Free (omega arith) ∙ ap Some e

  pub there : (m : ℕ) → m < length c.masters → m < length c.left
  there m lt = let n = L.shape.left in let k = L.shape.masters in omega arith

  pub present : (m : ℕ) → m < length c.masters → (hands c.masters m).left ≡ false → slice_get c.left m ≡ Some false
  present m lt e = get_here c.left m false (there m lt) ∙ ap Some (L.leaving m ∙ e)

-- ---- a step, on the table

-- a step that changes nothing keeps any rule
pub unmoved : (holds : State Berth View → Type 0) (s : State Berth View) (i id : ℕ) (m : View)
    (carried : List (ℕ × Berth)) → holds s → get_elem? s.views id ≡ some m
    → holds (stepped s i (get_or s.words i 0) id carried m keeps)
unmoved holds s i id m carried h at =
    subst holds (λ k. record {
      words = sym (set-get_or s.words i 0) k;
      homes = s.homes;
      views = sym (set_again s.views id m at) k;
    }) h

-- a master's step
pub master_step : (a : About) (c : Parts) (i id : ℕ) (v : Hands) (f : Phase) (h : maybe.Option Berth) (x : Held)
    (got : List Entry) (carried : List (ℕ × Berth)) (act : Act Berth) (event : Event)
    → (L : Lawful a c) → Known a c L id v → i < length c.phases → homes_after c.homes carried act ≡ set c.homes i h
    → Lawful a (master_moves c i f h v.number x got)
    → IsAllowed (state_of a c) event → state_of a (master_moves c i f h v.number x got) ≡ state_after
    (state_of a c) event
    → IsOneEvent a event (table_of a c) (stepped (table_of a c) i (word f) id carried
    (Master (with_hand v i x got)) act)
master_step a c i id v f h x got carried act event L K near homes M allowed leaves =
    let words = set_word c.phases _ i f near in
    let views = K.sets (with_hand v i x got)
    ∙ ap (λ (y : Hands). views_of a (set c.masters v.number (with_hand y i x got)) c.ports) (sym K.is) in record {
      before = c;
      after = master_moves c i f h v.number x got;
      was = refl;
      is = λ t. record { words = words t; homes = homes t; views = views t };
      lawful_before = L;
      lawful_after = M;
      allowed = allowed;
      leaves = leaves;
    }

-- a port's step
pub port_step : (a : About) (c : Parts) (i id : ℕ) (u : Desk) (f : Phase) (h : maybe.Option Berth)
    (now : List (ℕ × Request)) (list : List (Request × Response)) (carried : List (ℕ × Berth)) (act : Act Berth)
    (event : Event)
    → (L : Lawful a c) → KnownPort a c L id u → i < length c.phases → homes_after c.homes carried act ≡ set c.homes i h
    → Lawful a (port_moves c i f h u.number now list)
    → IsAllowed (state_of a c) event → state_of a (port_moves c i f h u.number now list) ≡ state_after
    (state_of a c) event
    → IsOneEvent a event (table_of a c) (stepped (table_of a c) i (word f) id carried
    (Port (with_serving u now list)) act)
port_step a c i id u f h now list carried act event L K near homes M allowed leaves =
    let words = set_word c.phases _ i f near in
    let views = K.sets (with_serving u now list)
    ∙ ap (λ (w : Desk). views_of a c.masters (set c.ports u.number (with_serving w now list))) (sym K.is) in
    record {
      before = c;
      after = port_moves c i f h u.number now list;
      was = refl;
      is = λ t. record { words = words t; homes = homes t; views = views t };
      lawful_before = L;
      lawful_after = M;
      allowed = allowed;
      leaves = leaves;
    }

-- ---- what a step owes

-- where the word becomes n, the seat has a view and an act that keep the rule, and `then` holds of the seat after
abbrev pub Goes : About → ℕ → ℕ → Seat → (Seat → Type 0) → State Berth View → ℕ → Type 0
Goes a i id m then s n =
    (w : View) × (act : Act Berth) × Valid s.homes m.1 act × Fits a (stepped s i n id m.1 w act)
    × then (w, carried_after m.1 act)

module _ (a : About) (slots id : ℕ) (m : Seat) (i : ℕ) where
  -- a compare-exchange has to keep the rule where it finds the word that it looks for
  pub tries : (old new : ℕ) (said : maybe.Option Berth) (won : Won)
      → ((c : Parts) → Lawful a c → a.slots ≡ slots → get_elem? (table_of a c).views id ≡ some m.0
      → get_or (table_of a c).words i 0 ≡ old → Goes a i id m (won (step slots i old new said) m)
      (table_of a c) new)
      → Allows (Fits a) slots id m i (λ n. either (eqb n old) new n) (Tried won (step slots i old new said) m)
  tries old new said won hit s h wide at _ =
      by_parts a (λ s. length s.homes ≡ slots → get_elem? s.views id ≡ some m.0
      → Goes a i id m (Tried won (step slots i old new said) m (get_or s.words i 0)) s
      (either (eqb (get_or s.words i 0) old) new (get_or s.words i 0)))
      (λ c L wide at. let t = table_of a c in
      exchanged (get_or t.words i 0) old new (Goes a i id m
      (Tried won (step slots i old new said) m (get_or t.words i 0)) t)
      (λ e. let g = hit c L (sym L.shape.homes ∙ wide) at e in
      (g.0, g.1, g.2, g.3, ((λ _. g.4), λ miss. absurd (miss e))))
      (λ miss. (
        m.0,
        keeps,
        tt,
        unmoved (Fits a) t i id m.0 m.1 (record { parts = c; is = refl; lawful = L }) at,
        ((λ e. absurd (miss e)), λ _. refl),
      )))
      s h wide at

  pub stores : (new : ℕ) (Told : Seat → Type 0)
      → ((c : Parts) → Lawful a c → a.slots ≡ slots → get_elem? (table_of a c).views id ≡ some m.0
      → Goes a i id m Told (table_of a c) new)
      → Allows (Fits a) slots id m i (λ _. new) (λ _. Told)
  stores new Told keep s h wide at _ =
      by_parts a (λ s. length s.homes ≡ slots → get_elem? s.views id ≡ some m.0 → Goes a i id m Told s new)
      (λ c L wide at. keep c L (sym L.shape.homes ∙ wide) at) s h wide at
