-- The steps that accept a request and answer it, and what every table that fits says of a port.
use Rattle.std.proofs.Common.{◌≡◌, ◌≢◌, ℕ, ◌/◌, ◌%◌, ◌<◌, ◌≤◌, eqb, List, [], ◌∷◌, ◌++◌, length, sym, refl, ap, subst, ◌∙◌, arith, ⊎_elim, get_or-set_same, length-set, Some, None, slice_get}
use mathlib.Core.Option as maybe
use mathlib.Core.Option.{some, none}
use prog.Atomic.{either}
use Rattle.atomic_table.specs.Table.{step, takes, Allows, stepped}
use Rattle.tl_types.specs.Request.{Request}
use Rattle.tl_types.specs.Response.{Response}
use Rattle.tl_ops.specs.History.{IsLawfulHistory}
use Rattle.tl_slots.specs.declared.phase.Phase.{Phase}
use Rattle.tl_slots.specs.declared.phase.Phase.TheVariants.{Free, Posted, Serving, Answered}
use Rattle.tl_slots.specs.declared.event.Event.TheVariants.{Accept}
use Rattle.tl_slots.specs.Word.{word}
use Rattle.tl_slots.proofs.Steps.{move_is_allowed}
use Rattle.tl_rule.specs.declared.view.About.{About}
use Rattle.tl_rule.specs.declared.view.Held.TheVariants.{Sent}
use Rattle.tl_rule.specs.declared.view.Desk.{Desk}
use Rattle.tl_rule.specs.declared.view.View.TheVariants.{Port}
use Rattle.tl_rule.specs.Record.{SlotRecord, Berth}
use Rattle.tl_rule.specs.Serving.{ask_at, HasDistinctSlots}
use Rattle.tl_rule.specs.Views.{Owns, reset_of, desk, held, served, no_desk, with_serving}
use Rattle.tl_rule.specs.Rule.{Parts, Names, Asked, InPhase, Lawful, Fits, phase, table_of}
use Rattle.tl_rule.specs.Events.{state_of, IsOneEvent, IsEventOf}
use Rattle.tl_slots.specs.declared.word.TheConstants.{MAX_AGENT}
use Rattle.tl_rule.specs.Seen.{IsOfMasters}
use Rattle.tl_rule.specs.Moves.{Tried, Accepts, IsLawfulDesk}
use Rattle.tl_rule.proofs.Tables.{of_get}
use Rattle.tl_rule.proofs.Serving.{serves_few, push_here, push_else, push_once}
use Rattle.tl_rule.proofs.PortFrame.{port_moves, PortStep, port_moved, served_here, quiet_port}
use Rattle.tl_rule.proofs.Facts.{KnownPort, known_port, shown, none_or, one_owner, phase_inside, some_master, low_port}
use Rattle.tl_rule.proofs.Allowing.{fits_after, event_told, found, there, port_step, tries}

-- a slot in this phase is there
pub serving_inside : (a : About) (c : Parts) (L : Lawful a c) (i m p : ℕ) → phase c i ≡ Serving m p → i < a.slots
serving_inside a c L i m p ph = let n = L.shape.phases in
    let z = phase_inside c.phases i (λ e. absurd (let clash : Free ≡ Serving m p = sym e ∙ ph in cc)) in omega arith

-- what a port serves at a slot was asked by the master that the phase names
pub asked_there : (a : About) (c : Parts) (L : Lawful a c) (p i : ℕ) (ask : Request) → served c.ports p i ≡ Some ask
    → (m : ℕ) × (known : ℕ) × (phase c i ≡ Serving m p) × (held c.masters m i ≡ Sent ask p known)
asked_there a c L p i ask is = let t = L.service p i ask is in
    let h = subst (InPhase a c i) t.1 (L.slots i (serving_inside a c L i t.0 p t.1)) in
    let same : h.asked.ask ≡ ask =
    (let z = h.serves in cc) in (t.0, h.asked.known, t.1, h.asked.sent ∙ (λ z. Sent (same z) p h.asked.known))

-- a port's view in itself
pub desk_law : (a : About) (c : Parts) (L : Lawful a c) (p : ℕ) → p < length c.ports → IsLawfulDesk (desk c.ports p)
desk_law a c L p lt = let v = L.shape.port_views p lt in
    let there = λ (i : ℕ) (ask : Request) (is : served c.ports p i ≡ Some ask).
    (let t = asked_there a c L p i ask is in let l = serving_inside a c L i t.0 p t.2 in
    subst (λ (z : About). i < z.slots) (sym v.1) l) in record {
      number = let l = (low_port a c L p lt).0 in let e = v.0 in let f = ap (λ (z : About). z.ports) v.1 in omega arith;
      slots = L.serves_once p;
      inside = there;
      few = serves_few (desk c.ports p).about.slots (desk c.ports p).serving (L.serves_once p) there;
      sources = λ i j ask other is at same. let t = asked_there a c L p i ask is in
          let s = asked_there a c L p j other at in
          let one = one_owner a L.shape.owners s.0 t.0 other.source ask.source (L.block s.0 j p s.1 other s.3)
          (L.block t.0 i p t.1 ask t.3) (sym same) in
          L.sources t.0 i j p p t.1 s.1 ask other t.3
          (subst (λ (n : ℕ). held c.masters n j ≡ Sent other p s.1) one s.3) same;
      lawful = subst (λ (z : About). IsLawfulHistory (reset_of z (desk c.ports p).number) (desk c.ports p).list)
          (sym v.1) (subst (λ (n : ℕ). IsLawfulHistory (reset_of a n) (desk c.ports p).list) (sym v.0) (L.lawful p));
      listed = subst (λ (z : About). IsOfMasters z (desk c.ports p).list) (sym v.1)
          (λ k x at. let t = L.places.placed p k x at in (t.master, t.owns));
      served = λ i ask is. let t =
          asked_there a c L p i ask is in (
            t.0,
            subst (λ (z : About). Owns z t.0 ask.source) (sym v.1)
                (L.block t.0 i p t.1 ask t.3),
          );
    }

module _ (a : About) (c : Parts) (L : Lawful a c) (id i : ℕ) (u : Desk) (K : KnownPort a c L id u)
    (carried : List (ℕ × Berth)) where
  in_phases : i < a.slots → i < length c.phases
  in_phases lt = let e = L.shape.phases in omega arith

  in_homes : i < a.slots → i < length c.homes
  in_homes lt = let e = L.shape.homes in omega arith

  -- the law of the view, once the table is changed
  pub law_after : (f : Phase) (h : maybe.Option Berth) (now : List (ℕ × Request)) (list : List (Request × Response))
      → Lawful a (port_moves c i f h u.number now list) → IsLawfulDesk (with_serving u now list)
  law_after f h now list M = let d = port_moves c i f h u.number now list in
      let is : desk d.ports u.number ≡ with_serving u now list =
      get_or-set_same c.ports u.number (with_serving (desk c.ports u.number) now list) no_desk K.near
      ∙ ap (λ (w : Desk). with_serving w now list) K.is in
      subst IsLawfulDesk is (desk_law a d M u.number
      (let z = K.near in let y = length-set c.ports u.number (with_serving (desk c.ports u.number) now list) in
      omega arith))

  -- ---- accept

  -- the slot was not served before
  pub unserved : (o : ℕ) → phase c i ≡ Posted o u.number → ask_at u.serving i ≡ None
  unserved o ph = ⊎_elim (λ e. e) (λ (t : (ask : Request) × (ask_at u.serving i ≡ Some ask)). let s =
      L.service u.number i t.0 (ap (λ (w : Desk). ask_at w.serving i) K.is ∙ t.1) in
      let z : Posted o u.number ≡ Serving s.0 u.number = sym ph ∙ s.1 in absurd (cc)) (none_or (ask_at u.serving i))

  pub accept_event : (letter : SlotRecord) (o : ℕ) (lt : i < a.slots) (ph : phase c i ≡ Posted o u.number)
      (s : Asked c.masters o i u.number)
      → IsOneEvent a (Accept i o u.number) (table_of a c)
      (stepped (table_of a c) i (word (Serving o u.number)) id carried
      (Port (with_serving u (u.serving ++ (i, s.ask) ∷ []) u.list)) (takes i (Some letter)))
      × IsLawfulDesk (with_serving u (u.serving ++ (i, s.ask) ∷ []) u.list)
  accept_event letter o lt ph s = let p = u.number in let now = u.serving ++ (i, s.ask) ∷ [] in
      let none_there = unserved o ph in
      let near : o < length c.masters = some_owner o s in
      let S : PortStep a c i (Serving o p) none p now u.list = record {
        near = K.near;
        inside = lt;
        same_master = λ n names. subst (λ g. Names g n) ph names;
        mine = λ n r e. absurd (let z : Posted o p ≡ Serving n r = sym ph ∙ e in cc);
        others = λ j ne. push_else u.serving i j s.ask ne ∙ ap (λ (w : Desk). ask_at w.serving j) (sym K.is);
        names = λ _ _. (o, refl);
        once = push_once u.serving i s.ask (subst (λ (w : Desk). HasDistinctSlots w.serving) K.is
            (L.serves_once p)) none_there;
        grows = λ j y at. subst (λ (w : Desk). slice_get w.list j ≡ Some y) K.is at;
        lawful = subst (λ (w : Desk). IsLawfulHistory (reset_of a p) w.list) K.is (L.lawful p);
        here = record {
          asked = s;
          serves = served_here c.ports p now u.list K.near i ∙ push_here u.serving i s.ask none_there;
        };
      } in
      let M = port_moved a c i (Serving o p) none p now u.list L S
      (quiet_port a c i (Serving o p) none p now u.list L S (ap (λ (w : Desk). w.list) (sym K.is))
      (λ n r e. absurd (let z : Posted o p ≡ Answered n r = sym ph ∙ e in cc)) (λ n r e. absurd (cc)) L.places) in (
        port_step a c i id u (Serving o p) none now u.list carried (takes i (Some letter)) (Accept i o p) L K
            (in_phases lt) refl M
            (move_is_allowed (state_of a c) (Accept i o p) _ refl (found a c L i (Posted o p) lt ph)
            (there a c L o near) (low_port a c L p K.near).0 tt) refl,
        law_after (Serving o p) none now u.list M,
      )
    where
      some_owner : (o : ℕ) → Asked c.masters o i u.number → o < length c.masters
      some_owner o s = let t = s.sent in some_master c.masters o i (λ e. absurd (cc))

pub accepts : (a : About) (slots id : ℕ) (u : Desk) (carried : List (ℕ × Berth)) (i old new o : ℕ)
    (said : maybe.Option Berth) → i < slots → o ≤ MAX_AGENT → old ≡ word (Posted o u.number)
    → new ≡ word (Serving o u.number)
    → Allows (Fits a) slots id (Port u, carried) i (λ n. either (eqb n old) new n)
    (Tried Accepts (step slots i old new said) (Port u, carried))
accepts a slots id u carried i old new o said inside small old_is is = let p = u.number in
    tries a slots id (Port u, carried) i old new said Accepts
    (λ c L wide at hit. let K = known_port a c L id u at in let lt : i < a.slots = omega arith in
    let low = (low_port a c L p K.near).1 in
    let ph = shown a c L i (Posted o p) lt (record { owner = small; port = low }) (hit ∙ old_is) in
    let h = subst (InPhase a c i) ph (L.slots i lt) in
    let ask = h.asked.ask in let letter = h.home.letter in let now = u.serving ++ (i, ask) ∷ [] in
    let E = accept_event a c L id i u K carried letter o lt ph h.asked in
    let none_there = unserved a c L id i u K carried o ph in
    let mine = L.block o i p h.asked.known ask h.asked.sent in
    let owner : o ≡ old / 8 % 256 = omega arith in
    let away = λ (j : ℕ) (other : Request) (is_there : ask_at u.serving j ≡ Some other)
    (same : ask.source ≡ other.source).
    let ne : j ≢ i = (λ e. let z = subst (λ (k : ℕ). ask_at u.serving k ≡ Some other) e is_there in absurd (cc)) in
    ne (sym (E.1.sources i j ask other (push_here u.serving i ask none_there)
    (push_else u.serving i j ask ne ∙ is_there) same)) in (
      Port (with_serving u now u.list),
      takes i (Some letter),
      of_get c.homes i (some (Some letter)) none (in_homes a c L id i u K carried lt) h.home.at,
      subst (λ (n : ℕ). Fits a (stepped (table_of a c) i n id carried (Port (with_serving u now u.list))
          (takes i (Some letter)))) (sym is) (fits_after a (Accept i o p) _ _ E.0),
      record {
        letter = letter;
        ask = ask;
        spells = h.home.spells;
        seat = refl;
        free = none_there;
        owner = subst (λ (n : ℕ). Owns u.about n ask.source) owner
            (subst (λ (z : About). Owns z o ask.source) (sym K.about) mine);
        apart = away;
        law = E.1;
        event = subst (λ (n : ℕ). IsEventOf u.about (Accept i n p) (Port u) (Port (with_serving u now u.list))) owner
            (event_told a u.about (Accept i o p) _ _ id _ _ K.about at refl E.0);
      },
    ))
