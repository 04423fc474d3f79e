-- A step of a port, which changes one slot, the list and what is served at that slot, keeps what the rule says of all
-- else.
use Rattle.std.proofs.Common.{◌≡◌, ◌≢◌, ℕ, ◌<◌, List, length, set, sym, refl, ap, subst, ◌∙◌, arith, get_or-set_same, get_or-set_other, length-set, Some, slice_get}
use mathlib.Core.Option as maybe
use mathlib.Core.Option.{some, none}
use mathlib.Core.Logic.{dite}
use native.Mathlib.Decide.{ℕ_discrete}
use Rattle.tl_types.specs.Request.{Request}
use Rattle.tl_types.specs.Response.{Response}
use Rattle.tl_ops.specs.History.{IsLawfulHistory}
use Rattle.tl_slots.specs.declared.phase.Phase.{Phase}
use Rattle.tl_slots.specs.declared.phase.Phase.TheVariants.{Free, Serving, Answered}
use Rattle.tl_rule.specs.declared.view.About.{About}
use Rattle.tl_rule.specs.declared.view.Held.TheVariants.{Nothing}
use Rattle.tl_rule.specs.declared.view.Desk.{Desk}
use Rattle.tl_rule.specs.Record.{Berth}
use Rattle.tl_rule.specs.Serving.{ask_at, HasDistinctSlots}
use Rattle.tl_rule.specs.Views.{reset_of, desk, held, served, no_desk, with_serving}
use Rattle.tl_rule.specs.Rule.{Parts, Names, InPhase, Places, HasShape, Lawful, phase}
use Rattle.tl_rule.proofs.Lists.{set_elim}
use Rattle.tl_rule.proofs.Frames.{Same, stays, quiet}

abbrev pub port_moves : Parts → ℕ → Phase → maybe.Option Berth → ℕ → List (ℕ × Request) → List (Request × Response)
    → Parts
port_moves c i f h p now list =
    record {
      phases = set c.phases i f;
      left = c.left;
      homes = set c.homes i h;
      masters = c.masters;
      ports = set c.ports p (with_serving (desk c.ports p) now list);
    }

module _ (ps : List Desk) (p : ℕ) (now : List (ℕ × Request)) (list : List (Request × Response))
    (near : p < length ps) where
  abbrev ports_after : List Desk
  ports_after = set ps p (with_serving (desk ps p) now list)

  pub desk_elim : (P : ℕ → Desk → Type 0) → P p (with_serving (desk ps p) now list)
      → ((n : ℕ) → n ≢ p → P n (desk ps n)) → (n : ℕ) → P n (desk ports_after n)
  desk_elim = set_elim ps p (with_serving (desk ps p) now list) no_desk near

  desk_here : desk ports_after p ≡ with_serving (desk ps p) now list
  desk_here = get_or-set_same ps p (with_serving (desk ps p) now list) no_desk near

  pub served_here : (i : ℕ) → served ports_after p i ≡ ask_at now i
  served_here i = ap (λ (u : Desk). ask_at u.serving i) desk_here

  pub list_here : (desk ports_after p).list ≡ list
  list_here = ap (λ (u : Desk). u.list) desk_here

-- what a port's step has to show: it serves other slots as before, and the slot's new phase
pub record PortStep (a : About) (c : Parts) (i : ℕ) (f : Phase) (h : maybe.Option Berth) (p : ℕ)
    (now : List (ℕ × Request)) (list : List (Request × Response)) : Type 0 where
  pub near : p < length c.ports
  pub inside : i < a.slots
  pub same_master : (n : ℕ) → Names (phase c i) n → Names f n
  pub mine : (n q : ℕ) → phase c i ≡ Serving n q → q ≡ p
  pub others : (j : ℕ) → j ≢ i → ask_at now j ≡ served c.ports p j
  pub names : (ask : Request) → ask_at now i ≡ Some ask → (n : ℕ) × (f ≡ Serving n p)
  pub once : HasDistinctSlots now
  pub grows : (k : ℕ) (x : Request × Response) → slice_get (desk c.ports p).list k ≡ Some x → slice_get list k ≡ Some x
  pub lawful : IsLawfulHistory (reset_of a p) list
  pub here : InPhase a (port_moves c i f h p now list) i f

module _ (a : About) (c : Parts) (i : ℕ) (f : Phase) (h : maybe.Option Berth) (p : ℕ) (now : List (ℕ × Request))
    (list : List (Request × Response)) (L : Lawful a c) (S : PortStep a c i f h p now list) where
  abbrev e : Parts
  e = port_moves c i f h p now list

  in_slots : i < length c.phases
  in_slots = let e = L.shape.phases in let l = S.inside in omega arith

  pub port_phase_here : phase e i ≡ f
  port_phase_here = get_or-set_same c.phases i f Free in_slots

  pub port_phase_else : (j : ℕ) → j ≢ i → phase e j ≡ phase c j
  port_phase_else j ne = get_or-set_other c.phases i j f Free ne

  pub port_same : (j : ℕ) → j ≢ i → Same c e j
  port_same j ne = record {
    held_same = λ n. refl;
    home_same = get_or-set_other c.homes i j h none ne;
    served_same = desk_elim c.ports p now list S.near (λ n u. ask_at u.serving j ≡ served c.ports n j) (S.others j ne)
        (λ n _. refl);
    lists = desk_elim c.ports p now list S.near
        (λ n u. (k : ℕ) (x : Request × Response) → slice_get (desk c.ports n).list k ≡ Some x
        → slice_get u.list k ≡ Some x) S.grows (λ n _ k x at. at);
    longer = λ n. omega arith;
    gots = λ n k lt. refl;
  }

  port_slots_kept : (j : ℕ) → j < a.slots → InPhase a e j (phase e j)
  port_slots_kept j lt = dite (ℕ_discrete j i)
      (λ same. subst (λ (k : ℕ). InPhase a e k (phase e k)) (sym same)
      (subst (InPhase a e i) (sym port_phase_here) S.here))
      (λ ne. subst (InPhase a e j) (sym (port_phase_else j ne))
      (stays a c e j (port_same j ne) (phase c j) (L.slots j lt)))

  port_hand_kept : (n j : ℕ) → held c.masters n j ≢ Nothing → Names (phase e j) n
  port_hand_kept n j some_held = let was = L.hand n j some_held in dite (ℕ_discrete j i)
      (λ same. subst (λ (k : ℕ). Names (phase e k) n) (sym same)
      (subst (λ g. Names g n) (sym port_phase_here)
      (S.same_master n (subst (λ (k : ℕ). Names (phase c k) n) same was))))
      (λ ne. subst (λ g. Names g n) (sym (port_phase_else j ne)) was)

  -- another slot is served as before
  service_else : (n j : ℕ) (ask : Request) → j ≢ i → served c.ports n j ≡ Some ask → (k : ℕ) × (phase e j ≡ Serving k n)
  service_else n j ask ne is = let t = L.service n j ask is in (t.0, port_phase_else j ne ∙ t.1)

  port_service_kept : (n j : ℕ) (ask : Request) → served e.ports n j ≡ Some ask → (k : ℕ) × (phase e j ≡ Serving k n)
  port_service_kept n j ask =
      desk_elim c.ports p now list S.near (λ n u. ask_at u.serving j ≡ Some ask → (k : ℕ) × (phase e j ≡ Serving k n))
      (λ is. dite (ℕ_discrete j i)
      (λ same. let t = S.names ask (subst (λ (z : ℕ). ask_at now z ≡ Some ask) same is) in
      (t.0, subst (λ (z : ℕ). phase e z ≡ Serving t.0 p) (sym same) (port_phase_here ∙ t.1)))
      (λ ne. service_else p j ask ne (sym (S.others j ne) ∙ is)))
      (λ n far is. dite (ℕ_discrete j i)
      (λ same. let t = L.service n j ask is in
      absurd (far (S.mine t.0 n (subst (λ (z : ℕ). phase c z ≡ Serving t.0 n) same t.1))))
      (λ ne. service_else n j ask ne is)) n

  port_shape_kept : HasShape a e
  port_shape_kept = let z = length-set c.ports p (with_serving (desk c.ports p) now list) in let t = L.shape in record {
    limits = t.limits;
    owners = t.owners;
    phases = length-set c.phases i f ∙ t.phases;
    homes = length-set c.homes i h ∙ t.homes;
    left = t.left;
    masters = t.masters;
    ports = let k = t.ports in omega arith;
    dealt = λ lt. let k = t.dealt lt in omega arith;
    master_views = t.master_views;
    port_views = λ n lt. desk_elim c.ports p now list S.near
        (λ n v. n < length c.ports → (v.number ≡ n) × (v.about ≡ a)) (t.port_views p) (λ n _. t.port_views n) n
        (omega arith);
  }

  pub port_moved : Places a e → Lawful a e
  port_moved places = record {
    shape = port_shape_kept;
    leaving = L.leaving;
    gone = L.gone;
    slots = port_slots_kept;
    hand = port_hand_kept;
    service = port_service_kept;
    serves_once = desk_elim c.ports p now list S.near (λ n u. HasDistinctSlots u.serving) S.once
        (λ n _. L.serves_once n);
    sources = L.sources;
    block = L.block;
    places = places;
    lawful = desk_elim c.ports p now list S.near (λ n u. IsLawfulHistory (reset_of a n) u.list) S.lawful
        (λ n _. L.lawful n);
  }

  pub quiet_port : list ≡ (desk c.ports p).list → ((n p : ℕ) → phase c i ≢ Answered n p)
      → ((n p : ℕ) → f ≢ Answered n p) → Places a c → Places a e
  quiet_port same_list was is = quiet a c e (record {
    same_lists = desk_elim c.ports p now list S.near (λ n u. u.list ≡ (desk c.ports n).list) same_list (λ n _. refl);
    same_gots = λ n. refl;
    forth = λ j n p e. dite (ℕ_discrete j i) (λ at. absurd (was n p (subst (λ (k : ℕ). phase c k ≡ Answered n p) at e)))
        (λ ne. (port_phase_else j ne ∙ e, get_or-set_other c.homes i j h none ne));
    back = λ j n q at_e. dite (ℕ_discrete j i)
        (λ at. absurd (is n q (sym port_phase_here ∙ subst (λ (k : ℕ). phase e k ≡ Answered n q) at at_e)))
        (λ ne. (sym (port_phase_else j ne) ∙ at_e, get_or-set_other c.homes i j h none ne));
  })
