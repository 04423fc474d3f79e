-- Tables that differ in numbers, in counts and in who has left; and the step by which a master leaves.
use Rattle.std.proofs.Common.{◌≡◌, ◌≢◌, ℕ, ◌+◌, ◌<◌, true, false, List, ◌++◌, map, length, get_or, set, sym, refl, ap, subst, ◌∙◌, arith, get_or-set_same, get_or-set_other, length-set, Some, slice_get}
use mathlib.Core.Option as maybe
use mathlib.Core.Option.{some, none}
use Rattle.atomic_table.specs.Table.{step, keeps, Allows, stepped}
use Rattle.tl_types.specs.Request.{Request}
use Rattle.tl_types.specs.Response.{Response}
use Rattle.tl_types.specs.declared.trace.Entry.{Entry}
use Rattle.tl_ops.specs.History.{IsLawfulHistory}
use Rattle.tl_slots.specs.declared.phase.Phase.{Phase}
use Rattle.tl_slots.specs.declared.phase.Phase.TheVariants.{Free}
use Rattle.tl_slots.specs.declared.event.Event.TheVariants.{Leave}
use Rattle.tl_slots.specs.Word.{word}
use Rattle.tl_rule.specs.declared.view.About.{About}
use Rattle.tl_rule.specs.declared.view.Held.TheVariants.{Nothing}
use Rattle.tl_rule.specs.declared.view.Hands.{Hands}
use Rattle.tl_rule.specs.declared.view.View.TheVariants.{Master}
use Rattle.tl_rule.specs.Record.{Berth}
use Rattle.tl_rule.specs.Serving.{ask_at, HasDistinctSlots}
use Rattle.tl_rule.specs.Views.{reset_of, hands, desk, held, served, no_hands, gone_hands}
use Rattle.tl_rule.specs.Rule.{Parts, Names, InPhase, HasShape, Lawful, Fits, phase, views_of, table_of}
use Rattle.tl_rule.specs.Events.{state_of, IsOneEvent}
use Rattle.std.proofs.Common.{Any}
use Rattle.tl_slots.specs.Phase.{owner_of}
use Rattle.tl_slots.proofs.Steps.{leave_is_allowed}
use Rattle.tl_rule.specs.Moves.{Leaves, OwnsAll}
use Rattle.tl_rule.proofs.Tables.{set_left, set_leaf}
use Rattle.tl_rule.proofs.Lists.{set_elim, any_default}
use Rattle.tl_rule.proofs.Frames.{Same, stays, quiet}
use Rattle.tl_rule.proofs.Facts.{Known, known, owner_holds}
use Rattle.tl_rule.proofs.Own.{all_own}
use Rattle.tl_rule.proofs.Allowing.{fits_after, event_told, there, present, stores}

-- c and d differ at most in numbers, counts and who has left
pub record Alike (c d : Parts) : Type 0 where
  pub phases : d.phases ≡ c.phases
  pub homes : d.homes ≡ c.homes
  pub held_same : (n i : ℕ) → held d.masters n i ≡ held c.masters n i
  pub got_same : (n : ℕ) → (hands d.masters n).got ≡ (hands c.masters n).got
  pub serving_same : (p : ℕ) → (desk d.ports p).serving ≡ (desk c.ports p).serving
  pub list_same : (p : ℕ) → (desk d.ports p).list ≡ (desk c.ports p).list

module _ (a : About) (c d : Parts) (L : Lawful a c) (A : Alike c d) where
  phase_same : (j : ℕ) → phase d j ≡ phase c j
  phase_same j = ap (λ (l : List Phase). get_or l j Free) A.phases

  home_same : (j : ℕ) → get_or d.homes j none ≡ get_or c.homes j none
  home_same j = ap (λ (l : List (maybe.Option Berth)). get_or l j none) A.homes

  served_same : (p j : ℕ) → served d.ports p j ≡ served c.ports p j
  served_same p j = ap (λ (l : List (ℕ × Request)). ask_at l j) (A.serving_same p)

  same : (j : ℕ) → Same c d j
  same j = record {
    held_same = λ n. A.held_same n j;
    home_same = home_same j;
    served_same = λ p. served_same p j;
    lists = λ p k x at. ap (λ (l : List (Request × Response)). slice_get l k) (A.list_same p) ∙ at;
    longer = λ n. let e = ap (λ (l : List Entry). length l) (A.got_same n) in omega arith;
    gots = λ n k _. ap (λ (l : List Entry). slice_get l k) (A.got_same n);
  }

  pub alike : HasShape a d → ((m : ℕ) → get_or d.left m false ≡ (hands d.masters m).left)
      → ((m i : ℕ) → (hands d.masters m).left ≡ true → held d.masters m i ≡ Nothing) → Lawful a d
  alike shape leaving gone = record {
    shape = shape;
    leaving = leaving;
    gone = gone;
    slots = λ j lt. subst (InPhase a d j) (sym (phase_same j)) (stays a c d j (same j) (phase c j) (L.slots j lt));
    hand = λ m i h. subst (λ f. Names f m) (sym (phase_same i)) (L.hand m i (λ e. h (A.held_same m i ∙ e)));
    service = λ p i q e. let t = L.service p i q (sym (served_same p i) ∙ e) in (t.0, phase_same i ∙ t.1);
    serves_once = λ p. subst HasDistinctSlots (sym (A.serving_same p)) (L.serves_once p);
    sources = λ m i j p p' n n' q q' e f. L.sources m i j p p' n n' q q' (sym (A.held_same m i) ∙ e)
        (sym (A.held_same m j) ∙ f);
    block = λ m i p n q e. L.block m i p n q (sym (A.held_same m i) ∙ e);
    places = quiet a c d (record {
      same_lists = A.list_same;
      same_gots = A.got_same;
      forth = λ j m p e. (phase_same j ∙ e, home_same j);
      back = λ j m p e. (sym (phase_same j) ∙ e, home_same j);
    }) L.places;
    lawful = λ p. subst (λ l. IsLawfulHistory (reset_of a p) l) (sym (A.list_same p)) (L.lawful p);
  }

-- ---- a master leaves

module _ (a : About) (c : Parts) (L : Lawful a c) (id : ℕ) (v : Hands) (K : Known a c L id v)
    (carried : List (ℕ × Berth))
    (staying : v.left ≡ false) (empty : (j : ℕ) → get_or v.hand j Nothing ≡ Nothing) where
  abbrev w : Hands
  w = gone_hands (hands c.masters v.number)

  abbrev left_parts : Parts
  left_parts = record {
    phases = c.phases;
    left = set c.left v.number true;
    homes = c.homes;
    masters = set c.masters v.number w;
    ports = c.ports;
  }

  by : (P : ℕ → Hands → Type 0) → P v.number w → ((n : ℕ) → n ≢ v.number → P n (hands c.masters n)) → (n : ℕ)
      → P n (hands left_parts.masters n)
  by = set_elim c.masters v.number w no_hands K.near

  pub empty_here : (j : ℕ) → held c.masters v.number j ≡ Nothing
  empty_here j = ap (λ (x : Hands). get_or x.hand j Nothing) K.is ∙ empty j

  left_alike : Alike c left_parts
  left_alike = record {
    phases = refl;
    homes = refl;
    held_same = λ n j. by (λ n y. get_or y.hand j Nothing ≡ held c.masters n j) refl (λ n _. refl) n;
    got_same = by (λ n y. y.got ≡ (hands c.masters n).got) refl (λ n _. refl);
    serving_same = λ p. refl;
    list_same = λ p. refl;
  }

  left_shape : HasShape a left_parts
  left_shape = let e = length-set c.masters v.number w in let t = L.shape in record {
    limits = t.limits;
    owners = t.owners;
    phases = t.phases;
    homes = t.homes;
    left = length-set c.left v.number true ∙ t.left;
    masters = let k = t.masters in omega arith;
    ports = t.ports;
    dealt = λ lt. t.dealt (omega arith);
    master_views = λ n lt. by (λ n y. n < length c.masters → (y.number ≡ n) × (y.about ≡ a) × (length y.hand ≡ a.slots))
        (t.master_views v.number) (λ n _. t.master_views n) n (omega arith);
    port_views = t.port_views;
  }

  left_lawful : Lawful a left_parts
  left_lawful = alike a c left_parts L left_alike left_shape
      (by (λ n y. get_or (set c.left v.number true) n false ≡ y.left)
      (get_or-set_same c.left v.number true false (there a c L v.number K.near))
      (λ n ne. get_or-set_other c.left v.number n true false ne ∙ L.leaving n))
      (λ n j. by (λ n y. y.left ≡ true → get_or y.hand j Nothing ≡ Nothing) (λ _. empty_here j) (λ n _. L.gone n j) n)

  -- the master owns no slot
  owns_none : Any (λ f. owner_of f ≡ Some v.number) c.phases → ⊥
  owns_none t = let n = L.shape.phases in let lt : t.0 < a.slots = (let l = t.2 in omega arith) in
      let here : phase c t.0 ≡ t.1 = any_default c.phases t.0 Free t.1 t.2 ∙ t.3 in
      owner_holds a c L v.number t.0 lt (ap owner_of here ∙ t.4) (empty_here t.0)

  pub leave_event : IsOneEvent a (Leave v.number) (table_of a c)
      (stepped (table_of a c) (a.slots + v.number) 1 id carried (Master (gone_hands v)) keeps)
  leave_event = let m = v.number in
      let words = set_leaf c.phases _ (a.slots + m) m 1 (let e = L.shape.phases in omega arith)
      ∙ ap (λ (l : List ℕ). map word c.phases ++ l) (set_left c.left m) in
      let views = K.sets (gone_hands v) ∙ ap (λ (y : Hands). views_of a (set c.masters m (gone_hands y)) c.ports)
      (sym K.is) in record {
        before = c;
        after = left_parts;
        was = refl;
        is = λ z. record { words = words z; homes = c.homes; views = views z };
        lawful_before = L;
        lawful_after = left_lawful;
        allowed = leave_is_allowed (state_of a c) m
            (present a c L m K.near (ap (λ (x : Hands). x.left) K.is ∙ staying)) owns_none;
        leaves = refl;
      }

pub leaves : (a : About) (slots id : ℕ) (v : Hands) (carried : List (ℕ × Berth)) (i : ℕ) → v.left ≡ false
    → ((j : ℕ) → get_or v.hand j Nothing ≡ Nothing) → i ≡ slots + v.number
    → Allows (Fits a) slots id (Master v, carried) i (λ _. 1)
    (λ _. Leaves (step slots i 1 0 none) (Master v, carried) 1)
leaves a slots id v carried i staying empty is =
    stores a slots id (Master v, carried) i 1 (Leaves (step slots i 1 0 none) (Master v, carried) 1)
    (λ c L wide at. let K = known a c L id v at in let t = L.shape.master_views v.number K.near in
    let E = leave_event a c L id v K carried staying empty in let there : a.slots + v.number ≡ i = omega arith in (
      Master (gone_hands v),
      keeps,
      tt,
      subst (λ (n : ℕ). Fits a (stepped (table_of a c) n 1 id carried (Master (gone_hands v)) keeps)) there
          (fits_after a (Leave v.number) _ _ E),
      record {
        seat = refl;
        owns_all = λ p. subst (λ (w : Hands). OwnsAll w p) K.is
            (all_own a c L v.number p t.1 t.0 (empty_here a c L id v K carried staying empty));
        event = event_told a v.about (Leave v.number) _ _ id _ _ K.about at refl E;
      },
    ))
