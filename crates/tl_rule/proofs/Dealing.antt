-- How a table begins, and how seats are dealt.
use Rattle.std.proofs.lemmas.List.Elements.{All-tail}
use Rattle.std.proofs.Common.{◌≡◌, ℕ, zero, suc, ◌+◌, ◌<◌, ◌≤◌, true, false, List, [], ◌∷◌, ◌++◌, map, length, get_or, set, sym, refl, ap, subst, ◌∙◌, arith, length-append, Some, None, All, IsSome}
use mathlib.Core.Option.{some, none}
use lib.ListN.{get_elem?}
use Rattle.tl_slots.specs.declared.phase.Phase.TheVariants.{Free}
use Rattle.tl_slots.specs.Word.{word}
use Rattle.tl_map.specs.Owners.{AreLawfulOwners}
use Rattle.tl_rule.specs.declared.view.About.{About}
use Rattle.tl_rule.specs.declared.view.Held.TheVariants.{Nothing}
use Rattle.tl_rule.specs.declared.view.Hands.{Hands}
use Rattle.tl_rule.specs.declared.view.Desk.{Desk}
use Rattle.tl_rule.specs.declared.view.View.{View}
use Rattle.tl_rule.specs.declared.view.View.TheVariants.{Dealer, Master, Port}
use Rattle.tl_rule.specs.Record.{SlotRecord, Berth}
use Rattle.tl_rule.specs.Views.{hands, desk, held, no_hands, no_desk}
use Rattle.tl_rule.specs.Rule.{Parts, InPhase, Lawful, Fits, views_of, table_of}
use Rattle.std.proofs.Common.{replicate}
use Rattle.std.proofs.lemmas.List.{length-replicate}
use mathlib.Core.Option.{some-injective, some-ne-none}
use Rattle.atomic_table.specs.Table.{Splits, opening}
use Rattle.tl_slots.specs.Machine.{IsInLimits}
use Rattle.tl_rule.specs.Views.{new_hands, new_desk}
use Rattle.tl_rule.specs.Rule.{leave_word}
use Rattle.tl_rule.specs.Dealing.{opening_view, after_master, next_master, after_port, next_port}
use Rattle.tl_rule.proofs.Tables.{past}
use Rattle.tl_rule.proofs.Lists.{end_elim}
use Rattle.tl_rule.proofs.Allowing.{by_parts}
use Rattle.tl_rule.proofs.LeaveStep.{alike}

blank_nothing : (n i : ℕ) → get_or (replicate n Nothing) i Nothing ≡ Nothing
blank_nothing zero i = refl
blank_nothing (suc n) zero = refl
blank_nothing (suc n) (suc i) = blank_nothing n i

no_dealer : (ms : List Hands) (ps : List Desk) (j : ℕ) (a : About) (m p : ℕ)
    → get_elem? (map Master ms ++ map Port ps) j ≡ some (Dealer a m p) → ⊥
no_dealer [] [] j a m p e = some-ne-none (Dealer a m p) (sym e)
no_dealer [] (x ∷ ps) zero a m p e = cc
no_dealer [] (x ∷ ps) (suc j) a m p e = no_dealer [] ps j a m p e
no_dealer (x ∷ ms) ps zero a m p e = cc
no_dealer (x ∷ ms) ps (suc j) a m p e = no_dealer ms ps j a m p e

map-more : {A B : Type 0} (f : A → B) (xs : List A) (x : A) → map f xs ++ f x ∷ [] ≡ map f (xs ++ x ∷ [])
map-more f [] x = refl
map-more f (y ∷ ys) x = ap (λ l. f y ∷ l) (map-more f ys x)

masters_only : (ms : List Hands) (ps : List Desk) (w : Hands) → length ps ≡ 0
    → (map Master ms ++ map Port ps) ++ Master w ∷ [] ≡ map Master (ms ++ w ∷ []) ++ map Port ps
masters_only [] [] w e = refl
masters_only [] (x ∷ ps) w e = absurd (omega arith)
masters_only (x ∷ ms) ps w e = ap (λ (l : List View). Master x ∷ l) (masters_only ms ps w e)

ports_more : (ms : List Hands) (ps : List Desk) (w : Desk)
    → (map Master ms ++ map Port ps) ++ Port w ∷ [] ≡ map Master ms ++ map Port (ps ++ w ∷ [])
ports_more [] ps w = map-more Port ps w
ports_more (x ∷ ms) ps w = ap (λ (l : List View). Master x ∷ l) (ports_more ms ps w)

-- ---- a master's seat

module _ (a : About) (c : Parts) (L : Lawful a c) (more : length c.masters < a.masters) where
  abbrev new_master : Hands
  new_master = new_hands a (length c.masters)

  abbrev with_master : Parts
  with_master = record {
    phases = c.phases;
    left = c.left;
    homes = c.homes;
    masters = c.masters ++ new_master ∷ [];
    ports = c.ports;
  }

  by_master : (P : ℕ → Hands → Type 0) → ((j : ℕ) → j < length c.masters → P j (hands c.masters j))
      → P (length c.masters) new_master → ((j : ℕ) → length c.masters < j → P j no_hands) → (j : ℕ)
      → P j (hands with_master.masters j)
  by_master = end_elim c.masters new_master no_hands

  no_master_yet : (n : ℕ) → length c.masters ≤ n → hands c.masters n ≡ no_hands
  no_master_yet n h = past c.masters n no_hands h

  pub master_lawful : Lawful a with_master
  master_lawful = let long = length-append c.masters (new_master ∷ []) in let t = L.shape in alike a c with_master L
      (record {
        phases = refl;
        homes = refl;
        held_same = λ n j. by_master (λ n y. get_or y.hand j Nothing ≡ held c.masters n j) (λ n _. refl)
            (blank_nothing a.slots j ∙ ap (λ (y : Hands). get_or y.hand j Nothing)
            (sym (no_master_yet (length c.masters) (omega arith))))
            (λ n lt. ap (λ (y : Hands). get_or y.hand j Nothing) (sym (no_master_yet n (omega arith)))) n;
        got_same = by_master (λ n y. y.got ≡ (hands c.masters n).got) (λ n _. refl)
            (ap (λ (y : Hands). y.got) (sym (no_master_yet (length c.masters) (omega arith))))
            (λ n lt. ap (λ (y : Hands). y.got) (sym (no_master_yet n (omega arith))));
        serving_same = λ p. refl;
        list_same = λ p. refl;
      })
      (record {
        limits = t.limits;
        owners = t.owners;
        phases = t.phases;
        homes = t.homes;
        left = t.left;
        masters = omega arith;
        ports = t.ports;
        dealt = λ lt. t.dealt (omega arith);
        master_views = λ n lt. by_master (λ n y. n < length c.masters + 1 → (y.number ≡ n) × (y.about ≡ a)
            × (length y.hand ≡ a.slots)) (λ n lt _. t.master_views n lt)
            (λ _. (refl, refl, length-replicate a.slots Nothing)) (λ n far near. absurd (omega arith)) n (omega arith);
        port_views = t.port_views;
      })
      (by_master (λ n y. get_or c.left n false ≡ y.left) (λ n _. L.leaving n)
      (L.leaving (length c.masters) ∙ ap (λ (y : Hands). y.left) (no_master_yet (length c.masters) (omega arith)))
      (λ n lt. L.leaving n ∙ ap (λ (y : Hands). y.left) (no_master_yet n (omega arith))))
      (λ n j. by_master (λ n y. y.left ≡ true → get_or y.hand j Nothing ≡ Nothing) (λ n _. L.gone n j)
      (λ e. absurd (cc)) (λ n lt e. absurd (cc)) n)

pub deals_master : (a : About) (id m p : ℕ) → m < a.masters
    → Splits (Fits a) id (Dealer a m p) (after_master (Dealer a m p)) (next_master (Dealer a m p))
deals_master a id m p more s h =
    by_parts a (λ s. get_elem? s.views id ≡ some (Dealer a m p)
    → Fits a (record {
      words = s.words;
      homes = s.homes;
      views = set s.views id (Dealer a (m + 1) p) ++ Master (new_hands a m) ∷ [];
    }))
    (λ c L. elim id as (λ id. get_elem? (views_of a c.masters c.ports) id ≡ some (Dealer a m p)
    → Fits a (record {
      words = (table_of a c).words;
      homes = c.homes;
      views = set (views_of a c.masters c.ports) id (Dealer a (m + 1) p) ++ Master (new_hands a m) ∷ [];
    })) [
      | zero ↦ λ at. let is = some-injective (Dealer a (length c.masters) (length c.ports)) (Dealer a m p) at in
          let ms_is : length c.masters ≡ m = cc in let ps_is : length c.ports ≡ p = cc in
          let lt : length c.masters < a.masters = omega arith in
          let none_yet : length c.ports ≡ 0 = L.shape.dealt lt in
          let long = length-append c.masters (new_hands a (length c.masters) ∷ []) in
          let counted : m + 1 ≡ length (c.masters ++ new_hands a (length c.masters) ∷ []) = omega arith in record {
            parts = with_master a c L lt;
            is = λ z. record {
              words = (table_of a c).words;
              homes = c.homes;
              views = (ap (λ (k : ℕ). Dealer a (m + 1) p
                  ∷ ((map Master c.masters ++ map Port c.ports) ++ Master (new_hands a k) ∷ [])) (sym ms_is)
                  ∙ (λ z. Dealer a (counted z) (sym ps_is z)
                  ∷ masters_only c.masters c.ports (new_hands a (length c.masters)) none_yet z)) z;
            };
            lawful = master_lawful a c L lt;
          }
      | suc j ↦ λ at. absurd (no_dealer c.masters c.ports j a m p at)
    ])
    s h

-- ---- a port's seat

module _ (a : About) (c : Parts) (L : Lawful a c) (all : length c.masters ≡ a.masters)
    (more : length c.ports < a.ports) where
  abbrev new_port : Desk
  new_port = new_desk a (length c.ports)

  abbrev with_port : Parts
  with_port = record {
    phases = c.phases;
    left = c.left;
    homes = c.homes;
    masters = c.masters;
    ports = c.ports ++ new_port ∷ [];
  }

  by_port : (P : ℕ → Desk → Type 0) → ((j : ℕ) → j < length c.ports → P j (desk c.ports j))
      → P (length c.ports) new_port → ((j : ℕ) → length c.ports < j → P j no_desk) → (j : ℕ)
      → P j (desk with_port.ports j)
  by_port = end_elim c.ports new_port no_desk

  no_port_yet : (n : ℕ) → length c.ports ≤ n → desk c.ports n ≡ no_desk
  no_port_yet n h = past c.ports n no_desk h

  pub port_lawful : Lawful a with_port
  port_lawful = let long = length-append c.ports (new_port ∷ []) in let t = L.shape in alike a c with_port L
      (record {
        phases = refl;
        homes = refl;
        held_same = λ n j. refl;
        got_same = λ n. refl;
        serving_same = by_port (λ n y. y.serving ≡ (desk c.ports n).serving) (λ n _. refl)
            (ap (λ (y : Desk). y.serving) (sym (no_port_yet (length c.ports) (omega arith))))
            (λ n lt. ap (λ (y : Desk). y.serving) (sym (no_port_yet n (omega arith))));
        list_same = by_port (λ n y. y.list ≡ (desk c.ports n).list) (λ n _. refl)
            (ap (λ (y : Desk). y.list) (sym (no_port_yet (length c.ports) (omega arith))))
            (λ n lt. ap (λ (y : Desk). y.list) (sym (no_port_yet n (omega arith))));
      })
      (record {
        limits = t.limits;
        owners = t.owners;
        phases = t.phases;
        homes = t.homes;
        left = t.left;
        masters = t.masters;
        ports = omega arith;
        dealt = λ lt. absurd (omega arith);
        master_views = t.master_views;
        port_views = λ n lt. by_port (λ n y. n < length c.ports + 1 → (y.number ≡ n) × (y.about ≡ a))
            (λ n lt _. t.port_views n lt) (λ _. (refl, refl)) (λ n far near. absurd (omega arith)) n (omega arith);
      })
      L.leaving
      L.gone

pub deals_port : (a : About) (id m p : ℕ) → m ≡ a.masters → p < a.ports
    → Splits (Fits a) id (Dealer a m p) (after_port (Dealer a m p)) (next_port (Dealer a m p))
deals_port a id m p all more s h =
    by_parts a (λ s. get_elem? s.views id ≡ some (Dealer a m p)
    → Fits a (record {
      words = s.words;
      homes = s.homes;
      views = set s.views id (Dealer a m (p + 1)) ++ Port (new_desk a p) ∷ [];
    }))
    (λ c L. elim id as (λ id. get_elem? (views_of a c.masters c.ports) id ≡ some (Dealer a m p)
    → Fits a (record {
      words = (table_of a c).words;
      homes = c.homes;
      views = set (views_of a c.masters c.ports) id (Dealer a m (p + 1)) ++ Port (new_desk a p) ∷ [];
    })) [
      | zero ↦ λ at. let is = some-injective (Dealer a (length c.masters) (length c.ports)) (Dealer a m p) at in
          let ms_is : length c.masters ≡ m = cc in let ps_is : length c.ports ≡ p = cc in
          let lt : length c.ports < a.ports = omega arith in
          let long = length-append c.ports (new_desk a (length c.ports) ∷ []) in
          let counted : p + 1 ≡ length (c.ports ++ new_desk a (length c.ports) ∷ []) = omega arith in record {
            parts = with_port a c L (ms_is ∙ all) lt;
            is = λ z. record {
              words = (table_of a c).words;
              homes = c.homes;
              views = (ap (λ (k : ℕ). Dealer a m (p + 1)
                  ∷ ((map Master c.masters ++ map Port c.ports) ++ Port (new_desk a k) ∷ [])) (sym ps_is)
                  ∙ (λ z. Dealer a (sym ms_is z) (counted z)
                  ∷ ports_more c.masters c.ports (new_desk a (length c.ports)) z)) z;
            };
            lawful = port_lawful a c L (ms_is ∙ all) lt;
          }
      | suc j ↦ λ at. absurd (no_dealer c.masters c.ports j a m p at)
    ])
    s h

-- ---- the table at the start

all_blank : (m : ℕ) → replicate m 0 ≡ map leave_word (replicate m false)
all_blank zero = refl
all_blank (suc m) = ap (λ (l : List ℕ). 0 ∷ l) (all_blank m)

all_free : (n m : ℕ) → replicate (n + m) 0 ≡ map word (replicate n Free) ++ map leave_word (replicate m false)
all_free zero m = let e : zero + m ≡ m = omega arith in ap (λ (k : ℕ). replicate k 0) e ∙ all_blank m
all_free (suc n) m = let e : suc n + m ≡ suc (n + m) = omega arith in
    ap (λ (k : ℕ). replicate k 0) e ∙ ap (λ (l : List ℕ). 0 ∷ l) (all_free n m)

at_replicate : {A : Type 0} (n i : ℕ) (x : A) → get_or (replicate n x) i x ≡ x
at_replicate zero i x = refl
at_replicate (suc n) zero x = refl
at_replicate (suc n) (suc i) x = at_replicate n i x

long_map : (xs : List Berth) → length (map some xs) ≡ length xs
long_map [] = refl
long_map (x ∷ xs) = ap suc (long_map xs)

all_home : (xs : List Berth) (i : ℕ) → i < length xs → All (λ (berth : Berth). IsSome berth) xs → (r : SlotRecord)
    × (get_or (map some xs) i none ≡ some (Some r))
all_home [] i h there = absurd (omega arith)
all_home (x ∷ xs) zero h there =
    elim x as (λ (y : Berth). IsSome y → (r : SlotRecord)
    × (some y ≡ some (Some r))) [ None ↦ λ none. absurd (cc) | Some r ↦ λ _. (r, refl) ] (there 0 x h)
all_home (x ∷ xs) (suc i) h there = all_home xs i (omega arith) (All-tail (λ (berth : Berth). IsSome berth) x xs there)

pub opens : (a : About) (ws : List ℕ) (xs : List Berth) → ws ≡ replicate (a.slots + a.masters) 0 → length xs ≡ a.slots
    → All (λ (berth : Berth). IsSome berth) xs → IsInLimits a.slots a.masters a.ports
    → AreLawfulOwners a.owners → Fits a (opening ws xs (opening_view a))
opens a ws xs words long there limits owners = let c : Parts =
    record {
      phases = replicate a.slots Free;
      left = replicate a.masters false;
      homes = map some xs;
      masters = [];
      ports = [];
    } in record {
      parts = c;
      is = λ z. record { words = (words ∙ all_free a.slots a.masters) z; homes = map some xs; views = Dealer a 0 0 ∷ [] };
      lawful = record {
        shape = record {
          limits = limits;
          owners = owners;
          phases = length-replicate a.slots Free;
          homes = long_map xs ∙ long;
          left = length-replicate a.masters false;
          masters = omega arith;
          ports = omega arith;
          dealt = λ _. refl;
          master_views = λ m lt. absurd (omega arith);
          port_views = λ m lt. absurd (omega arith);
        };
        leaving = λ m. at_replicate a.masters m false;
        gone = λ m i e. absurd (cc);
        slots = λ i lt. subst (InPhase a c i) (sym (at_replicate a.slots i Free)) (all_home xs i (omega arith) there);
        hand = λ m i h. absurd (h refl);
        service = λ p i q e. absurd (cc);
        serves_once = λ p. tt;
        sources = λ m i j p p' n n' q q' e f. absurd (cc);
        block = λ m i p n q e. absurd (cc);
        places = record {
          placed = λ p k x e. absurd (cc);
          got = λ m j e at. absurd (cc);
          got_once = λ m j k e f at. absurd (cc);
          apart = λ m p i j r e f home at. absurd (cc);
        };
        lawful = λ p k ask response at. absurd (cc);
      };
    }
