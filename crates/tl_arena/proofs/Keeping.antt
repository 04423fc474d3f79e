-- What the seats keep, after each step.
use Rattle.std.proofs.Common.{◌≡◌, ◌≢◌, ℕ, ◌+◌, ◌<◌, ◌≤◌, true, false, List, [], ◌∷◌, ◌++◌, length, get_or, set, drop, sym, refl, ap, subst, ◌∙◌, arith, length-set, length-append, count_by, Some, None}
use Rattle.std.proofs.lemmas.List.{get_or-set_same, get_or-set_other}
use mathlib.Core.Logic.{dite}
use native.Mathlib.Decide.{ℕ_discrete}
use Rattle.atomic_table.specs.Table.{rest}
use Rattle.tl_types.specs.Request.{Request}
use Rattle.tl_types.specs.Response.{Response}
use Rattle.tl_types.specs.declared.trace.Entry.{Entry}
use Rattle.tl_rule.specs.declared.view.About.{About}
use Rattle.tl_rule.specs.declared.view.Held.{Held}
use Rattle.tl_rule.specs.declared.view.Held.TheVariants.{Nothing, Filled, Sent, Taken}
use Rattle.tl_rule.specs.declared.view.View.TheVariants.{Master, Port}
use Rattle.tl_rule.specs.Record.{Berth}
use Rattle.tl_rule.specs.Serving.{ask_at, drop_slot}
use Rattle.tl_rule.specs.Views.{with_hand, with_serving}
use Rattle.tl_rule.specs.Moves.{Seat, as_master, as_port, handed, service_of, IsLawfulDesk}
use Rattle.tl_rule.specs.Views.{in_hand}
use Rattle.tl_rule.specs.Carried.{firsts, is_carried, is_held, CarriesHand, CarriesServed}
use Rattle.tl_rule.proofs.Carried.{bit, takes_one, gives_one, has_room, held_set, hand_reordered, serves_one, answers_one, service_reordered}
use Rattle.tl_rule.proofs.Serving.{push_here, push_else, drop_else, drop_here}
use Rattle.tl_rule.proofs.Facts.{in_hand_of}
use Rattle.atomic_table.specs.Seated.{TableId}
use Rattle.tl_rule.specs.declared.view.View.{View}
use Rattle.tl_arena.specs.Views.{ArenaId, MasterView, PortView}
use Rattle.tl_arena.specs.Kept.{arena_id, master_view, port_view, IsMasterKept, IsPortKept, IsOwner, IsBrought}

-- ---- the order

-- the slot that was brought is the first of the order, and what is left is the order of the others
pub order_of_brought : (m m₁ : Seat) (before mid : List ℕ) (i : ℕ) → IsBrought m m₁ before mid i
    → mid ≡ i ∷ firsts (rest m₁.1)
order_of_brought m m₁ before mid i B = sym B.mirror ∙ ap (λ (cs : List (ℕ × Berth)). firsts cs) B.top.1

pub order_left : (m m₁ : Seat) (before mid after : List ℕ) (i : ℕ) → IsBrought m m₁ before mid i → after ≡ drop 1 mid
    → firsts (rest m₁.1) ≡ after
order_left m m₁ before mid after i B e = sym (e ∙ ap (λ (l : List ℕ). drop 1 l) (order_of_brought m m₁ before mid i B))

-- ---- the arena of a seat

-- a seat's view names the arena: so the seat is of its table, and they know the same of what never changes
pub master_arena : (table : TableId) (w : View) (v : MasterView) (a : ArenaId) (own : TableId) (about : About)
    → master_view table w ≡ v → v.arena ≡ a → arena_id own about ≡ a → (table ≡ own) × ((as_master w).about ≡ about)
master_arena table w v a own about seen same is = (
  ap (λ (x : MasterView). x.arena.table) seen
      ∙ ap (λ (x : ArenaId). x.table) (same ∙ sym is),
  ap (λ (x : MasterView). x.arena.about) seen
      ∙ ap (λ (x : ArenaId). x.about) (same ∙ sym is),
)

pub port_arena : (table : TableId) (w : View) (v : PortView) (a : ArenaId) (own : TableId) (about : About)
    → port_view table w ≡ v → v.arena ≡ a → arena_id own about ≡ a → (table ≡ own) × ((as_port w).about ≡ about)
port_arena table w v a own about seen same is = (
  ap (λ (x : PortView). x.arena.table) seen
      ∙ ap (λ (x : ArenaId). x.table) (same ∙ sym is),
  ap (λ (x : PortView). x.arena.about) seen
      ∙ ap (λ (x : ArenaId). x.about) (same ∙ sym is),
)

-- ---- a master's seat

pub master_recounted : (m : Seat) (order after : List ℕ) (capacity now number owned collected : ℕ) → after ≡ order
    → now ≡ capacity → IsMasterKept m order capacity number owned collected
    → IsMasterKept m after now number owned collected
master_recounted m order after capacity now number owned collected e f K =
    subst (λ (l : List ℕ). IsMasterKept m l now number owned collected) (sym e)
    (subst (λ (n : ℕ). IsMasterKept m order n number owned collected) (sym f) K)

module _ (m : Seat) (order : List ℕ) (capacity number owned collected : ℕ)
    (K : IsMasterKept m order capacity number owned collected) where
  -- a slot in the hand is one of the table's
  pub held_inside : (i : ℕ) → in_hand (as_master m.0) i ≢ Nothing → i < (as_master m.0).about.slots
  held_inside i some = let lt = in_hand_of (as_master m.0).hand i some in let w = K.wide in omega arith

  -- a step changes one slot of the hand
  master_moved : (n : Seat) (after : List ℕ) (owns has_got i : ℕ) (x : Held) (got : List Entry) (cs : List (ℕ × Berth))
      → n ≡ (Master (with_hand (as_master m.0) i x got), cs) → firsts cs ≡ after
      → CarriesHand (set (as_master m.0).hand i x) after → count_by is_held (set (as_master m.0).hand i x) ≡ owns
      → length got ≡ has_got
      → IsMasterKept n after capacity number owns has_got
  master_moved n after owns has_got i x got cs e mirror carried many long =
      subst (λ (y : Seat). IsMasterKept y after capacity number owns has_got) (sym e) (record {
        is = refl;
        numbered = K.numbered;
        present = K.present;
        in_range = K.in_range;
        in_limit = K.in_limit;
        wide = length-set (as_master m.0).hand i x ∙ K.wide;
        mirror = mirror;
        carried = carried;
        room = K.room;
        owns = many;
        has_got = long;
      })

  -- the records that are out with the seat are not in the way of one more
  pub master_room : (i : ℕ) → i < length (as_master m.0).hand → is_carried (in_hand (as_master m.0) i) ≡ false
      → length order < capacity
  master_room i lt was = let r = has_room (as_master m.0).hand order i Filled lt was refl K.carried in let w = K.wide in
      let c = K.room in omega arith

  pub claim_kept : (n : Seat) (i : ℕ) (letter : Berth) → n ≡ (handed m i Filled, (i, letter) ∷ m.1)
      → in_hand (as_master m.0) i ≡ Nothing → i < length (as_master m.0).hand
      → IsMasterKept n (i ∷ order) capacity number (owned + 1) collected
  claim_kept n i letter e was lt =
      master_moved n (i ∷ order) (owned + 1) collected i Filled (as_master m.0).got ((i, letter) ∷ m.1) e
      (ap (λ (l : List ℕ). i ∷ l) K.mirror)
      (takes_one (as_master m.0).hand order i Filled lt (ap is_carried was) refl K.carried)
      (let s = held_set (as_master m.0).hand order i Filled lt in
      let b : bit (is_held (in_hand (as_master m.0) i)) ≡ 0 = ap (λ h. bit (is_held h)) was in let o = K.owns in
      omega arith)
      K.has_got

  pub collect_kept : (n : Seat) (i : ℕ) (blank : Berth) (ask : Request) (p known : ℕ) (e : Entry)
      → n ≡ (Master (with_hand (as_master m.0) i (Taken p) ((as_master m.0).got ++ e ∷ [])), (i, blank) ∷ m.1)
      → in_hand (as_master m.0) i ≡ Sent ask p known → i < length (as_master m.0).hand
      → IsMasterKept n (i ∷ order) capacity number owned (collected + 1)
  collect_kept n i blank ask p known e is was lt =
      master_moved n (i ∷ order) owned (collected + 1) i (Taken p) ((as_master m.0).got ++ e ∷ []) ((i, blank) ∷ m.1) is
      (ap (λ (l : List ℕ). i ∷ l) K.mirror)
      (takes_one (as_master m.0).hand order i (Taken p) lt (ap is_carried was) refl K.carried)
      (let s = held_set (as_master m.0).hand order i (Taken p) lt in
      let b : bit (is_held (in_hand (as_master m.0) i)) ≡ 1 = ap (λ h. bit (is_held h)) was in let o = K.owns in
      omega arith)
      (let l = length-append (as_master m.0).got (e ∷ []) in let h = K.has_got in omega arith)

  -- a slot that is out is given back
  given_back : (m₁ n : Seat) (mid after : List ℕ) (owns i : ℕ) (x : Held) → IsBrought m m₁ order mid i
      → after ≡ drop 1 mid → n ≡ (handed m i x, rest m₁.1) → i < length (as_master m.0).hand
      → is_carried (in_hand (as_master m.0) i) ≡ true → is_carried x ≡ false
      → count_by is_held (set (as_master m.0).hand i x) ≡ owns → IsMasterKept n after capacity number owns collected
  given_back m₁ n mid after owns i x B left e lt was is many =
      let hand = (as_master m.0).hand in
      let rests = order_left m m₁ order mid after i B left in
      let there : mid ≡ i ∷ after = order_of_brought m m₁ order mid i B ∙ ap (λ (l : List ℕ). i ∷ l) rests in
      let carried = subst (λ (l : List ℕ). CarriesHand hand l) there
      (hand_reordered hand order mid B.members B.many K.carried) in
      master_moved n after owns collected i x (as_master m.0).got (rest m₁.1) e rests
      (gives_one hand after i x lt was is carried) many K.has_got

  pub post_kept : (m₁ n : Seat) (mid after : List ℕ) (i : ℕ) (ask : Request) (p known : ℕ) → IsBrought m m₁ order mid i
      → after ≡ drop 1 mid → n ≡ (handed m i (Sent ask p known), rest m₁.1) → in_hand (as_master m.0) i ≡ Filled
      → IsMasterKept n after capacity number owned collected
  post_kept m₁ n mid after i ask p known B left e was =
      let lt = in_hand_of (as_master m.0).hand i (λ z. absurd (cc)) in
      given_back m₁ n mid after owned i (Sent ask p known) B left e lt (ap is_carried was) refl
      (let s = held_set (as_master m.0).hand order i (Sent ask p known) lt in
      let b : bit (is_held (in_hand (as_master m.0) i)) ≡ 1 = ap (λ h. bit (is_held h)) was in let o = K.owns in
      omega arith)

  -- a slot in the hand is one that the seat owns
  pub owns_some : (i p : ℕ) → in_hand (as_master m.0) i ≡ Taken p → 0 < owned
  owns_some i p was =
      let lt = in_hand_of (as_master m.0).hand i (λ z. absurd (cc)) in
      let s = held_set (as_master m.0).hand order i Nothing lt in
      let b : bit (is_held (in_hand (as_master m.0) i)) ≡ 1 = ap (λ h. bit (is_held h)) was in let o = K.owns in
      omega arith

  pub release_kept : (m₁ n : Seat) (mid after : List ℕ) (i p owns : ℕ) → IsBrought m m₁ order mid i → after ≡ drop 1 mid
      → n ≡ (handed m i Nothing, rest m₁.1) → in_hand (as_master m.0) i ≡ Taken p → owns + 1 ≡ owned
      → IsMasterKept n after capacity number owns collected
  release_kept m₁ n mid after i p owns B left e was one =
      let lt = in_hand_of (as_master m.0).hand i (λ z. absurd (cc)) in
      given_back m₁ n mid after owns i Nothing B left e lt (ap is_carried was) refl
      (let s = held_set (as_master m.0).hand order i Nothing lt in
      let b : bit (is_held (in_hand (as_master m.0) i)) ≡ 1 = ap (λ h. bit (is_held h)) was in let o = K.owns in
      omega arith)

-- ---- a port's seat

pub port_recounted : (m : Seat) (order after : List ℕ) (capacity now : ℕ) (owners : List ℕ) (number served : ℕ)
    → after ≡ order → now ≡ capacity → IsPortKept m order capacity owners number served
    → IsPortKept m after now owners number served
port_recounted m order after capacity now owners number served e f K =
    subst (λ (l : List ℕ). IsPortKept m l now owners number served) (sym e)
    (subst (λ (n : ℕ). IsPortKept m order n owners number served) (sym f) K)

module _ (m : Seat) (order : List ℕ) (capacity : ℕ) (owners : List ℕ) (number served : ℕ)
    (K : IsPortKept m order capacity owners number served) where
  -- the records that are out with the seat are not in the way of one more, where the seat after it is lawful
  pub port_room : (u : List (ℕ × Request)) (i : ℕ) (ask : Request) → u ≡ (as_port m.0).serving ++ (i, ask) ∷ []
      → length u ≤ (as_port m.0).about.slots → length order < capacity
  port_room u i ask e few = let l = length-append (as_port m.0).serving ((i, ask) ∷ []) in
      let k = ap (λ (x : List (ℕ × Request)). length x) e in let c = K.carried.many in let r = K.room in omega arith

  pub accept_kept : (n : Seat) (i owner : ℕ) (ask : Request) (blank : Berth)
      → n ≡ (
        Port (with_serving (as_port m.0) ((as_port m.0).serving ++ (i, ask) ∷ []) (as_port m.0).list),
        (i, blank)
            ∷ m.1,
      )
      → service_of m i ≡ None → IsLawfulDesk (as_port n.0) → i < (as_port m.0).about.slots
      → IsOwner (as_port m.0).about owner ask.source
      → IsPortKept n (i ∷ order) capacity (set owners i owner) number served
  accept_kept n i owner ask blank e free law lt own =
      let u = as_port m.0 in
      let v = with_serving u (u.serving ++ (i, ask) ∷ []) u.list in
      let now = subst (λ (y : Seat). IsLawfulDesk (as_port y.0)) e law in
      subst (λ (y : Seat). IsPortKept y (i ∷ order) capacity (set owners i owner) number served) (sym e) (record {
        is = refl;
        numbered = K.numbered;
        in_limit = K.in_limit;
        law = now;
        mirror = ap (λ (l : List ℕ). i ∷ l) K.mirror;
        carried = serves_one u.serving order i ask K.carried;
        room = K.room;
        listed = K.listed;
        wide = length-set owners i owner ∙ K.wide;
        owned = λ j other there. dite (ℕ_discrete j i)
            (λ same.
            let here : ask ≡ other =
            (let p = push_here u.serving i ask free in
            let q = subst (λ (k : ℕ). ask_at v.serving k ≡ Some other) same there in cc) in
            let w = get_or-set_same owners i owner 0 (let w = K.wide in omega arith) in
            subst (λ (k : ℕ). IsOwner u.about (get_or (set owners i owner) k 0) other.source) (sym same)
            (subst (λ (o : ℕ). IsOwner u.about o other.source) (sym w)
            (subst (λ (q : Request). IsOwner u.about owner q.source) here own)))
            (λ ne. subst (λ (o : ℕ). IsOwner u.about o other.source) (sym (get_or-set_other owners i j owner 0 ne))
            (K.owned j other (sym (push_else u.serving i j ask ne) ∙ there)));
      })

  pub answer_kept : (m₁ n : Seat) (mid after : List ℕ) (i : ℕ) (ask : Request) (reply : Response)
      → IsBrought m m₁ order mid i → after ≡ drop 1 mid
      → n ≡ (
        Port (with_serving (as_port m.0) (drop_slot i (as_port m.0).serving)
            ((as_port m.0).list ++ (ask, reply) ∷ [])),
        rest m₁.1,
      ) → service_of m i ≡ Some ask
      → IsLawfulDesk (as_port n.0)
      → IsPortKept n after capacity owners number (served + 1)
  answer_kept m₁ n mid after i ask reply B left e there law =
      let u = as_port m.0 in
      let rests = order_left m m₁ order mid after i B left in
      let order_is : mid ≡ i ∷ after = order_of_brought m m₁ order mid i B ∙ ap (λ (l : List ℕ). i ∷ l) rests in
      let carried = subst (λ (l : List ℕ). CarriesServed u.serving l) order_is
      (service_reordered u.serving order mid B.members B.many K.carried) in
      subst (λ (y : Seat). IsPortKept y after capacity owners number (served + 1)) (sym e) (record {
        is = refl;
        numbered = K.numbered;
        in_limit = K.in_limit;
        law = subst (λ (y : Seat). IsLawfulDesk (as_port y.0)) e law;
        mirror = rests;
        carried = answers_one u.serving after i ask K.law.slots there carried;
        room = K.room;
        listed = let l = length-append u.list ((ask, reply) ∷ []) in let k = K.listed in omega arith;
        wide = K.wide;
        owned = λ j other is. dite (ℕ_discrete j i)
            (λ same. let none = drop_here u.serving i K.law.slots in
            let gone = subst (λ (k : ℕ). ask_at (drop_slot i u.serving) k ≡ Some other) same is in absurd (cc))
            (λ ne. K.owned j other (sym (drop_else u.serving i j ne) ∙ is));
      })
