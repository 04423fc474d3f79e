-- What a hand has of a slot after a change, and how many slots it has then; what is out for a source after a change.
use Rattle.std.proofs.Common.{◌≡◌, ◌≢◌, ℕ, zero, suc, ◌+◌, ◌<◌, List, [], ◌∷◌, length, get_or, set, length-set, slice_set, Option, Some, None, is_some, true, false, count_by, refl, ap, sym, ◌∙◌, arith}
use Rattle.std.proofs.lemmas.List.{get_or-set_same, get_or-set_other}
use Rattle.std.proofs.lemmas.List.Sums.{sum_by-set}
use Rattle.tl_rule.specs.declared.view.Held.{Held}
use Rattle.tl_rule.specs.declared.view.Held.TheVariants.{Nothing, Filled, Sent, Taken}
use Rattle.tl_rule.specs.Carried.{is_held}
use Rattle.tl_rule.proofs.Carried.{bit, held_set}
use Rattle.tl_arena.specs.Views.{MasterView, TicketView, hand_at, with_held, owned_of}
use Rattle.tl_master.specs.Master.{ticket_at, out_of}
use Rattle.tl_master.specs.Steps.{with_posted}

-- ---- hands

module _ (v : MasterView) (i : ℕ) (x : Held) where
  pub held_here : i < length v.hand → hand_at (with_held v i x) i ≡ x
  held_here lt = get_or-set_same v.hand i x Nothing lt

  pub held_else : (j : ℕ) → j ≢ i → hand_at (with_held v i x) j ≡ hand_at v j
  held_else j ne = get_or-set_other v.hand i j x Nothing ne

-- a slot more: it was not in the hand, was claimed, and has what was posted
module _ (v : MasterView) (t : TicketView) (lt : t.slot < length v.hand) where
  claimed : MasterView
  claimed = with_held v t.slot Filled

  long : t.slot < length (set v.hand t.slot Filled)
  long = let same = length-set v.hand t.slot Filled in omega arith

  pub posted_here : hand_at (with_posted v t) t.slot ≡ Sent t.ask t.port t.known
  posted_here = get_or-set_same (set v.hand t.slot Filled) t.slot (Sent t.ask t.port t.known) Nothing long

  pub posted_else : (j : ℕ) → j ≢ t.slot → hand_at (with_posted v t) j ≡ hand_at v j
  posted_else j ne = get_or-set_other (set v.hand t.slot Filled) t.slot j (Sent t.ask t.port t.known) Nothing ne
      ∙ get_or-set_other v.hand t.slot j Filled Nothing ne

  pub posted_owned : hand_at v t.slot ≡ Nothing → owned_of (with_posted v t) ≡ owned_of v + 1
  posted_owned free =
      let first = held_set v.hand [] t.slot Filled lt in
      let none : bit (is_held (get_or v.hand t.slot Nothing)) ≡ 0 = ap (λ (h : Held). bit (is_held h)) free in
      let second = held_set (set v.hand t.slot Filled) [] t.slot (Sent t.ask t.port t.known) long in
      let one : bit (is_held (get_or (set v.hand t.slot Filled) t.slot Nothing)) ≡ 1 =
      ap (λ (h : Held). bit (is_held h)) (get_or-set_same v.hand t.slot Filled Nothing lt) in
      omega arith

-- a slot less: it had what was sent, and its reply was taken
pub released_owned : (hand : List Held) (i p : ℕ) → i < length hand → is_held (get_or hand i Nothing) ≡ true
    → count_by is_held (set (set hand i (Taken p)) i Nothing) + 1 ≡ count_by is_held hand
released_owned hand i p lt held =
    let first = held_set hand [] i (Taken p) lt in
    let had : bit (is_held (get_or hand i Nothing)) ≡ 1 = ap bit held in
    let same = length-set hand i (Taken p) in
    let second = held_set (set hand i (Taken p)) [] i Nothing (omega arith) in
    let one : bit (is_held (get_or (set hand i (Taken p)) i Nothing)) ≡ 1 =
    ap (λ (h : Held). bit (is_held h)) (get_or-set_same hand i (Taken p) Nothing lt) in
    omega arith

-- ---- what is out

pub source_known : (out : List (Option TicketView)) (s : ℕ) (t : TicketView) → ticket_at out s ≡ Some t → s < length out
source_known [] s t is = absurd cc
source_known (x ∷ xs) zero t is = omega arith
source_known (x ∷ xs) (suc s) t is = let r = source_known xs s t is in omega arith

pub put_back : (out : List (Option TicketView)) (s : ℕ) (t : TicketView) → ticket_at out s ≡ Some t
    → slice_set (slice_set out s None) s (Some t) ≡ out
put_back [] s t is = absurd cc
put_back (x ∷ xs) zero t is = ap (λ (y : Option TicketView). y ∷ xs) (sym is)
put_back (x ∷ xs) (suc s) t is = ap (λ (ys : List (Option TicketView)). x ∷ ys) (put_back xs s t is)

pub out_more : (out : List (Option TicketView)) (s : ℕ) (t : TicketView) → s < length out → ticket_at out s ≡ None
    → out_of (slice_set out s (Some t)) ≡ out_of out + 1
out_more out s t lt is =
    let sum = sum_by-set (λ (x : Option TicketView). bit (is_some x)) out s (Some t) None lt in
    let none : bit (is_some (get_or out s None)) ≡ 0 = ap (λ (x : Option TicketView). bit (is_some x)) is in
    omega arith

pub out_less : (out : List (Option TicketView)) (s : ℕ) (t : TicketView) → ticket_at out s ≡ Some t
    → out_of (slice_set out s None) + 1 ≡ out_of out
out_less out s t is =
    let lt = source_known out s t is in
    let sum = sum_by-set (λ (x : Option TicketView). bit (is_some x)) out s None None lt in
    let one : bit (is_some (get_or out s None)) ≡ 1 = ap (λ (x : Option TicketView). bit (is_some x)) is in
    omega arith

-- what a loan of the source shows is what is out for it
pub shown_at : (out : List (Option TicketView)) (s : ℕ) (x : Option TicketView) → s < length out → x ≡ get_or out s x
    → ticket_at out s ≡ x
shown_at [] s x lt is = absurd (omega arith)
shown_at (y ∷ ys) zero x lt is = sym is
shown_at (y ∷ ys) (suc s) x lt is = shown_at ys s x (omega arith) is

pub none_shown : (x : Option TicketView) → is_some x ≡ false → x ≡ None
none_shown None is = refl
none_shown (Some t) is = absurd cc
