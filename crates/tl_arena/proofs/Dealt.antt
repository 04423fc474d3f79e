-- New seats: what they keep, and lists of them.
use Rattle.std.proofs.Common.{◌≡◌, ℕ, ◌+◌, ◌<◌, ◌≤◌, List, [], ◌∷◌, ◌++◌, length, map, take, get_or, sym, refl, ap, subst, ◌∙◌, arith, add-one, take-suc, length-append, inl, inr}
use Rattle.std.proofs.lemmas.List.{length-replicate, map-append}
use Rattle.tl_types.specs.declared.limits.TheConstants.{MAX_MASTERS, MAX_PORTS}
use Rattle.tl_types.proofs.Lists.{slice_get-push}
use Rattle.tl_rule.specs.declared.view.About.{About}
use Rattle.tl_rule.specs.declared.view.Held.TheVariants.{Nothing}
use Rattle.tl_rule.specs.declared.view.View.TheVariants.{Master, Port}
use Rattle.tl_rule.specs.Views.{new_hands, new_desk}
use Rattle.tl_rule.specs.Moves.{Seat, IsLawfulDesk}
use Rattle.tl_rule.proofs.Carried.{fresh_hand, none_yet}
use Rattle.tl_arena.specs.Views.{ArenaId, MasterView, PortView, new_master, new_port, AreNewMasters, AreNewPorts}
use Rattle.tl_arena.specs.Kept.{IsMasterKept, IsPortKept}

-- ---- what the banks hold

-- one bank more was seen
pub seen_more : {S B : Type 0} (f : S → B) (banks : List B) (seen now : List S) (i : ℕ) (one : S) → i < length banks
    → now ≡ seen ++ one ∷ [] → map f seen ≡ take i banks → get_or banks i (f one) ≡ f one
    → map f now ≡ take (i + 1) banks
seen_more f banks seen now i one lt is same here =
    ap (map f) is ∙ map-append f seen (one ∷ []) ∙ ap (λ (l : List _). l ++ f one ∷ []) same
    ∙ sym (ap (λ (n : ℕ). take n banks) (add-one i) ∙ take-suc banks i (f one) lt
    ∙ ap (λ (b : _). take i banks ++ b ∷ []) here)

-- ---- one seat

pub new_master_kept : (a : About) (me : Seat) (order : List ℕ) (capacity number : ℕ)
    → me ≡ (Master (new_hands a number), []) → order ≡ [] → number < a.masters → a.masters ≤ MAX_MASTERS
    → a.slots ≤ capacity
    → IsMasterKept me order capacity number 0 0
new_master_kept a me order capacity number e empty more few room =
    subst (λ (y : Seat). IsMasterKept y order capacity number 0 0) (sym e)
    (subst (λ (l : List ℕ). IsMasterKept (Master (new_hands a number), []) l capacity number 0 0) (sym empty)
    (record {
      is = refl;
      numbered = refl;
      present = refl;
      in_range = more;
      in_limit = few;
      wide = length-replicate a.slots Nothing;
      mirror = refl;
      carried = fresh_hand a.slots;
      room = room;
      owns = none_yet a.slots;
      has_got = refl;
    }))

new_desk_lawful : (a : About) (number : ℕ) → number < a.ports → IsLawfulDesk (new_desk a number)
new_desk_lawful a number more = record {
  number = more;
  slots = tt;
  inside = λ i ask e. absurd (cc);
  few = omega arith;
  sources = λ i j ask other e f same. absurd (cc);
  lawful = λ k ask response e. absurd (cc);
  listed = λ k x e. absurd (cc);
  served = λ i ask e. absurd (cc);
}

pub new_port_kept : (a : About) (me : Seat) (order : List ℕ) (capacity : ℕ) (owners : List ℕ) (number : ℕ)
    → me ≡ (Port (new_desk a number), []) → order ≡ [] → number < a.ports → a.ports ≤ MAX_PORTS → a.slots ≤ capacity
    → length owners ≡ a.slots
    → IsPortKept me order capacity owners number 0
new_port_kept a me order capacity owners number e empty more few room wide =
    subst (λ (y : Seat). IsPortKept y order capacity owners number 0) (sym e)
    (subst (λ (l : List ℕ). IsPortKept (Port (new_desk a number), []) l capacity owners number 0) (sym empty)
    (record {
      is = refl;
      numbered = refl;
      in_limit = few;
      law = new_desk_lawful a number more;
      mirror = refl;
      carried = record { all = λ i ask e. absurd (cc); many = refl };
      room = room;
      listed = refl;
      wide = wide;
      owned = λ i ask e. absurd (cc);
    }))

-- ---- lists of seats

pub masters_more : (a : ArenaId) (n : ℕ) (vs : List MasterView) (v : MasterView) → v ≡ new_master a n
    → AreNewMasters a n vs → AreNewMasters a (n + 1) (vs ++ v ∷ [])
masters_more a n vs v is A = record {
  many = let l = length-append vs (v ∷ []) in let m = A.many in omega arith;
  each = λ m w e. elim (slice_get-push vs v w m e) [
    | inl e ↦ A.each m w e
    | inr p ↦ sym p.1 ∙ is
        ∙ ap (λ (k : ℕ). new_master a k) (sym A.many ∙ sym p.0)
  ];
}

pub ports_more : (a : ArenaId) (n : ℕ) (us : List PortView) (u : PortView) → u ≡ new_port a n → AreNewPorts a n us
    → AreNewPorts a (n + 1) (us ++ u ∷ [])
ports_more a n us u is A = record {
  many = let l = length-append us (u ∷ []) in let m = A.many in omega arith;
  each = λ p w e. elim (slice_get-push us u w p e) [
    | inl e ↦ A.each p w e
    | inr q ↦ sym q.1 ∙ is
        ∙ ap (λ (k : ℕ). new_port a k) (sym A.many ∙ sym q.0)
  ];
}
