-- A new master is as it should be.
use Rattle.std.proofs.Common.{◌≡◌, ℕ, zero, suc, ◌+◌, ◌<◌, ◌≤◌, ◌^◌, ◌↔◌, List, [], ◌∷◌, length, slice_get, replicate, Option, Some, None, IfSome, slice_index_or, unwrap_or, refl, ap, sym, subst, ◌∙◌, arith}
use Rattle.std.proofs.lemmas.List.{length-replicate}
use Rattle.tl_types.specs.declared.trace.Entry.{Entry}
use Rattle.tl_map.specs.Blocks.{HaveBlocks, counts_in}
use Rattle.tl_map.specs.Owner.{IsWideSource}
use Rattle.tl_map.specs.declared.owners.Owner.{Owner}
use Rattle.tl_map.proofs.Counted.{count_at, count_low, in_a_row, wide_low}
use Rattle.tl_rule.specs.declared.view.Held.TheVariants.{Nothing}
use Rattle.tl_rule.proofs.Carried.{none_held}
use Rattle.tl_arena.specs.Views.{MasterView, TicketView, hand_at, owned_of}
use Rattle.tl_master.specs.Master.{MasterState, count_of, ticket_at, out_of}
use Rattle.tl_master.specs.Kept.{IsKeptMaster}

pub count_found : (counts : List ℕ) (master : ℕ) → unwrap_or (slice_get counts master) 0 ≡ slice_index_or counts master 0
count_found [] master = refl
count_found (x ∷ xs) zero = refl
count_found (x ∷ xs) (suc master) = count_found xs master

fits_by : (wide : ℕ) (count : Option ℕ) → IfSome count (λ n. n ≤ 256) → wide < 16384 → wide + unwrap_or count 0 ≤ 2 ^ 16
fits_by wide None few low = omega (arith, low)
fits_by wide (Some n) few low = omega (arith, few, low)

module _ (owners : List Owner) (have : HaveBlocks owners) (master : ℕ) (w : Option ℕ)
    (wides : (x : ℕ) → (w ≡ Some x) ↔ IsWideSource owners master 0 x) where
  -- from the wide source of source 0 on, each source has the next
  pub all_wide : (s : ℕ) → s < unwrap_or (slice_get (counts_in owners) master) 0
      → IsWideSource owners master s (unwrap_or w 0 + s)
  all_wide s below = go (slice_get owners master) refl where
    go : (found : Option Owner) → slice_get owners master ≡ found → IsWideSource owners master s (unwrap_or w 0 + s)
    go None is =
        let none : slice_get (counts_in owners) master ≡ None = count_at owners master None is in
        let never : s < 0 = rw none at below in
        absurd (omega (arith, never))
    go (Some owner) is =
        let counted : slice_get (counts_in owners) master ≡ Some owner.count = count_at owners master (Some owner) is in
        let less : s < owner.count = rw counted at below in
        let first : IsWideSource owners master 0 owner.first =
        subst (λ (x : ℕ). IsWideSource owners master 0 x) (omega arith)
        (in_a_row owners have master owner is 0 (omega (arith, less))) in
        let start : w ≡ Some owner.first = (wides owner.first).1 first in
        rw start (in_a_row owners have master owner is s less)

  pub wide_fits : unwrap_or w 0 + unwrap_or (slice_get (counts_in owners) master) 0 ≤ 2 ^ 16
  wide_fits = go w refl where
    go : (found : Option ℕ) → w ≡ found → unwrap_or found 0 + unwrap_or (slice_get (counts_in owners) master) 0 ≤ 2 ^ 16
    go None is = fits_by 0 (slice_get (counts_in owners) master) (count_low owners have master) (omega arith)
    go (Some wide) is =
        let low = wide_low owners have master 0 wide ((wides wide).0 is) in
        let masters = have.few.masters in
        let many = have.blocks.counted in
        fits_by wide (slice_get (counts_in owners) master) (count_low owners have master) (omega (arith, low, masters, many))

none_out : (n : ℕ) → out_of (replicate n None) ≡ 0
none_out zero = refl
none_out (suc n) = none_out n

pub none_at : (n s : ℕ) → ticket_at (replicate n None) s ≡ None
none_at zero s = refl
none_at (suc n) zero = refl
none_at (suc n) (suc s) = none_at n s

pub new_kept : (m : MasterState) (start count : ℕ) → owned_of m.seat ≡ 0 → m.seat.got ≡ []
    → m.out ≡ replicate count None → m.trace ≡ [] → count ≡ count_of m.seat.arena.about.owners m.seat.number
    → ((s : ℕ) → s < count → IsWideSource m.seat.arena.about.owners m.seat.number s (start + s)) → start + count ≤ 2 ^ 16
    → IsKeptMaster m start 0
new_kept m start count owned got out trace sources wide fits =
    let many : length m.out ≡ count = ap length out ∙ length-replicate count None in
    let no_entry : (j : ℕ) (e : Entry) → slice_get m.trace j ≡ Some e → ⊥ =
    λ j e at. let none : slice_get [] j ≡ Some e = subst (λ (es : List Entry). slice_get es j ≡ Some e) trace at in
    cc in
    record {
      sources = many ∙ sources;
      wide = λ s below. wide s (omega arith);
      fits = omega arith;
      own = λ j e at. absurd (no_entry j e at);
      got = rw trace got;
      count_is = sym (ap out_of out ∙ none_out count);
      owned = owned;
      room = rw trace (omega arith);
      out_sent = λ s t is. absurd (let none = ap (λ (o : List (Option TicketView)). ticket_at o s) out
          ∙ none_at count s in cc);
      sent_out = λ i p known ask is. absurd (let none : hand_at m.seat i ≡ Nothing = none_held m.seat.hand owned i in
          cc);
      order = λ j k d e before at_j at_k source port. absurd (no_entry j d at_j);
    }

-- the same as the code goes: o is how many sources the master has, and w the wide source of source 0, if there are
module _ (owners : List Owner) (have : HaveBlocks owners) (v : MasterView) (number start count : ℕ) (o w : Option ℕ)
    (same : owners ≡ v.arena.about.owners) (numbered : number ≡ v.number) (found : o ≡ slice_get (counts_in owners) number)
    (count_is : count ≡ unwrap_or o 0) (start_is : start ≡ unwrap_or w 0) where
  pub sources_are : count ≡ count_of v.arena.about.owners v.number
  sources_are = count_is ∙ (ap (λ (x : Option ℕ). unwrap_or x 0) found
      ∙ (count_found (counts_in owners) number ∙ (ap (λ (n : ℕ). count_of owners n) numbered
      ∙ ap (λ (os : List Owner). count_of os v.number) same)))

  pub wide_are : ((x : ℕ) → (w ≡ Some x) ↔ IsWideSource owners number 0 x)
      → (s : ℕ) → s < count → IsWideSource v.arena.about.owners v.number s (start + s)
  wide_are wides s below =
      rw (← same, ← numbered, start_is) (all_wide owners have number w wides s (rw (count_is, found) at below))

  pub sources_fit : ((x : ℕ) → (w ≡ Some x) ↔ IsWideSource owners number 0 x) → start + count ≤ 2 ^ 16
  sources_fit wides = rw (start_is, count_is, found) (wide_fits owners have number w wides)
