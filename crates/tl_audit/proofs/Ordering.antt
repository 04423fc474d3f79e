-- The order of a trace, entry by entry.
use Rattle.std.proofs.Common.{◌≡◌, ℕ, ◌+◌, ◌<◌, ◌≤◌, ◌&&◌, ◌==◌, Bool, true, false, List, Option, Some, None, IsSome, slice_get, refl, ⊎_elim, arith}
use Rattle.std.proofs.lemmas.Bool.{and_parts, cases_lt, eqb-true, eq-eqb, false≢true}
use Rattle.std.specs.Cmp.Derive.{both_true}
use Rattle.tl_types.specs.declared.trace.Entry.{Entry}
use Rattle.tl_audit.specs.Agrees.{IsOutOfOrder}
use Rattle.tl_audit.specs.Marks.{IsSetAt, cell}
use Rattle.tl_audit.specs.Order.{HaveCells, IsAtLeast, IsOrderedTo, IsSeen}

-- an index that is no greater than the last one is out of order
pub out_of_order : (trace : List Entry) (k : ℕ) (e : Entry) (last : Option ℕ) (lasts : List (List (Option ℕ)))
    → slice_get trace k ≡ Some e → IsOrderedTo trace k lasts
    → cell lasts e.port e.ask.source ≡ Some last → IsAtLeast last e.index → IsOutOfOrder trace k
out_of_order trace k e None lasts here kept at small = absurd small
out_of_order trace k e (Some last) lasts here kept at small =
    let seen = kept.seen e.port e.ask.source last at in
    record {
      early = seen.place;
      before = seen.before;
      earlier = seen.entry;
      later = e;
      at_early = seen.at;
      at = here;
      source = seen.source;
      port = seen.port;
      index = rw seen.is small;
    }

-- an index above a bound of it is no smaller than what the bound bounds
above : (last : Option ℕ) (low index : ℕ) → IsAtLeast last low → (IsAtLeast last index → ⊥) → low ≤ index
above None low index least more = absurd least
above (Some y) low index least more =
    ⊎_elim (λ (less : y < index). omega arith) (λ (other : index ≤ y). absurd (more other)) (cases_lt y index)

at_least_from : (last : Option ℕ) (low index : ℕ) → IsAtLeast last index → low ≤ index → IsAtLeast last low
at_least_from None low index least below = least
at_least_from (Some y) low index least below = omega arith

is_itself : (e : Entry) → ((e.port == e.port) && (e.ask.source == e.ask.source)) ≡ true
is_itself e = both_true (eq-eqb e.port e.port refl) (eq-eqb e.ask.source e.ask.source refl)

module _ (trace : List Entry) (k : ℕ) (e : Entry) (lasts new : List (List (Option ℕ))) (last : Option ℕ)
    (here : slice_get trace k ≡ Some e)
    (kept : IsOrderedTo trace k lasts) (at : cell lasts e.port e.ask.source ≡ Some last)
    (more : IsAtLeast last e.index → ⊥)
    (put : IsSetAt e.port e.ask.source (Some e.index) lasts new) where
  -- what is kept of the entry's own source and port
  own : (p s : ℕ) → ((e.port == p) && (e.ask.source == s)) ≡ true → (cell lasts p s ≡ Some last)
      × (cell new p s ≡ Some (Some e.index))
  own p s is =
      let parts = and_parts (e.port == p) (e.ask.source == s) is in
      let port = eqb-true e.port p parts.0 in
      let source = eqb-true e.ask.source s parts.1 in
      let was : cell lasts p s ≡ Some last = rw (← port, ← source) at in
      (was, rw (put p s, is, was) refl)

  bounds_more : (j : ℕ) (d : Entry) (now : Option ℕ) (b : Bool)
      → ((e.port == d.port) && (e.ask.source == d.ask.source)) ≡ b → j < k + 1
      → slice_get trace j ≡ Some d → cell new d.port d.ask.source ≡ Some now → IsAtLeast now d.index
  bounds_more j d now true is below there cell_is = ⊎_elim
      (λ (earlier : j < k).
      let mine = own d.port d.ask.source is in
      let bound = kept.bounds j d last earlier there mine.0 in
      let same : Some e.index ≡ now = let one = mine.1 in cc in
      rw (← same) (above last d.index e.index bound more))
      (λ (later : k ≤ j).
      let last_place : j ≡ k = omega arith in
      let same_entry : d ≡ e = let there_k = rw last_place at there in cc in
      let mine = own d.port d.ask.source is in
      let same : Some e.index ≡ now = let one = mine.1 in cc in
      rw (← same, same_entry) (omega arith))
      (cases_lt j k)
  bounds_more j d now false is below there cell_is = ⊎_elim
      (λ (earlier : j < k). kept.bounds j d now earlier there
      (let same = put d.port d.ask.source in
      let unchanged : cell new d.port d.ask.source ≡ cell lasts d.port d.ask.source = rw is at same in cc))
      (λ (later : k ≤ j).
      let last_place : j ≡ k = omega arith in
      let same_entry : d ≡ e = let there_k = rw last_place at there in cc in
      absurd (let itself = is_itself e in let apart = rw same_entry at is in cc))
      (cases_lt j k)

  seen_more : (p s index : ℕ) (b : Bool) → ((e.port == p) && (e.ask.source == s)) ≡ b → cell new p s ≡ Some (Some index)
      → IsSeen trace (k + 1) p s index
  seen_more p s index true is cell_is =
      let parts = and_parts (e.port == p) (e.ask.source == s) is in
      record {
        place = k;
        before = omega arith;
        entry = e;
        at = here;
        port = eqb-true e.port p parts.0;
        source = eqb-true e.ask.source s parts.1;
        is = let mine = (own p s is).1 in cc;
      }
  seen_more p s index false is cell_is =
      let same = put p s in
      let unchanged : cell new p s ≡ cell lasts p s = rw is at same in
      let before = kept.seen p s index (cc) in
      record {
        place = before.place;
        before = let less = before.before in omega arith;
        entry = before.entry;
        at = before.at;
        port = before.port;
        source = before.source;
        is = before.is;
      }

  ordered_last : (j : ℕ) → j < k + 1 → IsOutOfOrder trace j → ⊥
  ordered_last j below wrong = ⊎_elim
      (λ (earlier : j < k). kept.ordered j earlier wrong)
      (λ (later : k ≤ j).
      let last_place : j ≡ k = omega arith in
      let same_entry : wrong.later ≡ e = let there_k = rw last_place at wrong.at in cc in
      let before : wrong.early < k = let less = wrong.before in omega arith in
      let port : wrong.earlier.port ≡ e.port = rw (← same_entry) wrong.port in
      let source : wrong.earlier.ask.source ≡ e.ask.source = rw (← same_entry) wrong.source in
      let bound = kept.bounds wrong.early wrong.earlier last before wrong.at_early (rw (port, source) at) in
      let index : e.index ≤ wrong.earlier.index = rw (← same_entry) wrong.index in
      more (at_least_from last e.index wrong.earlier.index bound index))
      (cases_lt j k)

  pub ordered_more : IsOrderedTo trace (k + 1) new
  ordered_more = record {
    bounds = λ j d now below there cell_is. bounds_more j d now
        ((e.port == d.port) && (e.ask.source == d.ask.source)) refl below there cell_is;
    seen = λ p s index cell_is. seen_more p s index ((e.port == p) && (e.ask.source == s)) refl cell_is;
    ordered = ordered_last;
  }

-- a cell stays, whatever is kept
pub cells_more : (trace : List Entry) (p s : ℕ) (x : Option ℕ) (lasts new : List (List (Option ℕ)))
    → IsSetAt p s x lasts new → HaveCells lasts trace → HaveCells new trace
cells_more trace p s x lasts new put cells j d there =
    by_cell (cell lasts d.port d.ask.source) ((p == d.port) && (s == d.ask.source)) refl refl where
      by_cell : (o : Option (Option ℕ)) (b : Bool) → cell lasts d.port d.ask.source ≡ o
          → ((p == d.port) && (s == d.ask.source)) ≡ b → IsSome (cell new d.port d.ask.source)
      by_cell None b none is =
          absurd (let there_is : IsSome (cell lasts d.port d.ask.source) = cells j d there in
          false≢true (rw none at there_is))
      by_cell (Some y) true was is = rw (put d.port d.ask.source, is, was) refl
      by_cell (Some y) false was is = rw (put d.port d.ask.source, is, was) refl
