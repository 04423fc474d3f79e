-- The set of the sources that something is out for, after a change.
use Rattle.std.proofs.Common.{◌≡◌, ◌≢◌, ℕ, ◌<◌, ◌≤◌, ⊎_elim, cond, List, length, slice_set, replicate, Option, Some, None, is_some, IsSome, IfSome, unwrap_or, refl, ap, sym, ◌∙◌, arith, length-set}
use Rattle.std.proofs.lemmas.Bool.{cases_eq}
use Rattle.std.proofs.lemmas.List.{get_or-set_same, get_or-set_other, length-replicate}
use Rattle.tl_arena.specs.Views.{TicketView}
use Rattle.tl_master.specs.Master.{ticket_at, IsNextOut}
use Rattle.tl_master.specs.SourceSet.{source_bit, IsLowestIn, IsSetOfOut}
use Rattle.tl_master.proofs.Starting.{none_at}

-- the bit of a source that this is out for
abbrev pub shown : Option TicketView → ℕ
shown x = cond (is_some x) 1 0

some_shown : (x : Option TicketView) → shown x ≡ 1 → IsSome x
some_shown None is = absurd (omega (arith, is))
some_shown (Some t) is = refl

none_shown : (x : Option TicketView) → shown x ≡ 0 → x ≡ None
none_shown None is = refl
none_shown (Some t) is = absurd (omega (arith, is))

-- what is out for one source is now x, and the set shows it
pub busy_set : (words now : List ℕ) (out : List (Option TicketView)) (s : ℕ) (x : Option TicketView)
    → IsSetOfOut words out → s < length out → source_bit now s ≡ shown x
    → ((other : ℕ) → other ≢ s → source_bit now other ≡ source_bit words other) → IsSetOfOut now (slice_set out s x)
busy_set words now out s x was lt here else = record {
  known = let k = was.known in let same = length-set out s x in omega arith;
  each = λ z. ⊎_elim
      (λ (e : z ≡ s). ap (λ (k : ℕ). source_bit now k) e
      ∙ (here ∙ sym (ap (λ (k : ℕ). shown (ticket_at (slice_set out s x) k)) e
      ∙ ap shown (get_or-set_same out s x None lt))))
      (λ (ne : z ≢ s). else z ne ∙ (was.each z ∙ ap shown (sym (get_or-set_other out s z x None ne))))
      (cases_eq z s);
}

few_counted : (o : Option ℕ) → IfSome o (λ count. count ≤ 256) → unwrap_or o 0 ≤ 256
few_counted None few = omega arith
few_counted (Some count) few = few

-- nothing is out, and the set is empty
pub busy_none : (words : List ℕ) (out : List (Option TicketView)) (count : ℕ) (o : Option ℕ)
    → out ≡ replicate count None → count ≡ unwrap_or o 0 → IfSome o (λ count. count ≤ 256)
    → ((s : ℕ) → source_bit words s ≡ 0) → IsSetOfOut words out
busy_none words out count o none count_is few zeros = record {
  known = let long : length out ≡ count = ap length none ∙ length-replicate count None in
      let f : unwrap_or o 0 ≤ 256 = few_counted o few in omega arith;
  each = λ s. zeros s ∙ sym (ap (λ (xs : List (Option TicketView)). shown (ticket_at xs s)) none
      ∙ ap shown (none_at count s));
}

pub next_busy : (words : List ℕ) (out : List (Option TicketView)) (from source : ℕ) → IsSetOfOut words out
    → IsLowestIn words from source → IsNextOut out from source
next_busy words out from source set found = record {
  not_below = found.not_below;
  some = some_shown (ticket_at out source) (sym (set.each source) ∙ found.is_in);
  lowest = λ other after before. none_shown (ticket_at out other)
      (sym (set.each other) ∙ found.lowest other after before);
}

pub none_busy : (words : List ℕ) (out : List (Option TicketView)) (from : ℕ) → IsSetOfOut words out
    → ((source : ℕ) → from ≤ source → source_bit words source ≡ 0) → (source : ℕ) → from ≤ source
    → ticket_at out source ≡ None
none_busy words out from set none source after =
    none_shown (ticket_at out source) (sym (set.each source) ∙ none source after)
