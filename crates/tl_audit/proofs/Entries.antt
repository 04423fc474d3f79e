-- Entries at places of traces.
use Rattle.std.proofs.Common.{◌≡◌, ℕ, suc, ◌+◌, ◌<◌, List, All, length, take, Option, Some, None, slice_get, refl, sym, arith}
use Rattle.std.proofs.Math.Seq.{take-suc}
use Rattle.std.proofs.lemmas.List.Elements.{All-push}
use Rattle.std.proofs.lemmas.Option.{get_or_from_slice_get, slice_get-map, slice_get_within}
use Rattle.tl_types.specs.declared.trace.Entry.{Entry}
use Rattle.tl_journal.specs.Trace.{TraceView}
use Rattle.tl_journal.specs.Trace.{entries_in}
use Rattle.tl_audit.specs.Agrees.{HasEntry}

-- what holds of all holds of the one at a place
pub of_all : {A : Type 0} (P : A → Type 0) (xs : List A) (k : ℕ) (x : A) → slice_get xs k ≡ Some x → All P xs → P x
of_all P xs k x at all = rw (sym (get_or_from_slice_get xs k x x at)) (all k x (slice_get_within xs k x at))

-- what holds of all before a place, and of the one there, holds of all before the next place
pub all_more : {A : Type 0} (P : A → Type 0) (xs : List A) (k : ℕ) (x : A) → slice_get xs k ≡ Some x → All P (take k xs)
    → P x → All P (take (k + 1) xs)
all_more P xs k x at all is =
    let next : k + 1 ≡ suc k = omega arith in
    rw (next, take-suc xs k x (slice_get_within xs k x at), get_or_from_slice_get xs k x x at)
    (All-push P (take k xs) x all is)

-- the entry stands in the master's trace
pub entry_in : (traces : List (List Entry)) (m k : ℕ) (trace : List Entry) (e : Entry) → slice_get traces m ≡ Some trace
    → HasEntry traces m k e → slice_get trace k ≡ Some e
entry_in traces m k trace e there has = rw there at has

-- a master that has an entry has a trace
pub has_master : (traces : List (List Entry)) (m k : ℕ) (e : Entry) → HasEntry traces m k e → m < length traces
has_master traces m k e has = by_trace (slice_get traces m) refl where
  by_trace : (o : Option (List Entry)) → slice_get traces m ≡ o → m < length traces
  by_trace None none = absurd (rw none at has)
  by_trace (Some trace) there = slice_get_within traces m trace there

-- a trace's entries
pub trace_at : (traces : List TraceView) (k : ℕ) (trace : TraceView) → slice_get traces k ≡ Some trace
    → slice_get (entries_in traces) k ≡ Some trace.items
trace_at traces k trace at = rw (slice_get-map (λ (t : TraceView). t.items) traces k, at) refl
