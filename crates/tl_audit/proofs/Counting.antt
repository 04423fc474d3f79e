-- How often a place is named, as entries are counted one by one.
use Rattle.std.proofs.Common.{◌≡◌, ℕ, suc, zero, ◌+◌, ◌<◌, ◌==◌, Bool, true, false, List, [], ◌∷◌, ◌++◌, filter, take, Option, Some, None, option_map, slice_get, refl, arith}
use Rattle.std.proofs.Common.{IsSome}
use Rattle.std.proofs.lemmas.Bool.{and_parts, eqb-true, false≢true}
use Rattle.std.proofs.lemmas.List.{length-append}
use Rattle.std.proofs.lemmas.List.Elements.{filter-append}
use Rattle.std.proofs.lemmas.Option.{slice_get_within, get_or_from_slice_get}
use Rattle.std.proofs.Math.Seq.{take-suc}
use Rattle.tl_types.specs.declared.trace.Entry.{Entry}
use Rattle.tl_audit.specs.Agrees.{names, times_in, times_named}
use Rattle.tl_audit.specs.Marks.{AreMarkedBy, IsSetAt, NamePlaces, cell, next_of, next_times}
use Rattle.tl_audit.specs.declared.marks.Mark.{Mark}
use Rattle.tl_audit.specs.declared.marks.Mark.TheVariants.{Unnamed, NamedAgain}

-- the entry at place k is counted after those before it
counted_last : (p i k : ℕ) (trace : List Entry) (e : Entry) → slice_get trace k ≡ Some e
    → times_in p i (take (k + 1) trace) ≡ times_in p i (take k trace) + times_in p i (e ∷ [])
counted_last p i k trace e here =
    let next : k + 1 ≡ suc k = omega arith in
    rw (
      next,
      take-suc trace k e (slice_get_within trace k e here),
      get_or_from_slice_get trace k e e here,
      filter-append (names p i) (take k trace) (e ∷ []),
      length-append (filter (names p i) (take k trace)) (filter (names p i) (e ∷ [])),
    ) refl

once : (p i : ℕ) (e : Entry) → names p i e ≡ true → times_in p i (e ∷ []) ≡ 1
once p i e is = rw is refl

never : (p i : ℕ) (e : Entry) → names p i e ≡ false → times_in p i (e ∷ []) ≡ 0
never p i e is = rw is refl

next_in : (n : ℕ) (o : Option Mark) (mark : Mark) → option_map (next_times n) o ≡ Some mark
    → option_map (next_times (n + 1)) o ≡ Some (next_of mark)
next_in n None mark is = absurd cc
next_in n (Some m) mark is =
    let same : next_times n m ≡ mark = cc in
    let next : n + 1 ≡ suc n = omega arith in
    rw (next, same) refl

pub marked_more : (old rows new : List (List Mark)) (trace : List Entry) (k : ℕ) (e : Entry) (mark : Mark)
    → slice_get trace k ≡ Some e
    → AreMarkedBy (λ p i. times_in p i (take k trace)) old rows → cell rows e.port e.index ≡ Some mark
    → IsSetAt e.port e.index (next_of mark) rows new → AreMarkedBy (λ p i. times_in p i (take (k + 1) trace)) old new
marked_more old rows new trace k e mark here before at put p i = by_name (names p i e) refl where
  by_name : (b : Bool) → names p i e ≡ b → cell new p i ≡ option_map (next_times (times_in p i (take (k + 1) trace)))
      (cell old p i)
  by_name true is =
      let parts = and_parts (e.port == p) (e.index == i) is in
      let port = eqb-true e.port p parts.0 in
      let index = eqb-true e.index i parts.1 in
      let marked : cell rows p i ≡ Some mark = rw (← port, ← index) at in
      let was : option_map (next_times (times_in p i (take k trace))) (cell old p i) ≡ Some mark =
      rw (← before p i) marked in
      let now = next_in (times_in p i (take k trace)) (cell old p i) mark was in
      rw (counted_last p i k trace e here, once p i e is, now, put p i, is, marked) refl
  by_name false is =
      let same : times_in p i (take (k + 1) trace) ≡ times_in p i (take k trace) =
      rw (counted_last p i k trace e here, never p i e is) (omega arith) in
      rw (same, put p i, is, before p i) refl

-- ---- trace by trace

next_sum : (a b : ℕ) (mark : Mark) → next_times b (next_times a mark) ≡ next_times (b + a) mark
next_sum a zero mark = let same : 0 + a ≡ a = omega arith in rw same refl
next_sum a (suc b) mark =
    let same : suc b + a ≡ suc (b + a) = omega arith in
    rw (same, next_sum a b mark) refl

both_times : (a b : ℕ) (o : Option Mark)
    → option_map (next_times b) (option_map (next_times a) o) ≡ option_map (next_times (a + b)) o
both_times a b None = refl
both_times a b (Some mark) = let same : a + b ≡ b + a = omega arith in rw (same, next_sum a b mark) refl

times_last : (p i : ℕ) (traces : List (List Entry)) (trace : List Entry)
    → times_named (traces ++ trace ∷ []) p i ≡ times_named traces p i + times_in p i trace
times_last p i [] trace = omega arith
times_last p i (first ∷ traces) trace = rw (times_last p i traces trace) (omega arith)

pub marked_with : (old rows new : List (List Mark)) (traces : List (List Entry)) (k : ℕ) (trace : List Entry)
    → slice_get traces k ≡ Some trace
    → AreMarkedBy (times_named (take k traces)) old rows → AreMarkedBy (λ p i. times_in p i trace) rows new
    → AreMarkedBy (times_named (take (k + 1) traces)) old new
marked_with old rows new traces k trace here before more p i =
    let next : k + 1 ≡ suc k = omega arith in
    rw (
      next,
      take-suc traces k trace (slice_get_within traces k trace here),
      get_or_from_slice_get traces k trace trace here,
      times_last p i (take k traces) trace,
      more p i,
      before p i,
      both_times (times_named (take k traces) p i) (times_in p i trace) (cell old p i),
    ) refl

-- a place keeps its mark, whatever is marked
pub still_there : (old new : List (List Mark)) (times : ℕ → ℕ → ℕ) → AreMarkedBy times old new → (trace : List Entry)
    → NamePlaces old trace → NamePlaces new trace
still_there old new times marked trace places k e here = by_cell (cell old e.port e.index) refl where
  by_cell : (o : Option Mark) → cell old e.port e.index ≡ o → IsSome (cell new e.port e.index)
  by_cell None none = let there : IsSome (cell old e.port e.index) = places k e here in
      absurd (false≢true (rw none at there))
  by_cell (Some mark) is = rw (marked e.port e.index, is) refl

-- marks that were none before count the entries of all traces
pub counted : {B : Type 0} (n : ℕ) (mark : Mark) (o : Option B)
    → option_map (next_times n) (option_map (λ (_ : B). mark) o) ≡ option_map (λ (_ : B). next_times n mark) o
counted n mark None = refl
counted n mark (Some x) = refl

-- ---- what a mark tells

twice_named : (n : ℕ) → next_times (suc (suc n)) Unnamed ≡ NamedAgain
twice_named zero = refl
twice_named (suc n) = rw (twice_named n) refl

pub named_again : (n : ℕ) → next_times n Unnamed ≡ NamedAgain → 1 < n
named_again zero is = absurd cc
named_again (suc zero) is = absurd cc
named_again (suc (suc n)) is = omega arith

pub named_never : (n : ℕ) → next_times n Unnamed ≡ Unnamed → n ≡ 0
named_never zero is = refl
named_never (suc zero) is = absurd cc
named_never (suc (suc n)) is = absurd (let other = twice_named n in cc)

pub named_once : (n : ℕ) → (next_times n Unnamed ≡ Unnamed → ⊥) → (next_times n Unnamed ≡ NamedAgain → ⊥) → n ≡ 1
named_once zero some few = absurd (some refl)
named_once (suc zero) some few = refl
named_once (suc (suc n)) some few = absurd (few (twice_named n))
