-- Flags of a block that say which bytes two requests leave unknown.
use Rattle.std.proofs.Common.{◌≡◌, ◌∙◌, ℕ, ◌+◌, Bool, true, false, ◌&&◌, ◌||◌, ◌↔◌, refl, sym, ap}
use Rattle.std.proofs.lemmas.Bool.{and_parts, and_from, false_from_ne_true}
use Rattle.tl_types.specs.Request.{Request}
use Rattle.tl_types.specs.declared.operation.AskOp.{AskOp}
use Rattle.tl_types.specs.declared.operation.AskOp.TheVariants.{PutFull, PutPartial, Arithmetic, Logical, Get, Intent}
use Rattle.check_memory.specs.Cells.{is_atomic}
use Rattle.check_memory.specs.Partial.{Partial, permits, placed}
use Rattle.check_contests.specs.Writes.{in_window, writes, may_write, combines, meets, leave_unknown}
use Rattle.check_contests.proofs.Blocks.{met_at, met_legal, unmet_leaves}
use Rattle.check_contests.proofs.Clash.{not_both, meets_at}
use Rattle.check_contests.proofs.Marks.{shared, or_false}

abbrev pub IsMet : Bool → Request → Request → Type 0
IsMet met ask other = (met ≡ true) ↔ ((address : ℕ) × (shared ask other address ≡ true))

-- a legal request may write the bytes that it writes
pub legal_writes : (memory : Partial) (ask : Request) (a : ℕ) → permits memory ask ≡ true
    → may_write memory ask a ≡ writes ask.op (placed memory ask) a
legal_writes memory ask a legal = rw (legal, may_write) refl

-- two that share no byte do not meet
pub unshared : (memory : Partial) (ask other : Request) (met : Bool) → permits memory ask ≡ true → IsMet met (placed memory ask) (placed memory other)
    → met ≡ false → meets memory ask other ≡ false
unshared memory ask other met legal says unmet =
    false_from_ne_true (meets memory ask other) (λ is.
    let at = met_at memory ask other is in
    not_both (says.1 (
      at.0,
      and_from (writes ask.op (placed memory ask) at.0) (writes other.op (placed memory other) at.0)
          (sym (legal_writes memory ask at.0 legal) ∙ at.1)
          (sym (legal_writes memory other at.0 (met_legal memory ask other is)) ∙ at.2),
    )) unmet)

-- two that share one do
shared_meet : (memory : Partial) (ask other : Request) (met : Bool) → permits memory ask ≡ true
    → permits memory other ≡ true → IsMet met (placed memory ask) (placed memory other) → met ≡ true → meets memory ask other ≡ true
shared_meet memory ask other met legal legal' says is =
    let at = says.0 is in
    let parts = and_parts (writes ask.op (placed memory ask) at.0) (writes other.op (placed memory other) at.0) at.1 in
    meets_at memory ask other at.0 (legal_writes memory ask at.0 legal ∙ parts.0)
    (legal_writes memory other at.0 legal' ∙ parts.1)

atomic_window : (op : AskOp) (ask : Request) (a : ℕ) → (is_atomic op && writes op ask a) ≡ (is_atomic op && in_window ask a)
atomic_window PutFull ask a = refl
atomic_window PutPartial ask a = refl
atomic_window (Arithmetic op) ask a = refl
atomic_window (Logical op) ask a = refl
atomic_window Get ask a = refl
atomic_window (Intent _) ask a = refl

combines_window : (memory : Partial) (ask : Request) (a : ℕ) → permits memory ask ≡ true
    → combines memory ask a ≡ (is_atomic ask.op && in_window (placed memory ask) a)
combines_window memory ask a legal =
    ap (λ b. is_atomic ask.op && b) (legal_writes memory ask a legal) ∙ atomic_window ask.op (placed memory ask) a

abbrev pub atomic_at : Request → ℕ → Bool
atomic_at ask a = is_atomic ask.op && in_window ask a

met_leaves : (memory : Partial) (ask other : Request) (a : ℕ) → permits memory ask ≡ true → permits memory other ≡ true
    → meets memory ask other ≡ true
    → leave_unknown memory ask other a ≡ (shared (placed memory ask) (placed memory other) a || atomic_at (placed memory ask) a || atomic_at (placed memory other) a)
met_leaves memory ask other a legal legal' met =
    ap (λ b. b && ((may_write memory ask a && may_write memory other a) || combines memory ask a || combines memory other a))
    met
    ∙ ap (λ b. (b && may_write memory other a) || combines memory ask a || combines memory other a)
    (legal_writes memory ask a legal)
    ∙ ap (λ b. (writes ask.op (placed memory ask) a && b) || combines memory ask a || combines memory other a)
    (legal_writes memory other a legal')
    ∙ ap (λ b. shared (placed memory ask) (placed memory other) a || b || combines memory other a) (combines_window memory ask a legal)
    ∙ ap (λ b. shared (placed memory ask) (placed memory other) a || atomic_at (placed memory ask) a || b) (combines_window memory other a legal')

joined : (a b c d : Bool) → (((a || b) || c) || d) ≡ (a || ((b || c) || d))
joined true b c d = refl
joined false b c d = refl

-- flags after each of the three steps
pub flags_met : (memory : Partial) (ask other : Request) (block k : ℕ) (met f0 f1 f2 f3 : Bool)
    → permits memory ask ≡ true → permits memory other ≡ true → IsMet met (placed memory ask) (placed memory other) → met ≡ true
    → f1 ≡ (f0 || shared (placed memory ask) (placed memory other) (block + k)) → f2 ≡ (f1 || atomic_at (placed memory ask) (block + k))
    → f3 ≡ (f2 || atomic_at (placed memory other) (block + k))
    → f3 ≡ (f0 || leave_unknown memory ask other (block + k))
flags_met memory ask other block k met f0 f1 f2 f3 legal legal' says is one two three =
    let a : ℕ = block + k in
    three ∙ ap (λ b. b || atomic_at (placed memory other) a) (two ∙ ap (λ b. b || atomic_at (placed memory ask) a) one)
    ∙ joined f0 (shared (placed memory ask) (placed memory other) a) (atomic_at (placed memory ask) a) (atomic_at (placed memory other) a)
    ∙ ap (λ b. f0 || b) (sym (met_leaves memory ask other a legal legal'
    (shared_meet memory ask other met legal legal' says is)))

-- flags where they do not meet
pub flags_unmet : (memory : Partial) (ask other : Request) (block k : ℕ) (met f0 f1 : Bool)
    → permits memory ask ≡ true → IsMet met (placed memory ask) (placed memory other) → met ≡ false
    → f1 ≡ (f0 || shared (placed memory ask) (placed memory other) (block + k)) → f1 ≡ (f0 || leave_unknown memory ask other (block + k))
flags_unmet memory ask other block k met f0 f1 legal says unmet one =
    one
    ∙ ap (λ b. f0 || b)
    (false_from_ne_true (shared (placed memory ask) (placed memory other) (block + k)) (λ is. not_both (says.1 (block + k, is)) unmet)
    ∙ sym (unmet_leaves memory ask other (block + k) (unshared memory ask other met legal says unmet)))

pub flags_same : (memory : Partial) (ask other : Request) (a : ℕ) (flag : Bool) → meets memory ask other ≡ false
    → flag ≡ (flag || leave_unknown memory ask other a)
flags_same memory ask other a flag unmet =
    or_false flag (leave_unknown memory ask other a) (unmet_leaves memory ask other a unmet)

pub not_met : (memory : Partial) (ask other : Request) (result : Bool) → (meets memory ask other ≡ true → result ≡ true)
    → result ≡ false → meets memory ask other ≡ false
not_met memory ask other result says is =
    false_from_ne_true (meets memory ask other) (λ met. not_both (says met) is)
