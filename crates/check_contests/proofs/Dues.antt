-- What is due, once bytes of it are made unknown.
use Rattle.std.proofs.Common.{◌≡◌, ◌∙◌, ℕ, ◌+◌, ◌<◌, Bool, true, false, ◌&&◌, List, length, Option, refl, sym, ap, subst, arith}
use Rattle.std.specs.Prelude.{◌↔◌}
use Rattle.std.proofs.lemmas.Bool.{and_left, and_right, false_from_ne_true}
use Rattle.tl_types.specs.Operation.{carries_bytes}
use Rattle.tl_types.specs.Request.{Request}
use Rattle.tl_types.specs.declared.operation.AskOp.{AskOp}
use Rattle.tl_types.specs.declared.operation.AskOp.TheVariants.{PutFull, PutPartial, Arithmetic, Logical, Get, Intent}
use Rattle.check_memory.specs.Partial.{Partial, permits, start_of, placed}
use Rattle.check_memory.proofs.Unknown.{unknown-same}
use Rattle.check_memory.specs.Pattern.{Pattern}
use Rattle.check_contests.specs.Writes.{in_window, writes, may_write, unknown_where}
use Rattle.check_contests.specs.Contests.{due_beside}
use Rattle.check_contests.proofs.Clash.{not_both}
use Rattle.check_contests.proofs.Expected.{beside_legal, beside_denied}
use Rattle.check_contests.proofs.Near.{IsNear, not_written}
use Rattle.check_contests.proofs.Uncontested.{due_stays}

-- ---- what is due
-- a request that carries no bytes writes none
pub carries_none : (op : AskOp) (ask : Request) (a : ℕ) → carries_bytes op ≡ false → writes op ask a ≡ false
carries_none PutFull ask a none = cc
carries_none PutPartial ask a none = cc
carries_none (Arithmetic op) ask a none = cc
carries_none (Logical op) ask a none = cc
carries_none Get ask a none = refl
carries_none (Intent _) ask a none = refl

-- one that may write no byte of it leaves it as it is
pub stays_beside : (memory : Partial) (ask other : Request) (due : Pattern)
    → ((k : ℕ) → k < length due.bytes → writes other.op (placed memory other) (start_of memory ask + k) ≡ false)
    → due ≡ due_beside memory ask (may_write memory other) due
stays_beside memory ask other due none =
    sym (due_stays memory ask (may_write memory other) due
    (λ k below. and_right (permits memory other) (writes other.op (placed memory other) (start_of memory ask + k)) (none k below)))

pub stays_carrying : (memory : Partial) (ask other : Request) (due : Pattern) → carries_bytes other.op ≡ false
    → due ≡ due_beside memory ask (may_write memory other) due
stays_carrying memory ask other due none =
    stays_beside memory ask other due (λ k below. carries_none other.op (placed memory other) (start_of memory ask + k) none)

pub stays_far : (memory : Partial) (ask other : Request) (due : Pattern) (address count : ℕ) (near : Bool)
    → (near ≡ true) ↔ IsNear (placed memory other) address count → near ≡ false → address ≡ (start_of memory ask) → count ≡ length due.bytes
    → due ≡ due_beside memory ask (may_write memory other) due
stays_far memory ask other due address count near says far here counted =
    stays_beside memory ask other due (λ k below.
    not_written other.op (placed memory other) (start_of memory ask + k) (false_from_ne_true (in_window (placed memory other) (start_of memory ask + k)) (λ is.
    let is' : in_window (placed memory other) (address + k) ≡ true =
    subst (λ (n : ℕ). in_window (placed memory other) (n + k) ≡ true) (sym here) is in
    not_both (says.1 (k, omega (arith, below, counted), is')) far)))

pub stays_denied : (memory : Partial) (ask other : Request) (due : Pattern) → permits memory ask ≡ false
    → due ≡ due_beside memory ask (may_write memory other) due
stays_denied memory ask other due is = sym (beside_denied memory ask (may_write memory other) due is)

pub stays_by_denied : (memory : Partial) (ask other : Request) (due : Pattern) → permits memory other ≡ false
    → due ≡ due_beside memory ask (may_write memory other) due
stays_by_denied memory ask other due is =
    sym (due_stays memory ask (may_write memory other) due
    (λ k below. and_left (permits memory other) (writes other.op (placed memory other) (start_of memory ask + k)) is))

-- one that is legal, and another one
pub hidden_by : (memory : Partial) (ask other : Request) (due : Pattern) → permits memory ask ≡ true
    → permits memory other ≡ true
    → record due { bytes = unknown_where (λ place. writes other.op (placed memory other) (start_of memory ask + place)) due.bytes }
    ≡ due_beside memory ask (may_write memory other) due
hidden_by memory ask other due legal legal' =
    ap (λ (bytes : List (Option ℕ)). record due { bytes = bytes })
    (unknown-same (λ place. writes other.op (placed memory other) (start_of memory ask + place)) (λ place. may_write memory other (start_of memory ask + place))
    due.bytes (λ k. sym (and_true (permits memory other) (writes other.op (placed memory other) (start_of memory ask + k)) legal')))
    ∙ sym (beside_legal memory ask (may_write memory other) due legal)
  where
    and_true : (b x : Bool) → b ≡ true → (b && x) ≡ x
    and_true b x is = rw is refl
