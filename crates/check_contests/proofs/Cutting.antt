-- The bytes that a request may write which was cut short are those that are flagged.
use Rattle.std.proofs.Common.{◌≡◌, ◌∙◌, ◌⊎◌, ⊎_elim, ℕ, ◌+◌, ◌^◌, ◌<◌, ◌≤◌, Bool, true, false, ◌&&◌, ◌||◌, List, length, get_or, Option, refl, sym, ap, subst, arith}
use Rattle.std.proofs.lemmas.Bool.{and_left, and_right, or_from, false_from_ne_true}
use Rattle.tl_types.specs.Operation.{carries_bytes}
use Rattle.tl_types.specs.Request.{Request}
use Rattle.check_memory.specs.Cells.{forgotten}
use Rattle.check_memory.specs.Partial.{Partial, permits, start_of, placed}
use Rattle.check_memory.proofs.Unknown.{unknown_none}
use Rattle.check_contests.specs.Writes.{in_window, writes, may_write, LiesIn}
use Rattle.check_contests.specs.Contests.{Accepted, is_contested, contested_in}
use Rattle.check_contests.specs.Cut.{memory_cut}
use Rattle.check_contests.proofs.Blocks.{in_lying}
use Rattle.check_contests.proofs.Contested.{legal_writes}
use Rattle.check_contests.proofs.Dues.{carries_none}
use Rattle.check_contests.proofs.Forgetting.{Flagged, Unflagged, forgotten-unknown, cutting_is}
use Rattle.check_contests.proofs.Near.{out_below, out_above, not_written}

-- the same request from another address on
abbrev pub from : Request → ℕ → Request
from ask start = record ask { address = start }

true_and : (a b : Bool) → a ≡ true → b ≡ (a && b)
true_and true b is = refl
true_and false b is = cc

-- a legal one, with flags for its window from where that stands on
pub cut_is : (memory : Partial) (ask : Request) (start : ℕ) (flags : List Bool) → start ≡ start_of memory ask
    → permits memory ask ≡ true → length flags ≡ 2 ^ ask.size
    → ((k : ℕ) → k < length flags → get_or flags k false ≡ writes ask.op (from ask start) (start + k))
    → record memory { cells = forgotten flags start memory.cells } ≡ memory_cut memory ask
cut_is memory ask start flags at legal wide here =
    ap (λ (cells : List (Option ℕ)). record memory { cells = cells })
    (forgotten-unknown (may_write memory ask) flags start memory.cells
    (λ k below. here k below
    ∙ ap (λ n. writes ask.op (from ask n) (start + k)) at
    ∙ true_and (permits memory ask) (writes ask.op (placed memory ask) (start + k)) legal)
    (λ a beside. and_right (permits memory ask) (writes ask.op (placed memory ask) a)
    (not_written ask.op (placed memory ask) a
    (⊎_elim (λ before. out_below (placed memory ask) a (omega (arith, before, at)))
    (λ past. out_above (placed memory ask) a (omega (arith, past, at, wide))) beside))))

-- one that may write nothing
cut_none : (memory : Partial) (ask : Request) → ((a : ℕ) → may_write memory ask a ≡ false) → memory ≡ memory_cut memory ask
cut_none memory ask none =
    ap (λ (cells : List (Option ℕ)). record memory { cells = cells })
    (sym (unknown_none (may_write memory ask) memory.cells (λ k below. none k)))

-- as one that is denied
pub denied_cut : (memory : Partial) (ask : Request) → permits memory ask ≡ false → memory ≡ memory_cut memory ask
denied_cut memory ask is =
    cut_none memory ask (λ a. and_left (permits memory ask) (writes ask.op (placed memory ask) a) is)

-- or one that carries no bytes
pub carrying_cut : (memory : Partial) (ask : Request) → carries_bytes ask.op ≡ false → memory ≡ memory_cut memory ask
carrying_cut memory ask none =
    cut_none memory ask (λ a. and_right (permits memory ask) (writes ask.op (placed memory ask) a)
    (carries_none ask.op (placed memory ask) a none))

-- a legal one beside those kept, with flags for what is contested, and then for what it writes too
pub corrupt_is : (memory : Partial) (kept : List Accepted) (ask : Request) (first : ℕ) (marked flags : List Bool)
    → permits memory ask ≡ true → LiesIn (placed memory ask) first (length marked)
    → Flagged (is_contested memory kept ask) marked first → Unflagged (is_contested memory kept ask) marked first
    → ((k : ℕ) → k < length marked
    → get_or flags k false ≡ (get_or marked k false || writes ask.op (placed memory ask) (first + k)))
    → length flags ≡ length marked
    → record memory { cells = forgotten flags first memory.cells } ≡ contested_in memory kept ask (memory_cut memory ask)
corrupt_is memory kept ask first marked flags legal lies here there own long =
    cutting_is memory kept ask first flags
    (λ k below.
    let below' : k < length marked = omega (arith, below, long) in
    own k below'
    ∙ ap (λ b. b || writes ask.op (placed memory ask) (first + k)) (here k below')
    ∙ ap (λ b. is_contested memory kept ask (first + k) || b) (sym (legal_writes memory ask (first + k) legal)))
    (λ a beside.
    let beside' : (a < first) ⊎ (first + length marked ≤ a) =
    subst (λ (n : ℕ). (a < first) ⊎ (first + n ≤ a)) long beside in
    or_from (is_contested memory kept ask a) (may_write memory ask a) (there a beside')
    (and_right (permits memory ask) (writes ask.op (placed memory ask) a)
    (not_written ask.op (placed memory ask) a (false_from_ne_true (in_window (placed memory ask) a) (λ is.
    let at = in_lying (placed memory ask) first (length marked) a lies is in
    ⊎_elim (λ (before : a < first). omega (arith, at.0, before))
    (λ (past : first + length marked ≤ a). omega (arith, at.1, past)) beside')))))
