-- The memory that forgets the bytes that are flagged is the one without those that are contested.
use Rattle.std.proofs.Common.{◌≡◌, ◌∙◌, ◌⊎◌, inl, inr, ⊎_elim, ℕ, zero, suc, ◌+◌, ◌^◌, ◌<◌, ◌≤◌, Bool, true, false, ◌&&◌, ◌||◌, if◌then◌else◌, List, [], ◌∷◌, ◌++◌, length, map, take, drop, get_or, Option, None, refl, sym, ap, arith}
use Rattle.std.specs.List.{zip, range_with_len}
use Rattle.std.proofs.lemmas.Bool.{and_left, and_right}
use Rattle.tl_types.specs.Operation.{carries_bytes}
use Rattle.tl_types.specs.Request.{Request}
use Rattle.check_memory.specs.Cells.{forgotten_cell, forgotten}
use Rattle.check_memory.specs.Partial.{Partial, permits, takes_bytes, after_partial, after_forgetting, start_of, placed}
use Rattle.check_memory.proofs.Unknown.{unknown_none, unknown-same, unknown-twice}
use Rattle.check_contests.specs.Writes.{writes, may_write, leave_unknown, unknown_where}
use Rattle.check_contests.specs.Cut.{memory_cut}
use Rattle.check_contests.specs.Contests.{Accepted, is_contested, contested_in}
use Rattle.check_contests.proofs.Blocks.{unmet_leaves}
use Rattle.check_contests.proofs.Dues.{carries_none}
use Rattle.check_contests.proofs.Uncontested.{any_none, leaves_is, denied_leaves}

-- ---- cells under flags

abbrev marked : List Bool → List (Option ℕ) → List (Option ℕ)
marked flags cells = map (λ pair. forgotten_cell pair.0 pair.1) (zip flags cells)

marked_cell : (flag test : Bool) (cell : Option ℕ) → flag ≡ test
    → forgotten_cell flag cell ≡ (if test then None else cell)
marked_cell true true cell is = refl
marked_cell true false cell is = cc
marked_cell false true cell is = cc
marked_cell false false cell is = refl

marked-unknown : (test : ℕ → Bool) (flags : List Bool) (cells : List (Option ℕ))
    → ((k : ℕ) → k < length flags → get_or flags k false ≡ test k)
    → ((k : ℕ) → length flags ≤ k → test k ≡ false)
    → marked flags cells ++ drop (length (marked flags cells)) cells ≡ unknown_where test cells
marked-unknown test [] cells here there = sym (unknown_none test cells (λ k below. there k (omega arith)))
marked-unknown test (flag ∷ flags) [] here there = refl
marked-unknown test (flag ∷ flags) (cell ∷ cells) here there =
    ap (λ (c : Option ℕ). c ∷ (marked flags cells ++ drop (length (marked flags cells)) cells))
    (marked_cell flag (test 0) cell (here 0 (omega arith)))
    ∙ ap (λ (rest : List (Option ℕ)). (if test 0 then None else cell) ∷ rest)
    (marked-unknown (λ k. test (suc k)) flags cells (λ k below. here (suc k) (omega (arith, below)))
    (λ k past. there (suc k) (omega (arith, past))))

abbrev pub Flagged : (ℕ → Bool) → List Bool → ℕ → Type 0
Flagged test flags start = (k : ℕ) → k < length flags → get_or flags k false ≡ test (start + k)

abbrev pub Unflagged : (ℕ → Bool) → List Bool → ℕ → Type 0
Unflagged test flags start = (a : ℕ) → (a < start) ⊎ (start + length flags ≤ a) → test a ≡ false

marked_empty : (flags : List Bool) → marked flags [] ≡ []
marked_empty [] = refl
marked_empty (flag ∷ flags) = refl

forgotten_empty : (flags : List Bool) (start : ℕ) → forgotten flags (suc start) [] ≡ []
forgotten_empty flags start =
    ap (λ (m : List (Option ℕ)). m ++ drop (suc start + length m) []) (marked_empty flags)
    ∙ drop_empty (suc start + 0)
  where
    drop_empty : (n : ℕ) → drop {A = Option ℕ} n [] ≡ []
    drop_empty zero = refl
    drop_empty (suc n) = refl

forgotten_next : (flags : List Bool) (start : ℕ) (cell : Option ℕ) (cells : List (Option ℕ))
    → forgotten flags (suc start) (cell ∷ cells) ≡ cell ∷ forgotten flags start cells
forgotten_next flags start cell cells =
    let m = marked flags (drop start cells) in
    let e : suc start + length m ≡ suc (start + length m) = omega arith in
    ap (λ n. cell ∷ ((take start cells ++ m) ++ drop n (cell ∷ cells))) e

pub forgotten-unknown : (test : ℕ → Bool) (flags : List Bool) (start : ℕ) (cells : List (Option ℕ))
    → Flagged test flags start → Unflagged test flags start
    → forgotten flags start cells ≡ unknown_where test cells
forgotten-unknown test flags zero cells here there =
    let e : 0 + length (marked flags cells) ≡ length (marked flags cells) = omega arith in
    ap (λ n. marked flags cells ++ drop n cells) e
    ∙ marked-unknown test flags cells
    (λ k below. let same : 0 + k ≡ k = omega arith in here k below ∙ ap test same)
    (λ k past. there k (inr (omega (arith, past))))
forgotten-unknown test flags (suc start) [] here there = forgotten_empty flags start
forgotten-unknown test flags (suc start) (cell ∷ cells) here there =
    forgotten_next flags start cell cells
    ∙ ap (λ (rest : List (Option ℕ)). cell ∷ rest)
    (forgotten-unknown (λ k. test (suc k)) flags start cells
    (λ k below. let same : suc start + k ≡ suc (start + k) = omega arith in here k below ∙ ap test same)
    (λ a beside. there (suc a)
    (⊎_elim (λ before. inl (omega (arith, before))) (λ past. inr (omega (arith, past))) beside)))
    ∙ ap (λ (b : Bool). (if b then None else cell) ∷ unknown_where (λ k. test (suc k)) cells)
    (sym (there 0 (inl (omega arith))))

-- ---- the memory

-- a request has taken effect, and then what is contested is forgotten
pub forgetting_is : (memory : Partial) (kept : List Accepted) (ask : Request) (first : ℕ) (flags : List Bool)
    → takes_bytes memory ask ≡ true → Flagged (is_contested memory kept ask) flags first
    → Unflagged (is_contested memory kept ask) flags first
    → after_forgetting memory ask first flags ≡ contested_in memory kept ask (after_partial memory ask)
forgetting_is memory kept ask first flags takes here there =
    forgets takes
    ∙ ap (λ (cells : List (Option ℕ)). record (after_partial memory ask) { cells = cells })
    (forgotten-unknown (is_contested memory kept ask) flags first (after_partial memory ask).cells here there)
  where
    forgets : takes_bytes memory ask ≡ true → after_forgetting memory ask first flags
        ≡ record (after_partial memory ask) { cells = forgotten flags first (after_partial memory ask).cells }
    forgets is = rw (is, after_forgetting) refl

-- what is contested is forgotten, and what the request itself may write
pub cutting_is : (memory : Partial) (kept : List Accepted) (ask : Request) (first : ℕ) (flags : List Bool)
    → Flagged (λ a. is_contested memory kept ask a || may_write memory ask a) flags first
    → Unflagged (λ a. is_contested memory kept ask a || may_write memory ask a) flags first
    → record memory { cells = forgotten flags first memory.cells }
    ≡ contested_in memory kept ask (memory_cut memory ask)
cutting_is memory kept ask first flags here there =
    ap (λ (cells : List (Option ℕ)). record memory { cells = cells })
    (forgotten-unknown (λ a. is_contested memory kept ask a || may_write memory ask a) flags first memory.cells here there
    ∙ unknown-same (λ a. is_contested memory kept ask a || may_write memory ask a)
    (λ a. may_write memory ask a || is_contested memory kept ask a) memory.cells
    (λ a. swapped (is_contested memory kept ask a) (may_write memory ask a))
    ∙ sym (unknown-twice (may_write memory ask) (is_contested memory kept ask) memory.cells))
  where
    swapped : (b c : Bool) → (b || c) ≡ (c || b)
    swapped true true = refl
    swapped true false = refl
    swapped false true = refl
    swapped false false = refl

-- one that carries no bytes, or is denied, contests nothing
pub carrying_leaves : (memory : Partial) (ask other : Request) (a : ℕ) → carries_bytes ask.op ≡ false
    → leave_unknown memory ask other a ≡ false
carrying_leaves memory ask other a none =
    unmet_leaves memory ask other a
    (any_none (λ b. may_write memory ask b && may_write memory other b) (range_with_len (start_of memory ask) (2 ^ ask.size))
    (λ b. and_left (may_write memory ask b) (may_write memory other b)
    (and_right (permits memory ask) (writes ask.op (placed memory ask) b)
    (carries_none ask.op (placed memory ask) b none))))

pub not_taken : (memory : Partial) (kept : List Accepted) (ask : Request) (after : Partial) → carries_bytes ask.op ≡ false
    → after ≡ contested_in memory kept ask after
not_taken memory kept ask after none =
    sym (leaves_is memory kept ask after (λ a. any_none (λ (e : Accepted). leave_unknown memory ask e.ask a) kept
    (λ entry. carrying_leaves memory ask entry.ask a none)))

pub denied_is : (memory : Partial) (kept : List Accepted) (ask : Request) (after : Partial) → permits memory ask ≡ false
    → after ≡ contested_in memory kept ask after
denied_is memory kept ask after is =
    sym (leaves_is memory kept ask after (λ a. any_none (λ (e : Accepted). leave_unknown memory ask e.ask a) kept
    (λ entry. denied_leaves memory ask entry.ask a is)))
