-- Two requests that leave a byte known do not both write it, and an atomic of them is alone in its window.
use Rattle.std.proofs.Common.{◌≡◌, ◌∙◌, ℕ, ◌^◌, Bool, true, false, ◌&&◌, ◌||◌, get_or, sym, subst, arith}
use Rattle.std.specs.List.{range_with_len}
use Rattle.std.proofs.lemmas.Bool.{and_parts, and_from, or_left, or_right, false_from_ne_true}
use Rattle.std.proofs.lemmas.List.Folds.{list_any_at}
use Rattle.std.proofs.lemmas.List.FromFn.{length-range_with_len, get_or-range_with_len}
use Rattle.tl_types.specs.Request.{Request}
use Rattle.check_memory.specs.Cells.{is_atomic}
use Rattle.check_memory.specs.Partial.{Partial, permits, start_of, placed}
use Rattle.check_contests.specs.Writes.{writes, may_write, combines, meets, leave_unknown}
use Rattle.check_contests.proofs.Effect.{place_in, written_in}

pub not_both : {b : Bool} {A : Type 0} → b ≡ true → b ≡ false → A
not_both one other = let e : true ≡ false = sym one ∙ other in cc

abbrev both : Partial → Request → Request → ℕ → Bool
both memory ask other a = may_write memory ask a && may_write memory other a

-- they meet where there is a byte that both may write
pub meets_at : (memory : Partial) (ask other : Request) (a : ℕ) → may_write memory ask a ≡ true
    → may_write memory other a ≡ true → meets memory ask other ≡ true
meets_at memory ask other a may may' =
    let parts = and_parts (permits memory ask) (writes ask.op (placed memory ask) a) may in
    let place = place_in (placed memory ask) a (written_in ask.op (placed memory ask) a parts.1) in
    let at : get_or (range_with_len (start_of memory ask) (2 ^ ask.size)) place.0 0 ≡ a =
    get_or-range_with_len (start_of memory ask) (2 ^ ask.size) place.0 0 place.1 ∙ sym place.2 in
    let P : ℕ → Type 0 = λ n. both memory ask other n ≡ true in
    list_any_at (both memory ask other) (range_with_len (start_of memory ask) (2 ^ ask.size)) place.0 0
    (omega (arith, length-range_with_len (start_of memory ask) (2 ^ ask.size), place.1))
    (subst P (sym at) (and_from (may_write memory ask a) (may_write memory other a) may may'))

-- a byte that both may write is left unknown
pub apart_at : (memory : Partial) (ask other : Request) (a : ℕ) → leave_unknown memory ask other a ≡ false
    → may_write memory ask a ≡ true → may_write memory other a ≡ false
apart_at memory ask other a known may =
    false_from_ne_true (may_write memory other a) (λ may'.
    not_both
    (and_from (meets memory ask other)
    (both memory ask other a || combines memory ask a || combines memory other a)
    (meets_at memory ask other a may may')
    (or_left (both memory ask other a || combines memory ask a) (combines memory other a)
    (or_left (both memory ask other a) (combines memory ask a)
    (and_from (may_write memory ask a) (may_write memory other a) may may'))))
    known)

-- where one of them is an atomic that may write a byte that is left known, they do not meet
pub apart_by_ours : (memory : Partial) (ask other : Request) (a : ℕ) → leave_unknown memory ask other a ≡ false
    → is_atomic ask.op ≡ true → may_write memory ask a ≡ true
    → (b : ℕ) → may_write memory ask b ≡ true → may_write memory other b ≡ false
apart_by_ours memory ask other a known atomic may b here =
    false_from_ne_true (may_write memory other b) (λ there.
    not_both
    (and_from (meets memory ask other)
    (both memory ask other a || combines memory ask a || combines memory other a)
    (meets_at memory ask other b here there)
    (or_left (both memory ask other a || combines memory ask a) (combines memory other a)
    (or_right (both memory ask other a) (combines memory ask a)
    (and_from (is_atomic ask.op) (may_write memory ask a) atomic may))))
    known)

pub apart_by_other : (memory : Partial) (ask other : Request) (a : ℕ) → leave_unknown memory ask other a ≡ false
    → is_atomic other.op ≡ true → may_write memory other a ≡ true
    → (b : ℕ) → may_write memory other b ≡ true → may_write memory ask b ≡ false
apart_by_other memory ask other a known atomic may b there =
    false_from_ne_true (may_write memory ask b) (λ here.
    not_both
    (and_from (meets memory ask other)
    (both memory ask other a || combines memory ask a || combines memory other a)
    (meets_at memory ask other b here there)
    (or_right (both memory ask other a || combines memory ask a) (combines memory other a)
    (and_from (is_atomic other.op) (may_write memory other a) atomic may)))
    known)
