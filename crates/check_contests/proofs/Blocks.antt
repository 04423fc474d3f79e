-- Windows lie in blocks, and two that have a byte in common in one block.
use Rattle.std.proofs.Common.{List, [], ◌∷◌, ◌≡◌, ◌∙◌, ◌⊎◌, ⊎_elim, ℕ, zero, suc, ◌+◌, ◌%◌, ◌^◌, ◌<◌, ◌≤◌, Bool, true, false, ◌&&◌, ◌||◌, sym, ap, subst, lit≤, arith}
use Rattle.std.proofs.lemmas.Bool.{and_parts, and_left, or_cases, cases_lt, false_from_ne_true, true_from_ne_false}
use Rattle.std.proofs.Math.Nat.{pow-le-pow_right}
use Rattle.std.specs.List.{list_any, range_with_len}
use Rattle.tl_types.specs.Operation.{carries_bytes}
use Rattle.tl_types.specs.Request.{Request}
use Rattle.check_memory.specs.Cells.{is_atomic}
use Rattle.check_memory.specs.Partial.{Partial, permits, block_of, start_of, placed}
use Rattle.check_memory.proofs.Legal.{aligned}
use Rattle.check_memory.proofs.SeenWindows.{unmoved}
use Rattle.check_contests.specs.Writes.{in_window, writes, may_write, combines, meets, leave_unknown, LiesIn, Share, Reaches}
use Rattle.check_contests.proofs.Clash.{not_both}
use Rattle.check_contests.proofs.Dues.{carries_none}
use Rattle.check_contests.proofs.Effect.{place_in, in_here, written_in}
use Rattle.check_contests.proofs.Near.{IsNear}

small_if : (size : ℕ) → 2 ^ size ≤ 256 → size ≤ 8
small_if size limit = ⊎_elim
    (λ (below : size < 9). omega (arith, below))
    (λ (from : 9 ≤ size). let more : 512 ≤ 2 ^ size = pow-le-pow_right (lit≤ tt) from in absurd (omega (arith, more, limit)))
    (cases_lt size 9)

in_block : (address size : ℕ) → size ≤ 8 → address % 2 ^ size ≡ 0 → address % 256 + 2 ^ size ≤ 256
in_block address zero small is = omega arith
in_block address (suc zero) small is = omega (arith, is)
in_block address (suc (suc zero)) small is = omega (arith, is)
in_block address (suc (suc (suc zero))) small is = omega (arith, is)
in_block address (suc (suc (suc (suc zero)))) small is = omega (arith, is)
in_block address (suc (suc (suc (suc (suc zero))))) small is = omega (arith, is)
in_block address (suc (suc (suc (suc (suc (suc zero)))))) small is = omega (arith, is)
in_block address (suc (suc (suc (suc (suc (suc (suc zero))))))) small is = omega (arith, is)
in_block address (suc (suc (suc (suc (suc (suc (suc (suc zero)))))))) small is = omega (arith, is)
in_block address (suc (suc (suc (suc (suc (suc (suc (suc (suc size))))))))) small is = absurd (omega (arith, small))

lies_in_own : (memory : Partial) (ask : Request) → permits memory ask ≡ true → 2 ^ ask.size ≤ 256
    → LiesIn ask (block_of ask.address) 256
lies_in_own memory ask legal limit =
    let fits : ask.address % 256 + 2 ^ ask.size ≤ 256 =
    in_block ask.address ask.size (small_if ask.size limit) (aligned memory ask legal) in
    record { from = omega arith; to = omega (arith, fits) }

-- in a memory that is seen in one place
placed_in_own : (memory : Partial) (ask : Request) → memory.mirrors ≡ [] → permits memory ask ≡ true → 2 ^ ask.size ≤ 256
    → LiesIn (placed memory ask) (block_of (start_of memory ask)) 256
placed_in_own memory ask alone legal limit =
    let P : ℕ → Type 0 = λ n. LiesIn (record ask { address = n }) (block_of n) 256 in
    subst P (unmoved memory ask alone) (lies_in_own memory ask legal limit)

-- a window that has a byte in common with one in a block lies there too
lies_with : (ask other : Request) (block a : ℕ) → LiesIn ask block 256 → LiesIn other (block_of other.address) 256
    → block % 256 ≡ 0 → in_window ask a ≡ true → in_window other a ≡ true → LiesIn other block 256
lies_with ask other block a here there whole is is' =
    let place = place_in ask a is in
    let place' = place_in other a is' in
    let same : block ≡ block_of other.address =
    omega (arith, here.from, here.to, there.from, there.to, whole, place.1, place.2, place'.1, place'.2) in
    let P : ℕ → Type 0 = λ n. LiesIn other n 256 in subst P (sym same) there

-- so the block of a window holds each window that has a byte in common with it
pub block_reaches : (memory : Partial) (ask : Request) (block : ℕ) → memory.mirrors ≡ [] → permits memory ask ≡ true
    → 2 ^ ask.size ≤ 256 → block ≡ block_of ask.address → Reaches memory ask block 256
block_reaches memory ask block alone legal limit is =
    let same : block ≡ block_of (start_of memory ask) = is ∙ ap block_of (unmoved memory ask alone) in
    let P : ℕ → Type 0 = λ n. LiesIn (placed memory ask) n 256 in
    let lies : LiesIn (placed memory ask) block 256 = subst P (sym same) (placed_in_own memory ask alone legal limit) in
    let whole : block % 256 ≡ 0 = omega (arith, is) in
    record {
      own = lies;
      others = λ other legal' limit' room share.
          lies_with (placed memory ask) (placed memory other) block share.0 lies
          (placed_in_own memory other alone legal' limit') whole share.1 share.2;
    }

-- and so do the bytes near it, wherever windows stand
pub near_reaches : (memory : Partial) (ask : Request) (start first : ℕ) → start ≡ start_of memory ask
    → 2 ^ ask.size ≤ 256 → start + 2 ^ ask.size ≤ 2 ^ 64 → first ≤ start
    → ((start ≤ first + 256) ⊎ (first + 768 ≡ 2 ^ 64)) → ((address : ℕ) → start ≤ address + 256 → first ≤ address)
    → Reaches memory ask first 768
near_reaches memory ask start first at limit room below reach before = record {
  own = record {
    from = omega (arith, at, below);
    to = ⊎_elim
        (λ (near : start ≤ first + 256). omega (arith, near, limit, at))
        (λ (last : first + 768 ≡ 2 ^ 64). omega (arith, last, room, at)) reach;
  };
  others = λ other legal' limit' room' share.
      let here = place_in (placed memory ask) share.0 share.1 in
      let there = place_in (placed memory other) share.0 share.2 in
      record {
        from = before (start_of memory other) (omega (arith, at, here.1, here.2, there.1, there.2, limit'));
        to = ⊎_elim
            (λ (near : start ≤ first + 256).
            omega (arith, near, at, here.1, here.2, there.1, there.2, limit, limit'))
            (λ (last : first + 768 ≡ 2 ^ 64). omega (arith, last, room')) reach;
      };
}

pub in_lying : (ask : Request) (first count a : ℕ) → LiesIn ask first count → in_window ask a ≡ true
    → (first ≤ a) × (a < first + count)
in_lying ask first count a lies is =
    let place = place_in ask a is in
    (omega (arith, lies.from, place.2), omega (arith, lies.to, place.1, place.2))

-- ---- two requests that meet

may_in : (memory : Partial) (ask : Request) (a : ℕ) → may_write memory ask a ≡ true → in_window (placed memory ask) a ≡ true
may_in memory ask a may = written_in ask.op (placed memory ask) a (and_parts (permits memory ask) (writes ask.op (placed memory ask) a) may).1

any_at : (test : ℕ → Bool) (items : List ℕ) → list_any test items ≡ true → (a : ℕ) × (test a ≡ true)
any_at test [] is = cc
any_at test (item ∷ items) is = ⊎_elim
    (λ first. (item, first))
    (λ rest. any_at test items rest)
    (or_cases (test item) (list_any test items) is)

-- there is a byte that both may write
pub met_at : (memory : Partial) (ask other : Request) → meets memory ask other ≡ true
    → (a : ℕ) × (may_write memory ask a ≡ true) × (may_write memory other a ≡ true)
met_at memory ask other met =
    let at = any_at (λ a. may_write memory ask a && may_write memory other a) (range_with_len (start_of memory ask) (2 ^ ask.size)) met in
    let parts = and_parts (may_write memory ask at.0) (may_write memory other at.0) at.1 in
    (at.0, parts.0, parts.1)

pub met_near : (memory : Partial) (ask other : Request) (address count : ℕ) → meets memory ask other ≡ true
    → address ≡ start_of memory ask → count ≡ 2 ^ ask.size → IsNear (placed memory other) address count
met_near memory ask other address count met here width =
    let at = met_at memory ask other met in
    let place = place_in (placed memory ask) at.0 (may_in memory ask at.0 at.1) in
    let there : in_window (placed memory other) (address + place.0) ≡ true =
    subst (λ (n : ℕ). in_window (placed memory other) n ≡ true) (place.2 ∙ ap (λ n. n + place.0) (sym here))
    (may_in memory other at.0 at.2) in
    (place.0, omega (arith, place.1, width), there)

pub met_legal : (memory : Partial) (ask other : Request) → meets memory ask other ≡ true → permits memory other ≡ true
met_legal memory ask other met =
    let at = met_at memory ask other met in (and_parts (permits memory other) (writes other.op (placed memory other) at.0) at.2).0

pub met_carries : (memory : Partial) (ask other : Request) → meets memory ask other ≡ true
    → carries_bytes other.op ≡ true
met_carries memory ask other met =
    let at = met_at memory ask other met in
    true_from_ne_false (carries_bytes other.op) (λ none.
    not_both (and_parts (permits memory other) (writes other.op (placed memory other) at.0) at.2).1 (carries_none other.op (placed memory other) at.0 none))

-- two windows with a byte in common
pub near_share : (memory : Partial) (ask other : Request) (address count : ℕ) → address ≡ start_of memory ask
    → count ≡ 2 ^ ask.size → IsNear (placed memory other) address count → Share memory ask other
near_share memory ask other address count here width near = (
  start_of memory ask + near.0,
  in_here (placed memory ask) near.0 (omega (arith, near.1, width)),
  subst (λ (n : ℕ). in_window (placed memory other) (n + near.0) ≡ true) here near.2,
)

-- ---- what they leave unknown

pub unmet_leaves : (memory : Partial) (ask other : Request) (a : ℕ) → meets memory ask other ≡ false
    → leave_unknown memory ask other a ≡ false
unmet_leaves memory ask other a unmet =
    and_left (meets memory ask other)
    ((may_write memory ask a && may_write memory other a) || combines memory ask a || combines memory other a) unmet

pub leaves_lying : (memory : Partial) (ask other : Request) (from count a : ℕ) → LiesIn (placed memory ask) from count
    → LiesIn (placed memory other) from count → leave_unknown memory ask other a ≡ true
    → (from ≤ a) × (a < from + count)
leaves_lying memory ask other from count a lies lies' is =
    let parts = and_parts (meets memory ask other)
    ((may_write memory ask a && may_write memory other a) || combines memory ask a || combines memory other a) is in
    ⊎_elim
    (λ first. ⊎_elim
    (λ both. in_lying (placed memory ask) from count a lies
    (may_in memory ask a (and_parts (may_write memory ask a) (may_write memory other a) both).0))
    (λ ours. in_lying (placed memory ask) from count a lies
    (may_in memory ask a (and_parts (is_atomic ask.op) (may_write memory ask a) ours).1))
    (or_cases (may_write memory ask a && may_write memory other a) (combines memory ask a) first))
    (λ theirs. in_lying (placed memory other) from count a lies'
    (may_in memory other a (and_parts (is_atomic other.op) (may_write memory other a) theirs).1))
    (or_cases ((may_write memory ask a && may_write memory other a) || combines memory ask a)
    (combines memory other a) parts.1)

pub leaves_outside : (memory : Partial) (ask other : Request) (first count a : ℕ) → LiesIn (placed memory ask) first count
    → LiesIn (placed memory other) first count → (a < first) ⊎ (first + count ≤ a)
    → leave_unknown memory ask other a ≡ false
leaves_outside memory ask other first count a lies lies' beside =
    false_from_ne_true (leave_unknown memory ask other a) (λ is.
    let at = leaves_lying memory ask other first count a lies lies' is in
    ⊎_elim (λ (before : a < first). omega (arith, at.0, before))
    (λ (past : first + count ≤ a). omega (arith, at.1, past)) beside)
