-- Nothing is made unknown where no two requests have a byte in common that one of them may write.
use Rattle.std.proofs.Common.{◌≡◌, ◌∙◌, ℕ, ◌+◌, ◌^◌, ◌<◌, ◌≤◌, Bool, true, false, ◌&&◌, ◌||◌, List, [], ◌∷◌, ◌++◌, length, map, take, drop, Option, refl, ap, arith}
use Rattle.std.specs.Prelude.{All}
use Rattle.std.specs.List.{list_any, range_with_len}
use Rattle.std.proofs.lemmas.Bool.{and_parts, and_left, or_from, false_from_ne_true}
use Rattle.std.proofs.lemmas.List.{length-take}
use Rattle.std.proofs.lemmas.List.Elements.{All-head, All-tail}
use Rattle.tl_types.specs.Operation.{reply_op_of}
use Rattle.tl_types.specs.Request.{Request}
use Rattle.tl_types.specs.declared.operation.ReplyOp.{ReplyOp}
use Rattle.tl_types.specs.declared.operation.ReplyOp.TheVariants.{AccessAck, AccessAckData, HintAck}
use Rattle.check_cells.specs.Sent.{Sent, is_corrupt}
use Rattle.check_memory.specs.Partial.{Partial, permits, visible, start_of, placed}
use Rattle.check_memory.specs.Pattern.{Pattern, pattern, device_pattern, shown_cells}
use Rattle.check_memory.specs.declared.slave.Slave.TheVariants.{Memory, Device}
use Rattle.check_memory.proofs.Unknown.{unknown_none}
use Rattle.check_contests.specs.Writes.{in_window, writes, may_write, combines, meets, leave_unknown}
use Rattle.check_contests.specs.Sent.{memory_after_sent, expected_of_sent}
use Rattle.check_contests.specs.Contests.{Accepted, one_may_write, is_contested, contested_in, due_beside, due_of, entry_accepting}
use Rattle.check_contests.specs.Laws.{IsAsServed, AreUncontested, IsBeside}
use Rattle.check_contests.proofs.Clash.{not_both}
use Rattle.check_contests.proofs.Effect.{in_here, written_in}
use Rattle.check_contests.proofs.Expected.{unsure_if, unsure_bytes, beside_legal, beside_denied}

pub any_none : {A : Type 0} (test : A → Bool) (items : List A) → ((item : A) → test item ≡ false)
    → list_any test items ≡ false
any_none test [] none = refl
any_none test (item ∷ items) none = or_from (test item) (list_any test items) (none item) (any_none test items none)

any_none_of : {A : Type 0} (P : A → Type 0) (test : A → Bool) (items : List A) → ((item : A) → P item → test item ≡ false)
    → All P items → list_any test items ≡ false
any_none_of P test [] none all = refl
any_none_of P test (item ∷ items) none all =
    or_from (test item) (list_any test items) (none item (All-head P item items all))
    (any_none_of P test items none (All-tail P item items all))

-- what is due stays, if no byte of it is named
pub due_stays : (memory : Partial) (ask : Request) (test : ℕ → Bool) (due : Pattern)
    → ((k : ℕ) → k < length due.bytes → test (start_of memory ask + k) ≡ false) → due_beside memory ask test due ≡ due
due_stays memory ask test due none = by_cases (permits memory ask) refl
  where
    by_cases : (p : Bool) → permits memory ask ≡ p → due_beside memory ask test due ≡ due
    by_cases true is = beside_legal memory ask test due is
        ∙ ap (λ (bytes : List (Option ℕ)). record due { bytes = bytes })
        (unknown_none (λ k. test (start_of memory ask + k)) due.bytes none)
    by_cases false is = beside_denied memory ask test due is

-- ---- two requests

may_in : (memory : Partial) (ask : Request) (a : ℕ) → may_write memory ask a ≡ true → in_window (placed memory ask) a ≡ true
may_in memory ask a may = written_in ask.op (placed memory ask) a (and_parts (permits memory ask) (writes ask.op (placed memory ask) a) may).1

-- of two uncontested requests, neither may write a byte in the window of the other
not_by_other : (memory : Partial) (ask other : Request) (a : ℕ) → AreUncontested memory ask other
    → in_window (placed memory ask) a ≡ true → may_write memory other a ≡ false
not_by_other memory ask other a un here = false_from_ne_true (may_write memory other a) (λ may.
    not_both may (un a here (may_in memory other a may)).1)

not_by_ask : (memory : Partial) (ask other : Request) (a : ℕ) → AreUncontested memory ask other
    → in_window (placed memory other) a ≡ true → may_write memory ask a ≡ false
not_by_ask memory ask other a un there = false_from_ne_true (may_write memory ask a) (λ may.
    not_both may (un a (may_in memory ask a may) there).0)

not_met : (memory : Partial) (ask other : Request) → AreUncontested memory ask other → meets memory ask other ≡ false
not_met memory ask other un =
    any_none (λ a. may_write memory ask a && may_write memory other a) (range_with_len (start_of memory ask) (2 ^ ask.size))
    (λ a. false_from_ne_true (may_write memory ask a && may_write memory other a) (λ both.
    let parts = and_parts (may_write memory ask a) (may_write memory other a) both in
    not_both parts.1 (not_by_other memory ask other a un (may_in memory ask a parts.0))))

left_known : (memory : Partial) (ask other : Request) (a : ℕ) → AreUncontested memory ask other
    → leave_unknown memory ask other a ≡ false
left_known memory ask other a un =
    and_left (meets memory ask other)
    ((may_write memory ask a && may_write memory other a) || combines memory ask a || combines memory other a)
    (not_met memory ask other un)

-- ---- one request beside those kept

shown_short : (op : ReplyOp) (n : ℕ) (cells : List (Option ℕ)) → length cells ≤ n → length (shown_cells op cells) ≤ n
shown_short AccessAck n cells short = omega arith
shown_short AccessAckData n cells short = short
shown_short HintAck n cells short = omega arith

expected_short : (memory : Partial) (ask : Request) → permits memory ask ≡ true
    → length (pattern memory ask).bytes ≤ 2 ^ ask.size
expected_short memory ask is =
    rw (is, pattern) (shown_short (reply_op_of ask.op) (2 ^ ask.size) (take (2 ^ ask.size) (drop (start_of memory ask) (visible memory)))
    (omega (arith, length-take (2 ^ ask.size) (drop (start_of memory ask) (visible memory)))))

-- what is expected of a request as it crossed has as many bytes
sent_short : (memory : Partial) (sent : Sent) → permits memory sent.ask ≡ true
    → length (expected_of_sent (Memory memory) sent).bytes ≤ 2 ^ sent.ask.size
sent_short memory sent is =
    let same = unsure_bytes (is_corrupt sent) (pattern memory sent.ask) in
    omega (arith, ap (λ (bytes : List (Option ℕ)). length bytes) same, expected_short memory sent.ask is)

due_is : (memory : Partial) (kept : List Accepted) (sent : Sent)
    → All (λ (entry : Accepted). IsBeside memory sent.ask entry) kept
    → due_of (Memory memory) kept sent ≡ expected_of_sent (Memory memory) sent
due_is memory kept sent beside = by_cases (permits memory sent.ask) refl
  where
    expected : Pattern
    expected = expected_of_sent (Memory memory) sent

    none : permits memory sent.ask ≡ true → (k : ℕ) → k < length expected.bytes
        → one_may_write memory kept (start_of memory sent.ask + k) ≡ false
    none is k below =
        any_none_of (λ (e : Accepted). IsBeside memory sent.ask e)
        (λ (e : Accepted). may_write memory e.ask (start_of memory sent.ask + k)) kept
        (λ entry un. not_by_other memory sent.ask entry.ask (start_of memory sent.ask + k) un.uncontested
        (in_here (placed memory sent.ask) k (omega (arith, below, sent_short memory sent is)))) beside

    by_cases : (p : Bool) → permits memory sent.ask ≡ p → due_of (Memory memory) kept sent ≡ expected
    by_cases true is = due_stays memory sent.ask (one_may_write memory kept) expected (none is)
    by_cases false is = beside_denied memory sent.ask (one_may_write memory kept) expected is

with_same : (memory : Partial) (cells : List (Option ℕ)) → cells ≡ memory.cells
    → record memory { cells = cells } ≡ memory
with_same memory cells same = ap (λ (cs : List (Option ℕ)). record memory { cells = cs }) same

-- what a request leaves is all that is left, where nothing is contested
pub leaves_is : (memory : Partial) (kept : List Accepted) (ask : Request) (after : Partial)
    → ((a : ℕ) → is_contested memory kept ask a ≡ false)
    → contested_in memory kept ask after ≡ after
leaves_is memory kept ask after none =
    with_same after (contested_in memory kept ask after).cells
    (unknown_none (is_contested memory kept ask) after.cells (λ k below. none k))

kept_is : (memory : Partial) (ask : Request) (kept : List Accepted)
    → All (λ (entry : Accepted). IsBeside memory ask entry) kept
    → map (entry_accepting (Memory memory) ask) kept ≡ kept
kept_is memory ask [] beside = refl
kept_is memory ask (entry ∷ kept) beside =
    let first = All-head (λ (e : Accepted). IsBeside memory ask e) entry kept beside in
    let same : due_beside memory entry.ask (may_write memory ask) entry.due ≡ entry.due =
    due_stays memory entry.ask (may_write memory ask) entry.due
    (λ k below. not_by_ask memory ask entry.ask (start_of memory entry.ask + k) first.uncontested
    (in_here (placed memory entry.ask) k (omega (arith, below, first.counted)))) in
    ap (λ (due : Pattern). record entry { due = due } ∷ map (entry_accepting (Memory memory) ask) kept) same
    ∙ ap (λ (rest : List Accepted). entry ∷ rest)
    (kept_is memory ask kept (All-tail (λ (e : Accepted). IsBeside memory ask e) entry kept beside))

joined : (kept kept' : List Accepted) (wide index : ℕ) (ask : Request) (due due' : Pattern) → kept ≡ kept' → due ≡ due'
    → kept ++ record { wide = wide; ask = ask; due = due; index = index } ∷ []
    ≡ kept' ++ record { wide = wide; ask = ask; due = due'; index = index } ∷ []
joined kept kept' wide index ask due due' same same' =
    let one : Pattern → Accepted = λ d. record { wide = wide; ask = ask; due = d; index = index } in
    ap (λ (k : List Accepted). k ++ one due ∷ []) same ∙ ap (λ (d : Pattern). kept' ++ one d ∷ []) same'

pub uncontested_is_as_served : (memory : Partial) (kept : List Accepted) (wide index : ℕ) (sent : Sent)
    → All (λ (entry : Accepted). IsBeside memory sent.ask entry) kept → IsAsServed (Memory memory) kept wide index sent
uncontested_is_as_served memory kept wide index sent beside = record {
  due = due_is memory kept sent beside;
  leaves = ap (λ (m : Partial). Memory m) (leaves_is memory kept sent.ask (memory_after_sent memory sent) (λ a.
      any_none_of (λ (e : Accepted). IsBeside memory sent.ask e)
      (λ (e : Accepted). leave_unknown memory sent.ask e.ask a) kept
      (λ entry un. left_known memory sent.ask entry.ask a un.uncontested) beside));
  keeps = joined (map (entry_accepting (Memory memory) sent.ask) kept) kept wide index sent.ask
      (due_of (Memory memory) kept sent) (expected_of_sent (Memory memory) sent) (kept_is memory sent.ask kept beside)
      (due_is memory kept sent beside);
}

-- ---- a denied request, and a device

denied_writes : (memory : Partial) (ask : Request) (a : ℕ) → permits memory ask ≡ false → may_write memory ask a ≡ false
denied_writes memory ask a is = and_left (permits memory ask) (writes ask.op (placed memory ask) a) is

pub denied_leaves : (memory : Partial) (ask other : Request) (a : ℕ) → permits memory ask ≡ false
    → leave_unknown memory ask other a ≡ false
denied_leaves memory ask other a is =
    and_left (meets memory ask other)
    ((may_write memory ask a && may_write memory other a) || combines memory ask a || combines memory other a)
    (any_none (λ b. may_write memory ask b && may_write memory other b) (range_with_len (start_of memory ask) (2 ^ ask.size))
    (λ b. and_left (may_write memory ask b) (may_write memory other b) (denied_writes memory ask b is)))

denied_keeps : (memory : Partial) (ask : Request) (kept : List Accepted) → permits memory ask ≡ false
    → map (entry_accepting (Memory memory) ask) kept ≡ kept
denied_keeps memory ask [] is = refl
denied_keeps memory ask (entry ∷ kept) is =
    let same : due_beside memory entry.ask (may_write memory ask) entry.due ≡ entry.due =
    due_stays memory entry.ask (may_write memory ask) entry.due
    (λ k below. denied_writes memory ask (start_of memory entry.ask + k) is) in
    ap (λ (due : Pattern). record entry { due = due } ∷ map (entry_accepting (Memory memory) ask) kept) same
    ∙ ap (λ (rest : List Accepted). entry ∷ rest) (denied_keeps memory ask kept is)

pub denied_is_as_served : (memory : Partial) (kept : List Accepted) (wide index : ℕ) (sent : Sent)
    → permits memory sent.ask ≡ false → IsAsServed (Memory memory) kept wide index sent
denied_is_as_served memory kept wide index sent is =
    let expected : Pattern = expected_of_sent (Memory memory) sent in
    let due : due_of (Memory memory) kept sent ≡ expected =
    beside_denied memory sent.ask (one_may_write memory kept) expected is in
    record {
      due = due;
      leaves = ap (λ (m : Partial). Memory m) (leaves_is memory kept sent.ask (memory_after_sent memory sent) (λ a.
          any_none (λ (e : Accepted). leave_unknown memory sent.ask e.ask a) kept
          (λ entry. denied_leaves memory sent.ask entry.ask a is)));
      keeps = joined (map (entry_accepting (Memory memory) sent.ask) kept) kept wide index sent.ask
          (due_of (Memory memory) kept sent) expected (denied_keeps memory sent.ask kept is) due;
    }

pub device_keeps : (ask : Request) (kept : List Accepted) → map (entry_accepting Device ask) kept ≡ kept
device_keeps ask [] = refl
device_keeps ask (entry ∷ kept) = ap (λ (rest : List Accepted). entry ∷ rest) (device_keeps ask kept)

-- of a device anything is expected, of a corrupt request too
pub device_expects : (sent : Sent) → device_pattern sent.ask ≡ expected_of_sent Device sent
device_expects sent = by_cases (is_corrupt sent)
  where
    by_cases : (corrupt : Bool) → device_pattern sent.ask ≡ unsure_if corrupt (device_pattern sent.ask)
    by_cases true = refl
    by_cases false = refl

pub device_is_as_served : (kept : List Accepted) (wide index : ℕ) (sent : Sent) → IsAsServed Device kept wide index sent
device_is_as_served kept wide index sent = record {
  due = device_expects sent;
  leaves = refl;
  keeps = joined (map (entry_accepting Device sent.ask) kept) kept wide index sent.ask (due_of Device kept sent)
      (expected_of_sent Device sent) (device_keeps sent.ask kept) (device_expects sent);
}
