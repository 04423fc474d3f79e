-- The laws, said on their own.
use Rattle.std.specs.Prelude.{◌≡◌, ◌↔◌, ℕ, ◌+◌, ◌<◌, ◌^◌, true, false, ◌++◌, ◌∷◌, [], List, length, replicate, slice_index_or, Option, None}
use Rattle.tl_types.specs.Request.{Request, IsLawfulRequest}
use Rattle.tl_ops.specs.Store.{Store, legal, reply, after}
use Rattle.tl_ops.specs.Support.{row_of_kind}
use Rattle.check_memory.specs.Known.{IsBelow, known}
use Rattle.check_memory.specs.Cells.{is_atomic, is_swap}
use Rattle.check_memory.specs.Partial.{Partial, start_of, permits, is_volatile, visible, after_partial, AreWithin}
use Rattle.check_memory.specs.Pattern.{Pattern, pattern, FitsPattern, FitsCaptured, seen_as}
use Rattle.check_memory.specs.declared.slave.Slave.{Slave}
use Rattle.check_memory.specs.Slave.{expected_of, MayReply}
use Rattle.check_memory.specs.Whole.{whole, true_after, true_reply}

-- a request as messages carry it
abbrev pub IsLawfulAsk : Request → Type 0
IsLawfulAsk ask = IsLawfulRequest ask.op ask.size ask.bytes

-- an expected reply as it is captured if no byte is spoiled
abbrev pub unspoiled : Pattern → Pattern
unspoiled reply = record reply { spoiled = replicate (length reply.bytes) false }

-- a memory that is wholly known, and of which no byte changes by itself, answers and changes as the definitions of tl_ops
-- say, and stays wholly known
pub record IsWhole (memory : Partial) (bytes : List ℕ) (ask : Request) : Type 0 where
  pub answers : unspoiled (pattern (whole memory bytes) ask) ≡ seen_as (true_reply memory bytes ask)
  pub leaves : after_partial (whole memory bytes) ask ≡ whole memory (true_after memory bytes ask)
  pub counted : length (true_after memory bytes ask) ≡ length bytes

-- a memory that is wholly known, and of which no byte changes by itself, does each lawful request as tl_ops says, and
-- stays wholly known.
abbrev pub WholeStaysWhole : Type 0
WholeStaysWhole =
    (memory : Partial) (bytes : List ℕ) (ask : Request) → memory.volatile ≡ []
    → AreWithin memory.ranges (length bytes) → IsLawfulAsk ask → IsWhole memory bytes ask

-- whatever the unknown bytes are, the true reply fits the pattern, and the true bytes afterwards are those that are seen
-- as known
pub record IsSound (memory : Partial) (bytes : List ℕ) (ask : Request) : Type 0 where
  pub reply_fits : FitsPattern (pattern memory ask) (seen_as (true_reply memory bytes ask))
  pub stays_below : IsBelow (visible (after_partial memory ask)) (known (true_after memory bytes ask))

-- if the true bytes are those that are seen as known, the true reply to each lawful request fits the pattern, and so it
-- is of the true bytes afterwards.
abbrev pub PartialIsSound : Type 0
PartialIsSound =
    (memory : Partial) (bytes : List ℕ) (ask : Request) → AreWithin memory.ranges (length bytes) → IsLawfulAsk ask
    → IsBelow (visible memory) (known bytes) → IsSound memory bytes ask

-- the true bytes later are those of before, but for such as change by themselves
pub record AreSameButVolatile (memory : Partial) (bytes later : List ℕ) : Type 0 where
  pub counted : length later ≡ length bytes
  pub same : (address : ℕ) → is_volatile memory address ≡ false
      → slice_index_or (known later) address None ≡ slice_index_or (known bytes) address None

-- bytes that change by themselves may become any others between two requests: what is seen is still true
abbrev pub VolatileBytesAreFree : Type 0
VolatileBytesAreFree =
    (memory : Partial) (bytes later : List ℕ) → AreSameButVolatile memory bytes later
    → IsBelow (visible memory) (known bytes) → IsBelow (visible memory) (known later)

-- a legal request has a byte in its window that changes by itself
pub record HasVolatile (memory : Partial) (ask : Request) (place : ℕ) : Type 0 where
  pub legal : permits memory ask ≡ true
  pub in_window : place < 2 ^ ask.size
  pub volatile : is_volatile memory (start_of memory ask + place) ≡ true

-- no reply is expected to tell such a byte
abbrev pub VolatileIsNeverTold : Type 0
VolatileIsNeverTold =
    (memory : Partial) (ask : Request) (place : ℕ) → HasVolatile memory ask place
    → slice_index_or (pattern memory ask).bytes place None ≡ None

-- an atomic over such a byte leaves its whole window unknown, but for a swap
abbrev pub AtomicOverVolatile : Type 0
AtomicOverVolatile =
    (memory : Partial) (ask : Request) (place other : ℕ) → HasVolatile memory ask place
    → AreWithin memory.ranges (length memory.cells) → is_atomic ask.op ≡ true → is_swap ask.op ≡ false
    → other < 2 ^ ask.size → slice_index_or (visible (after_partial memory ask)) (start_of memory ask + other) None ≡ None

-- a memory in one range, which is seen there alone, whose sizes are its kind's row, and of which no byte changes by itself,
-- is the store of tl_ops between the bytes before it and beyond
pub record IsStore (store : Store) (before beyond : List ℕ) (memory : Partial) (ask : Request) : Type 0 where
  pub legal_is : permits memory ask ≡ legal store ask
  pub reply_is : true_reply memory (before ++ (store.bytes ++ beyond)) ask ≡ reply store ask
  pub after_is : true_after memory (before ++ (store.bytes ++ beyond)) ask
      ≡ before ++ ((after store ask).bytes ++ beyond)

-- the memory in one range that has the range, the kind and the sizes of a store, with these cells from address 0 on; no
-- byte changes by itself.
abbrev pub one_range : Store → List (Option ℕ) → Partial
one_range store cells = record {
  kind = store.kind;
  sizes = row_of_kind store.kind;
  ranges = record { base = store.base; length = length store.bytes } ∷ [];
  mirrors = [];
  volatile = [];
  cells = cells;
}

-- a memory in one range with its kind's sizes is a store of tl_ops there, at each lawful request and whatever the bytes
-- before the store and beyond.
abbrev pub StoreIsInstance : Type 0
StoreIsInstance =
    (store : Store) (before beyond : List ℕ) (cells : List (Option ℕ)) (ask : Request) → length before ≡ store.base
    → IsLawfulAsk ask → IsStore store before beyond (one_range store cells) ask

-- what fits the answer that is expected of a slave is what the slave may reply; of a device that is any reply of the
-- right form
abbrev pub FitsIfItMayReply : Type 0
FitsIfItMayReply =
    (slave : Slave) (ask : Request) (captured : Pattern)
    → FitsCaptured (expected_of slave ask) captured ↔ MayReply slave ask captured
