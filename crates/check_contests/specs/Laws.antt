-- The laws, said on their own.
use Rattle.std.specs.Prelude.{◌≡◌, ℕ, ◌+◌, ◌%◌, ◌^◌, ◌≤◌, ◌⊎◌, true, false, List, [], ◌∷◌, ◌++◌, length, replicate, None, Some, All, slice_index_or}
use Rattle.tl_types.specs.Operation.{reply_op_of}
use Rattle.tl_types.specs.Request.{Request}
use Rattle.tl_types.specs.Response.{Response}
use Rattle.tl_ops.specs.declared.kind.Kind.TheVariants.{ClearRegs}
use Rattle.tl_ops.specs.Store.{shown}
use Rattle.check_cells.specs.Sent.{Sent, is_corrupt}
use Rattle.check_memory.specs.Known.{IsBelow, known}
use Rattle.check_memory.specs.Laws.{IsLawfulAsk}
use Rattle.check_memory.specs.Partial.{Partial, placed, permits, visible, AreWithin}
use Rattle.check_memory.specs.Pattern.{Pattern, FitsPattern, FitsCaptured, seen_as}
use Rattle.check_memory.specs.Whole.{true_reply}
use Rattle.check_memory.specs.declared.slave.Slave.{Slave}
use Rattle.check_memory.specs.declared.slave.Slave.TheVariants.{Memory, Device}
use Rattle.check_contests.specs.Writes.{in_window, may_write}
use Rattle.check_contests.specs.Sent.{memory_after_sent, slave_after_sent, expected_of_sent}
use Rattle.check_contests.specs.Contests.{Accepted, due_of, slave_accepting, kept_accepting, kept_of, kept_answering}
use Rattle.check_contests.specs.Moments.{SlaveMoment, Course, Truth, untouched, truth_accepting, truth_serving, truth_answering, truth_after, AreBytes, IsCarried, MayAllCome}
use Rattle.check_contests.specs.Moments.SlaveMoment.{Accepts, TakesEffect, Answers}
use Rattle.check_contests.specs.Moments.Course.{Idle, Waiting, Served}
use Rattle.check_contests.specs.Below.{IsBelowTruth}

-- ---- what is kept says no more than the truth

-- at reset the memory that is kept is seen as the true one is, but for bytes that are unknown
pub record IsMemoryAtReset (ours truth : Partial) : Type 0 where
  pub same : ours ≡ record truth { cells = ours.cells }
  pub below : IsBelow (visible ours) (visible truth)
  pub within : AreWithin truth.ranges (length truth.cells)
  pub bytes : truth.kind ≡ ClearRegs → AreBytes (visible truth)

-- the same of slaves: both are memories, or both are devices.
abbrev pub IsBelowAtReset : Slave → Slave → Type 0
IsBelowAtReset (Memory ours) (Memory truth) = IsMemoryAtReset ours truth
IsBelowAtReset (Memory ours) Device = ⊥
IsBelowAtReset Device (Memory truth) = ⊥
IsBelowAtReset Device Device = Unit {0}

-- what is kept at reset, with no request, says no more than the truth.
abbrev pub ResetIsBelow : Type 0
ResetIsBelow = (ours truth : Slave) → IsBelowAtReset ours truth → IsBelowTruth ours [] (untouched truth)

-- it stays so, whichever request is accepted, takes effect or is answered
abbrev pub AcceptingKeeps : Type 0
AcceptingKeeps =
    (ours : Slave) (kept : List Accepted) (truth : Truth) (wide index : ℕ) (sent : Sent)
    → IsBelowTruth ours kept truth → truth.course wide ≡ Idle → IsCarried truth.slave sent.ask
    → IsBelowTruth (slave_accepting ours kept sent) (kept_accepting ours kept wide index sent)
    (truth_accepting truth wide sent)

-- it stays so as a request that is accepted takes effect: nothing of what is kept changes then.
abbrev pub TakingEffectKeeps : Type 0
TakingEffectKeeps =
    (ours : Slave) (kept : List Accepted) (truth : Truth) (wide : ℕ) (sent : Sent)
    → IsBelowTruth ours kept truth → truth.course wide ≡ Waiting sent
    → IsBelowTruth ours kept (truth_serving truth wide sent)

-- it stays so as a request that has taken effect is answered: it is not kept any more then.
abbrev pub AnsweringKeeps : Type 0
AnsweringKeeps =
    (ours : Slave) (kept : List Accepted) (truth : Truth) (wide : ℕ) (sent : Sent) (reply : Pattern)
    → IsBelowTruth ours kept truth → truth.course wide ≡ Served sent reply
    → IsBelowTruth ours (kept_answering kept wide) (truth_answering truth wide)

-- a request that is answered is kept, and what is due to it says no more than what was expected as it took effect
pub record IsDueBelow (kept : List Accepted) (wide : ℕ) (ask : Request) (reply : Pattern) : Type 0 where
  pub entry : Accepted
  pub kept_as : kept_of kept wide ≡ Some entry
  pub ask_is : entry.ask ≡ ask
  pub fits : FitsPattern entry.due reply

-- if what is kept says no more than the truth, a request that has taken effect is kept, and what is due to it says no
-- more than what was expected of the true slave then.
abbrev pub AnswerIsDue : Type 0
AnswerIsDue =
    (ours : Slave) (kept : List Accepted) (truth : Truth) (wide : ℕ) (sent : Sent) (reply : Pattern)
    → IsBelowTruth ours kept truth → truth.course wide ≡ Served sent reply → IsDueBelow kept wide sent.ask reply

-- so each reply that fits what was expected of the true slave fits what is due
abbrev pub FitsThrough : Type 0
FitsThrough = (due reply captured : Pattern) → FitsPattern due reply → FitsCaptured reply captured → FitsCaptured due captured

-- ---- the same of whole runs

-- what is kept of a port: its slave, the requests that are accepted and not answered, and how many were accepted
pub record Judged : Type 0 where
  pub slave : Slave
  pub kept : List Accepted
  pub served : ℕ

-- what is kept of a port after one moment; nobody sees when a request takes effect.
abbrev pub judged_after : Judged → SlaveMoment → Judged
judged_after judged (Accepts wide sent) = record {
  slave = slave_accepting judged.slave judged.kept sent;
  kept = kept_accepting judged.slave judged.kept wide judged.served sent;
  served = (judged.served + 1) % 2 ^ 64;
}
judged_after judged (TakesEffect wide) = judged
judged_after judged (Answers wide) = record judged { kept = kept_answering judged.kept wide }

-- what is due to a request that is answered now says no more than what was expected of the true slave
abbrev pub IsAnswerBelow : Judged → ℕ → Course → Type 0
IsAnswerBelow judged wide Idle = ⊥
IsAnswerBelow judged wide (Waiting sent) = ⊥
IsAnswerBelow judged wide (Served sent reply) = IsDueBelow judged.kept wide sent.ask reply

-- what is due to a request that this moment answers says no more than what was expected of the true slave; other moments
-- say nothing.
abbrev pub IsMomentBelow : Judged → Truth → SlaveMoment → Type 0
IsMomentBelow judged truth (Accepts wide sent) = Unit {0}
IsMomentBelow judged truth (TakesEffect wide) = Unit {0}
IsMomentBelow judged truth (Answers wide) = IsAnswerBelow judged wide (truth.course wide)

-- so it is at each of these moments, one after the other.
abbrev pub AreAllBelow : Judged → Truth → List SlaveMoment → Type 0
AreAllBelow judged truth [] = Unit {0}
AreAllBelow judged truth (moment ∷ moments) =
    IsMomentBelow judged truth moment × AreAllBelow (judged_after judged moment) (truth_after truth moment) moments

-- whenever requests take effect at the true slave, each as it is between its acceptance and its answer, what is due to
-- each that is answered says no more than what was expected of that slave
abbrev pub AnyOrderIsBelow : Type 0
AnyOrderIsBelow =
    (ours truth : Slave) (moments : List SlaveMoment) → IsBelowAtReset ours truth → MayAllCome (untouched truth) moments
    → AreAllBelow (record { slave = ours; kept = []; served = 0 }) (untouched truth) moments

-- ---- nothing is lost without need

-- a request is accepted as one that takes effect at once: nothing is made unknown
pub record IsAsServed (slave : Slave) (kept : List Accepted) (wide index : ℕ) (sent : Sent) : Type 0 where
  pub due : due_of slave kept sent ≡ expected_of_sent slave sent
  pub leaves : slave_accepting slave kept sent ≡ slave_after_sent slave sent
  pub keeps : kept_accepting slave kept wide index sent
      ≡ kept ++ record { wide = wide; ask = sent.ask; due = expected_of_sent slave sent; index = index } ∷ []

-- two requests have no byte in common that one of them may write
abbrev pub AreUncontested : Partial → Request → Request → Type 0
AreUncontested memory ask other =
    (address : ℕ) → in_window (placed memory ask) address ≡ true → in_window (placed memory other) address ≡ true
    → (may_write memory ask address ≡ false) × (may_write memory other address ≡ false)

-- what is due to one that is kept has no more bytes than its window
pub record IsBeside (memory : Partial) (ask : Request) (entry : Accepted) : Type 0 where
  pub uncontested : AreUncontested memory ask entry.ask
  pub counted : length entry.due.bytes ≤ 2 ^ entry.ask.size

-- a request that is uncontested with each one that is kept makes nothing unknown.
abbrev pub UncontestedIsAsServed : Type 0
UncontestedIsAsServed =
    (memory : Partial) (kept : List Accepted) (wide index : ℕ) (sent : Sent)
    → All (λ (entry : Accepted). IsBeside memory sent.ask entry) kept → IsAsServed (Memory memory) kept wide index sent

-- a request that is denied makes nothing unknown, and of a device nothing is kept that could be
abbrev pub DeniedIsAsServed : Type 0
DeniedIsAsServed =
    (memory : Partial) (kept : List Accepted) (wide index : ℕ) (sent : Sent) → permits memory sent.ask ≡ false
    → IsAsServed (Memory memory) kept wide index sent

-- a request at a device makes nothing unknown.
abbrev pub DeviceIsAsServed : Type 0
DeviceIsAsServed = (kept : List Accepted) (wide index : ℕ) (sent : Sent) → IsAsServed Device kept wide index sent

-- ---- corrupt requests

-- the bytes of a memory later are those of before, but for such as a request may write
pub record AreSameButWritten (memory : Partial) (ask : Request) (bytes later : List ℕ) : Type 0 where
  pub counted : length later ≡ length bytes
  pub same : (address : ℕ) → may_write memory ask address ≡ false
      → slice_index_or (known later) address None ≡ slice_index_or (known bytes) address None

-- a reply that denies the request
abbrev pub denial : Request → Response
denial ask = record {
  op = reply_op_of ask.op;
  size = ask.size;
  source = ask.source;
  denied = true;
  bytes = shown (reply_op_of ask.op) (replicate (2 ^ ask.size) 0);
}

-- a memory with these bytes answers a corrupt request as any other, or denies it
abbrev pub MayAnswerCorrupt : Partial → List ℕ → Request → Response → Type 0
MayAnswerCorrupt memory bytes ask reply = (reply ≡ true_reply memory bytes ask) ⊎ (reply ≡ denial ask)

-- whatever it answers and writes, the reply fits, and the bytes later are those that are seen as known
pub record IsCorruptSound (memory : Partial) (sent : Sent) (later : List ℕ) (reply : Response) : Type 0 where
  pub reply_fits : FitsPattern (expected_of_sent (Memory memory) sent) (seen_as reply)
  pub stays_below : IsBelow (visible (memory_after_sent memory sent)) (known later)

-- if the true bytes are those that are seen as known, a corrupt request may write any bytes in place of those that it may
-- write, and may be denied or not: what is seen is still true.
abbrev pub CorruptIsSound : Type 0
CorruptIsSound =
    (memory : Partial) (bytes later : List ℕ) (sent : Sent) (reply : Response) → is_corrupt sent ≡ true
    → AreWithin memory.ranges (length bytes) → IsLawfulAsk sent.ask → IsBelow (visible memory) (known bytes)
    → AreSameButWritten memory sent.ask bytes later → MayAnswerCorrupt memory bytes sent.ask reply
    → IsCorruptSound memory sent later reply
