-- What is kept of a slave whose order nobody knows says no more than the truth, whenever its requests take effect. It is
-- this project's own.
use Rattle.std.specs.Prelude.{◌≡◌, ℕ, ◌+◌, ◌≢◌, true, false, List, [], ◌∷◌, length, Some, None, slice_index_or, option_map}
use Rattle.tl_types.specs.Request.{Request}
use Rattle.tl_ops.specs.declared.kind.Kind.TheVariants.{ClearRegs}
use Rattle.check_memory.specs.Cells.{is_atomic}
use Rattle.check_cells.specs.Sent.{Sent}
use Rattle.check_memory.specs.Partial.{Partial, start_of, permits, visible, AreWithin}
use Rattle.check_memory.specs.Pattern.{Pattern, FitsPattern}
use Rattle.check_memory.specs.declared.slave.Slave.{Slave}
use Rattle.check_memory.specs.declared.slave.Slave.TheVariants.{Memory, Device}
use Rattle.check_contests.specs.Writes.{may_write}
use Rattle.check_contests.specs.Sent.{memory_after_sent, expected_of_sent}
use Rattle.check_contests.specs.Contests.{Accepted, kept_of}
use Rattle.check_contests.specs.Moments.{Course, asked_of, Truth, AreBytes, IsCarried}
use Rattle.check_contests.specs.Moments.Course.{Idle, Waiting, Served}

-- ---- those kept

-- no two are of one wide source
abbrev pub AreApart : List Accepted → Type 0
AreApart [] = Unit {0}
AreApart (entry ∷ kept) = (kept_of kept entry.wide ≡ None) × AreApart kept

-- what is due says no more than what is expected of the slave, or was when the request took effect
abbrev pub DueFits : Slave → Pattern → Course → Type 0
DueFits slave due Idle = Unit {0}
DueFits slave due (Waiting sent) = FitsPattern due (expected_of_sent slave sent)
DueFits slave due (Served sent reply) = FitsPattern due reply

-- ---- bytes of a memory

-- no request but that of one wide source may write a byte
abbrev pub NoOtherMayWrite : Partial → (ℕ → Course) → ℕ → ℕ → Type 0
NoOtherMayWrite memory course wide address =
    (other : ℕ) (ask : Request) → asked_of (course other) ≡ Some ask → other ≢ wide
    → may_write memory ask address ≡ false

-- a byte of which this value is known: at most one request may write it. If that has not taken effect, it leaves this
-- value, and if it is an atomic, no other may write in its window. If none is to come that may write it, it has the value
pub record IsKnownRightly (truth : Partial) (course : ℕ → Course) (address byte : ℕ) : Type 0 where
  pub alone : (wide : ℕ) (ask : Request) → asked_of (course wide) ≡ Some ask → may_write truth ask address ≡ true
      → NoOtherMayWrite truth course wide address
  pub to_come : (wide : ℕ) (sent : Sent) → course wide ≡ Waiting sent → may_write truth sent.ask address ≡ true
      → slice_index_or (visible (memory_after_sent truth sent)) address None ≡ Some byte
  pub combined : (wide : ℕ) (sent : Sent) → course wide ≡ Waiting sent → may_write truth sent.ask address ≡ true
      → is_atomic sent.ask.op ≡ true → (place : ℕ) → may_write truth sent.ask place ≡ true
      → NoOtherMayWrite truth course wide place
  pub there : ((wide : ℕ) (sent : Sent) → course wide ≡ Waiting sent → may_write truth sent.ask address ≡ false)
      → slice_index_or (visible truth) address None ≡ Some byte

-- of the bytes that are due to a request no other may write one that is known
abbrev pub AreAlone : Partial → (ℕ → Course) → ℕ → Request → Pattern → Type 0
AreAlone truth course wide ask due =
    (place byte : ℕ) → slice_index_or due.bytes place None ≡ Some byte
    → NoOtherMayWrite truth course wide (start_of truth ask + place)

-- the memory that is kept is the true one, but for its bytes; what is seen as known of these is right
pub record IsMemoryBelow (ours truth : Partial) (kept : List Accepted) (course : ℕ → Course) : Type 0 where
  pub same : ours ≡ record truth { cells = ours.cells }
  pub counted : length ours.cells ≡ length truth.cells
  pub within : AreWithin truth.ranges (length truth.cells)
  pub bytes : truth.kind ≡ ClearRegs → AreBytes (visible truth)
  pub our_bytes : truth.kind ≡ ClearRegs → AreBytes (visible ours)
  pub carried : (wide : ℕ) (ask : Request) → asked_of (course wide) ≡ Some ask → IsCarried (Memory truth) ask
  pub known : (address byte : ℕ) → slice_index_or (visible ours) address None ≡ Some byte
      → IsKnownRightly truth course address byte
  pub dues : (wide : ℕ) (entry : Accepted) (sent : Sent) → kept_of kept wide ≡ Some entry → course wide ≡ Waiting sent
      → permits truth sent.ask ≡ true → AreAlone truth course wide sent.ask entry.due

-- ---- slaves

-- the slave that is kept says no more than the true one: both are memories of which that is so, or both are devices.
abbrev pub IsSlaveBelow : Slave → Slave → List Accepted → (ℕ → Course) → Type 0
IsSlaveBelow (Memory ours) (Memory truth) kept course = IsMemoryBelow ours truth kept course
IsSlaveBelow (Memory ours) Device kept course = ⊥
IsSlaveBelow Device (Memory truth) kept course = ⊥
IsSlaveBelow Device Device kept course = Unit {0}

-- the slave that is kept and the requests that are kept say no more than the true slave, with the same requests
pub record IsBelowTruth (ours : Slave) (kept : List Accepted) (truth : Truth) : Type 0 where
  pub apart : AreApart kept
  pub asks : (wide : ℕ)
      → option_map (λ (entry : Accepted). entry.ask) (kept_of kept wide) ≡ asked_of (truth.course wide)
  pub fits : (wide : ℕ) (entry : Accepted) → kept_of kept wide ≡ Some entry
      → DueFits truth.slave entry.due (truth.course wide)
  pub slave : IsSlaveBelow ours truth.slave kept truth.course
