-- A slave that takes requests in an order that nobody knows: each takes effect at some moment after it is accepted and
-- before its reply begins. What is known then of the slave, and of the replies. It is this project's own.
use Rattle.std.specs.Prelude.{ℕ, ◌+◌, Bool, if◌then◌else◌, ◌==◌, List, [], ◌∷◌, ◌++◌, map, Option, None, Some}
use Rattle.std.specs.List.{list_any}
use Rattle.tl_types.specs.Request.{Request}
use Rattle.check_cells.specs.Sent.{Sent}
use Rattle.check_memory.specs.Partial.{Partial, start_of, permits}
use Rattle.check_memory.specs.Pattern.{Pattern, device_pattern}
use Rattle.check_memory.specs.declared.slave.Slave.{Slave}
use Rattle.check_memory.specs.declared.slave.Slave.TheVariants.{Memory, Device}
use Rattle.check_contests.specs.Writes.{may_write, leave_unknown, unknown_where}
use Rattle.check_contests.specs.Sent.{memory_after_sent, expected_of_sent}
-- a request that is accepted and not yet answered: its wide source, the request, what its reply has to fit, and its
-- place in the port's list
pub use Rattle.check_contests.specs.declared.accepted.Accepted.{Accepted}

-- ---- requests that are accepted and not yet answered

-- whether one of them may write a byte of a memory
abbrev pub one_may_write : Partial → List Accepted → ℕ → Bool
one_may_write memory kept address = list_any (λ (entry : Accepted). may_write memory entry.ask address) kept

-- whether one of them and a new one leave a byte unknown
abbrev pub is_contested : Partial → List Accepted → Request → ℕ → Bool
is_contested memory kept ask address =
    list_any (λ (entry : Accepted). leave_unknown memory ask entry.ask address) kept

-- what the reply to a request has to fit, once others may write the bytes that a test names; the zeros of a denied one
-- stay known
abbrev pub due_beside : Partial → Request → (ℕ → Bool) → Pattern → Pattern
due_beside memory ask test due =
    if permits memory ask then
    record due { bytes = unknown_where (λ place. test (start_of memory ask + place)) due.bytes }
    else due

-- ---- a request is accepted, beside those that are kept

-- what its reply has to fit: what is expected of the slave, without the bytes that one of those kept may write
abbrev pub due_of : Slave → List Accepted → Sent → Pattern
due_of (Memory memory) kept sent =
    due_beside memory sent.ask (one_may_write memory kept) (expected_of_sent (Memory memory) sent)
due_of Device kept sent = device_pattern sent.ask

-- what a memory is after a request, without the bytes that were contested in it before
abbrev pub contested_in : Partial → List Accepted → Request → Partial → Partial
contested_in memory kept ask after =
    record after { cells = unknown_where (is_contested memory kept ask) after.cells }

-- the memory then: the one after the request, without the bytes that are contested
abbrev pub memory_accepting : Partial → List Accepted → Sent → Partial
memory_accepting memory kept sent = contested_in memory kept sent.ask (memory_after_sent memory sent)

-- the slave then
abbrev pub slave_accepting : Slave → List Accepted → Sent → Slave
slave_accepting (Memory memory) kept sent = Memory (memory_accepting memory kept sent)
slave_accepting Device kept sent = Device

-- one of those kept, without the bytes that the new one may write
abbrev pub entry_accepting : Slave → Request → Accepted → Accepted
entry_accepting (Memory memory) ask entry =
    record entry { due = due_beside memory entry.ask (may_write memory ask) entry.due }
entry_accepting Device ask entry = entry

-- those kept then, the new one (of this wide source, with this place in the port's list) among them
abbrev pub kept_accepting : Slave → List Accepted → ℕ → ℕ → Sent → List Accepted
kept_accepting slave kept wide index sent =
    map (entry_accepting slave sent.ask) kept
    ++ record { wide = wide; ask = sent.ask; due = due_of slave kept sent; index = index } ∷ []

-- ---- a request is answered

-- the one kept of a wide source
abbrev pub kept_of : List Accepted → ℕ → Option Accepted
kept_of [] wide = None
kept_of (entry ∷ kept) wide = if entry.wide == wide then Some entry else kept_of kept wide

-- those kept, once it is answered
abbrev pub kept_answering : List Accepted → ℕ → List Accepted
kept_answering [] wide = []
kept_answering (entry ∷ kept) wide = if entry.wide == wide then kept else entry ∷ kept_answering kept wide
