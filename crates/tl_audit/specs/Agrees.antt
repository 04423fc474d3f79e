-- When the traces of masters and the histories of ports hold the same entries, each once, and what is wrong where they
-- do not. All of it is this project's own.
use Rattle.std.specs.Prelude.{◌≡◌, ℕ, ◌+◌, ◌<◌, ◌≤◌, Bool, ◌&&◌, ◌==◌, ⊤, List, [], ◌∷◌, map, length, filter, Option, Some, slice_get, option_and_then, IsSome, IsSomeAnd}
use Rattle.std.specs.Borrow.{Bor}
use Rattle.tl_types.specs.Request.{Request}
use Rattle.tl_types.specs.Response.{Response}
use Rattle.tl_types.specs.declared.trace.Entry.{Entry}
use Rattle.tl_map.specs.Owner.{IsWideSource}
use Rattle.tl_map.specs.declared.owners.Owner.{Owner}
use Rattle.tl_journal.specs.Journal.{JournalView}
use Rattle.tl_audit.specs.declared.fault.AuditFault.{AuditFault}
use Rattle.tl_audit.specs.declared.fault.AuditFault.TheVariants.{Missing, Twice, Order, Untraced, Memory}

-- the requests and replies of the journals behind references
abbrev pub journals_in : List (Bor JournalView) → List (List (Request × Response))
journals_in journals = map (λ (journal : Bor JournalView). journal.now.items) journals

-- the trace of master m has this entry at place k
abbrev pub HasEntry : List (List Entry) → ℕ → ℕ → Entry → Type 0
HasEntry traces m k e = IsSomeAnd (slice_get traces m) (λ trace. slice_get trace k ≡ Some e)

-- the request and the reply at place i of the history of port p
abbrev pub pair_at : List (List (Request × Response)) → ℕ → ℕ → Option (Request × Response)
pair_at histories p i = option_and_then (λ history. slice_get history i) (slice_get histories p)

-- the history of port p has a place i
abbrev pub HasPlace : List (List (Request × Response)) → ℕ → ℕ → Type 0
HasPlace histories p i = IsSome (pair_at histories p i)

-- ---- what is asked of the entries

-- the entry of master m, with its source widened, is the pair at its port and index
pub record IsRecorded (owners : List Owner) (histories : List (List (Request × Response))) (m : ℕ)
    (e : Entry) : Type 0 where
  pub wide : ℕ
  pub is : IsWideSource owners m e.ask.source wide
  pub at : pair_at histories e.port e.index ≡ Some (record e.ask { source = wide }, record e.reply { source = wide })

-- so is each entry of each master
abbrev pub AreRecorded : List Owner → List (List Entry) → List (List (Request × Response)) → Type 0
AreRecorded owners traces histories = (m k : ℕ) (e : Entry) → HasEntry traces m k e → IsRecorded owners histories m e

-- whether the entry names place i of port p
abbrev pub names : ℕ → ℕ → Entry → Bool
names p i e = (e.port == p) && (e.index == i)

-- how many entries of a trace name place i of the history of port p.
abbrev pub times_in : ℕ → ℕ → List Entry → ℕ
times_in p i trace = length (filter (names p i) trace)

-- how many entries of all traces name place i of the history of port p.
abbrev pub times_named : List (List Entry) → ℕ → ℕ → ℕ
times_named [] p i = 0
times_named (trace ∷ traces) p i = times_in p i trace + times_named traces p i

-- the entry at place k of a trace stands after one of the same source and port whose index is no smaller
pub record IsOutOfOrder (trace : List Entry) (k : ℕ) : Type 0 where
  pub early : ℕ
  pub before : early < k
  pub earlier : Entry
  pub later : Entry
  pub at_early : slice_get trace early ≡ Some earlier
  pub at : slice_get trace k ≡ Some later
  pub source : earlier.ask.source ≡ later.ask.source
  pub port : earlier.port ≡ later.port
  pub index : later.index ≤ earlier.index

-- of two entries of the trace with one source and port the earlier has the smaller index
abbrev pub IsNeverOutOfOrder : List Entry → Type 0
IsNeverOutOfOrder trace = (k : ℕ) → IsOutOfOrder trace k → ⊥

-- ---- agreement

-- the traces and the histories hold the same entries, each once: each entry is the pair at its port and index, each
-- place of a history is named by one entry, and each trace is in order
pub record Agrees (owners : List Owner) (traces : List (List Entry))
    (histories : List (List (Request × Response))) : Type 0 where
  pub recorded : AreRecorded owners traces histories
  pub once : (p i : ℕ) → HasPlace histories p i → times_named traces p i ≡ 1
  pub ordered : (m : ℕ) (trace : List Entry) → slice_get traces m ≡ Some trace → IsNeverOutOfOrder trace

-- what a fault says of the traces and the histories; memory can be refused to any
abbrev pub HasAuditFault : List Owner → List (List Entry) → List (List (Request × Response)) → AuditFault → Type 0
HasAuditFault owners traces histories (Missing m k) =
    (e : Entry) × HasEntry traces m k e × (IsRecorded owners histories m e → ⊥)
HasAuditFault owners traces histories (Twice p i) = HasPlace histories p i × (1 < times_named traces p i)
HasAuditFault owners traces histories (Order m k) = IsSomeAnd (slice_get traces m) (λ trace. IsOutOfOrder trace k)
HasAuditFault owners traces histories (Untraced p i) = HasPlace histories p i × (times_named traces p i ≡ 0)
HasAuditFault owners traces histories Memory = ⊤
