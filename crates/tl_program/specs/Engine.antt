-- What an engine reads, and what it writes for that. This project's own.
use Rattle.std.specs.Prelude.{◌≡◌, ◌≢◌, ℕ, Bool, List, ◌+◌, ◌++◌, length, Option, Result, Err, OnOk, IfErr}
use Rattle.std.specs.Io.KnownBytes.{Appends, Keeps}
use Rattle.tl_types.specs.declared.trace.Entry.{Entry}
use Rattle.tl_arena.specs.declared.account.HeldSlot.{HeldSlot}
use Rattle.tl_port.specs.Book.{BookView}
use Rattle.tl_audit.specs.Agrees.{Agrees, HasAuditFault}
use Rattle.tl_audit.specs.Reader.{histories_of}
use Rattle.tl_audit.specs.declared.fault.AuditFault.{AuditFault}
use Rattle.tl_audit.specs.declared.fault.AuditFault.TheVariants as audit
use Rattle.tl_script.specs.History.{account_text}
use Rattle.tl_script.specs.System.{System}
use Rattle.tl_script.specs.declared.fault.ScriptFault.{ScriptFault}
use Rattle.tl_script.specs.declared.script.TheConstants.{MAX_SCRIPT}
use Rattle.tl_serial.specs.Text.{run_text}
use Rattle.tl_streams.specs.Input.{GivesSystem, HasScriptFault}
use Rattle.tl_streams.specs.Streams.{AppendsPart, TakesUpTo}
use Rattle.tl_program.specs.Run.{IsThreadedRun}
use Rattle.tl_program.specs.declared.fault.RunFault.{RunFault}
use Rattle.tl_program.specs.declared.fault.RunFault.TheVariants as run

-- the text is that of a run of the system by threads whose traces and histories agree: its traces, its histories where
-- they are asked for, and how many slots are free and how many held at its end, when every master has left
pub record IsThreadedText (history : Bool) (system : System) (text : List ℕ) : Type 0 where
  pub traces : List (List Entry)
  pub books : List BookView
  pub free : List ℕ
  pub held : List HeldSlot
  pub left : List ℕ
  pub run : IsThreadedRun system traces books free held left
  pub agrees : Agrees system.owners traces (histories_of books)
  pub is : text ≡ run_text history traces (histories_of books) ++ account_text (length free) (length held)

-- the traces and histories of a run of the system by threads have this fault, which is not want of memory
pub record HasThreadedFault (system : System) (fault : AuditFault) : Type 0 where
  pub traces : List (List Entry)
  pub books : List BookView
  pub free : List ℕ
  pub held : List HeldSlot
  pub left : List ℕ
  pub run : IsThreadedRun system traces books free held left
  pub has : HasAuditFault system.owners traces (histories_of books) fault
  pub told : fault ≢ audit.Memory

-- no run has a fault
abbrev pub HasNoFault : System → AuditFault → Type 0
HasNoFault system fault = ⊥

-- what was written is such a text of the system that all of what was read spells
pub record WritesAnswer (IsText : System → List ℕ → Type 0)
    (read_old read_new written_old written_new : Option (List ℕ)) : Type 0 where
  pub system : System
  pub text : List ℕ
  pub given : GivesSystem read_old read_new system
  pub of_run : IsText system text
  pub written : Appends written_old written_new text

-- what was written is a front of such a text, and not all of it
pub record BeginsToAnswer (IsText : System → List ℕ → Type 0)
    (read_old read_new written_old written_new : Option (List ℕ)) : Type 0 where
  pub system : System
  pub text : List ℕ
  pub given : GivesSystem read_old read_new system
  pub of_run : IsText system text
  pub written : AppendsPart written_old written_new text

-- a run of the system that all of what was read spells has this fault of an audit
pub record FailsAudit (HasFault : System → AuditFault → Type 0) (read_old read_new : Option (List ℕ))
    (fault : AuditFault) : Type 0 where
  pub system : System
  pub given : GivesSystem read_old read_new system
  pub has : HasFault system fault

-- what an engine promises of its result, if these are the texts of the runs of a system, and the faults that a run
-- may have: what the reader had before and has after, and what the writer held before and holds after
pub record IsAnswered (IsText : System → List ℕ → Type 0) (HasFault : System → AuditFault → Type 0)
    (read_old read_new written_old written_new : Option (List ℕ)) (result : Result Unit RunFault) : Type 0 where
  -- what is written is such a text of the system that all that the reader had spells
  pub ok : OnOk result (WritesAnswer IsText read_old read_new written_old written_new)
  -- a fault of the script is the first of what was read
  pub script : (fault : ScriptFault) → result ≡ Err (run.Script fault) → HasScriptFault read_old read_new fault
  -- a fault of an audit is one of a run
  pub audit : (fault : AuditFault) → result ≡ Err (run.Audit fault) → FailsAudit HasFault read_old read_new fault
  -- no more is read than makes a script too long, whether a fault comes of it or not
  pub taken : TakesUpTo (MAX_SCRIPT + 1) read_old read_new
  -- nothing is written but by an Ok or before a failed write
  pub quiet : IfErr result (λ fault. fault ≢ run.Write → Keeps written_old written_new)
  -- and that leaves a front of such a text
  pub part : IfErr result (λ fault. fault ≡ run.Write → BeginsToAnswer IsText read_old read_new written_old written_new)
