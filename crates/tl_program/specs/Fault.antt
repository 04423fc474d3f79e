-- What becomes of the fault of a step. This project's own.
use Rattle.std.specs.Prelude.{ℕ}
use Rattle.tl_audit.specs.declared.fault.AuditFault.{AuditFault}
use Rattle.tl_audit.specs.declared.fault.AuditFault.TheVariants as audit
use Rattle.tl_streams.specs.declared.input.InputFault.{InputFault}
use Rattle.tl_streams.specs.declared.input.InputFault.TheVariants as input
use Rattle.tl_workers.specs.declared.fault.ThreadFault.{ThreadFault}
use Rattle.tl_workers.specs.declared.fault.ThreadFault.TheVariants as thread
use Rattle.tl_program.specs.declared.fault.RunFault.{RunFault}
use Rattle.tl_program.specs.declared.fault.RunFault.TheVariants.{Script, Read, Write, Audit, Memory, NoThread, GateHeld, StrayBook, NotLeft}

-- a fault of the input is told as it is
abbrev pub of_input : InputFault → RunFault
of_input (input.Script fault) = Script fault
of_input input.Read = Read
of_input input.Memory = Memory

-- want of memory is one fault, whichever layer met it
abbrev pub of_audit : AuditFault → RunFault
of_audit audit.Memory = Memory
of_audit fault = Audit fault

-- a fault of the threads is told as it is.
abbrev pub of_thread : ThreadFault → RunFault
of_thread thread.Memory = Memory
of_thread thread.NoThread = NoThread
of_thread (thread.GateHeld port) = GateHeld port
of_thread (thread.StrayBook port) = StrayBook port
of_thread (thread.NotLeft master) = NotLeft master

-- the status that the program ends with
abbrev pub status_of : RunFault → ℕ
status_of (Script _) = 1
status_of Read = 5
status_of Write = 5
status_of (Audit _) = 3
status_of Memory = 4
status_of NoThread = 4
status_of (GateHeld _) = 5
status_of (StrayBook _) = 5
status_of (NotLeft _) = 5
