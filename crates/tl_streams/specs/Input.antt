-- What a reader gave of a system, and what becomes of the faults on the way. This project's own.
use Rattle.std.specs.Prelude.{ℕ, ◌+◌, List, Option}
use Rattle.tl_script.specs.Script.{Spells, IsFirstScriptFault}
use Rattle.tl_script.specs.System.{System}
use Rattle.tl_script.specs.declared.fault.ScriptFault.{ScriptFault}
use Rattle.tl_script.specs.declared.fault.ScriptFault.TheVariants as script
use Rattle.tl_script.specs.declared.script.TheConstants.{MAX_SCRIPT}
use Rattle.tl_streams.specs.Streams.{ReadsAll, ReadsUpTo}
use Rattle.tl_streams.specs.declared.input.InputFault.{InputFault}
use Rattle.tl_streams.specs.declared.input.InputFault.TheVariants.{Script, Read, Memory}
use Rattle.tl_streams.specs.declared.streams.ReadFault.{ReadFault}
use Rattle.tl_streams.specs.declared.streams.ReadFault.TheVariants as read

-- the reader gave bytes that spell the system, and had no others
pub record GivesSystem (old new : Option (List ℕ)) (system : System) : Type 0 where
  pub script : List ℕ
  pub read : ReadsAll old new script
  pub spelled : Spells script system

-- the fault is the first of what was read: of all that the reader had, or of a byte more than a script may have
pub record HasScriptFault (old new : Option (List ℕ)) (fault : ScriptFault) : Type 0 where
  pub script : List ℕ
  pub read : ReadsUpTo (MAX_SCRIPT + 1) old new script
  pub first : IsFirstScriptFault script fault

-- want of memory is one fault, whichever layer met it
abbrev pub of_script : ScriptFault → InputFault
of_script script.Memory = Memory
of_script fault = Script fault

-- a failed read is told as it is, and want of memory too.
abbrev pub of_read : ReadFault → InputFault
of_read read.Memory = Memory
of_read read.Read = Read
