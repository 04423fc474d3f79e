-- What becomes of the fault of a step. This project's own.
use Rattle.std.specs.Prelude.{ℕ}
use Rattle.check_keys.specs.declared.fault.SystemFault.{SystemFault}
use Rattle.check_keys.specs.declared.fault.SystemFault.TheVariants as system
use Rattle.tl_streams.specs.declared.streams.ReadFault.{ReadFault}
use Rattle.tl_streams.specs.declared.streams.ReadFault.TheVariants as read
use Rattle.check_text.specs.declared.fault.CaptureFault.{CaptureFault}
use Rattle.check_text.specs.declared.fault.CaptureFault.TheVariants as capture
use Rattle.check_program.specs.declared.fault.CheckFault.{CheckFault}
use Rattle.check_dump.specs.declared.fault.ReplayFault.{ReplayFault}
use Rattle.check_dump.specs.declared.fault.ReplayFault.TheVariants as replay
use Rattle.check_signals.specs.declared.fault.KeyFault.{KeyFault}
use Rattle.check_signals.specs.declared.fault.KeyFault.TheVariants as key
use Rattle.check_waves.specs.declared.fault.WaveFault.{WaveFault}
use Rattle.check_waves.specs.declared.fault.WaveFault.TheVariants as wave
use Rattle.check_program.specs.declared.fault.CheckFault.TheVariants.{System, Capture, Keys, Unnamed, Dump, Read, Write, Memory}

-- want of memory is one fault, whichever layer met it; a fault of SYSTEM is told as it is
abbrev pub of_system : SystemFault → CheckFault
of_system system.Memory = Memory
of_system fault = System fault

-- a failed read is told as it is, and want of memory too.
abbrev pub of_read : ReadFault → CheckFault
of_read read.Memory = Memory
of_read read.Read = Read

-- want of memory, a failed read and a failed write are each one fault, whichever layer met it
abbrev pub of_capture : CaptureFault → CheckFault
of_capture (capture.Header line) = Capture (capture.Header line)
of_capture (capture.TooLong line) = Capture (capture.TooLong line)
of_capture (capture.Row line why) = Capture (capture.Row line why)
of_capture capture.Read = Read
of_capture capture.Memory = Memory
of_capture capture.Write = Write

-- want of memory is one fault; another fault of the keys is told as it is.
abbrev pub of_keys : KeyFault → CheckFault
of_keys key.Memory = Memory
of_keys fault = Keys fault

-- a fault of a dump, as the program tells it
abbrev pub dump_fault : WaveFault → CheckFault
dump_fault fault = Dump (record { wave = fault })

-- a failed read and want of memory are each one fault; another fault is told as that of a dump.
abbrev pub of_wave : WaveFault → CheckFault
of_wave wave.Read = Read
of_wave wave.Memory = Memory
of_wave fault = dump_fault fault

-- a fault of a dump is told as that of a dump, whichever layer met it
abbrev pub of_replay : ReplayFault → CheckFault
of_replay (replay.Edges why) = dump_fault (wave.Edges why)
of_replay (replay.Unknown unknown) = dump_fault (wave.Unknown unknown)
of_replay (replay.Dump line mistake) = dump_fault (wave.Dump line mistake)
of_replay (replay.Row line why) = Capture (capture.Row line why)
of_replay replay.Read = Read
of_replay replay.Memory = Memory
of_replay replay.Write = Write

-- the status that the program ends with if there is no verdict
abbrev pub status_of : CheckFault → ℕ
status_of (System _) = 1
status_of (Capture _) = 1
status_of (Keys _) = 1
status_of (Unnamed _) = 1
status_of (Dump _) = 1
status_of Read = 5
status_of Write = 5
status_of Memory = 4
