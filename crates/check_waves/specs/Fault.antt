-- What becomes of the fault of a step. This project's own.
use Rattle.std.specs.Prelude.{ℕ}
use Rattle.check_keys.specs.declared.fault.SystemFault.{SystemFault}
use Rattle.check_keys.specs.declared.fault.SystemFault.TheVariants as system
use Rattle.check_samples.specs.declared.rows.RowsFault.{RowsFault}
use Rattle.check_samples.specs.declared.rows.RowsFault.TheVariants as rows
use Rattle.check_signals.specs.declared.fault.KeyFault.{KeyFault}
use Rattle.check_signals.specs.declared.fault.KeyFault.TheVariants as key
use Rattle.check_signals.specs.declared.signal_fault.SignalFault.{SignalFault}
use Rattle.check_signals.specs.declared.signal_fault.SignalFault.TheVariants as signal
use Rattle.check_vcd.specs.declared.fault.DumpFault.{DumpFault}
use Rattle.check_vcd.specs.declared.fault.DumpFault.TheVariants as dump
use Rattle.tl_streams.specs.declared.streams.ReadFault.{ReadFault}
use Rattle.tl_streams.specs.declared.streams.ReadFault.TheVariants as read
use Rattle.check_waves.specs.declared.fault.WaveFault.{WaveFault}
use Rattle.check_waves.specs.declared.fault.WaveFault.TheVariants.{System, Keys, Signal, Dump, Unknown, Edges, Read, Write, Memory}

-- want of memory is one fault, whichever layer met it
abbrev pub of_system : SystemFault → WaveFault
of_system system.Memory = Memory
of_system fault = System fault

-- want of memory is one fault; another fault of the keys is told as it is.
abbrev pub of_keys : KeyFault → WaveFault
of_keys key.Memory = Memory
of_keys fault = Keys fault

-- a fault of a dump is told as it is; a failed read and want of memory are each one fault.
abbrev pub of_dump : DumpFault → WaveFault
of_dump (dump.At line mistake) = Dump line mistake
of_dump dump.Read = Read
of_dump dump.Memory = Memory

-- want of memory is one fault; a signal that is not found is told as it is.
abbrev pub of_signal : SignalFault → WaveFault
of_signal signal.Memory = Memory
of_signal fault = Signal fault

-- a fault of rows is told as it is; a failed read and want of memory are each one fault.
abbrev pub of_rows : RowsFault → WaveFault
of_rows (rows.Unknown unknown) = Unknown unknown
of_rows (rows.Dump line mistake) = Dump line mistake
of_rows (rows.Edges why) = Edges why
of_rows rows.Read = Read
of_rows rows.Memory = Memory

-- a failed read is told as it is, and want of memory too.
abbrev pub of_read : ReadFault → WaveFault
of_read read.Read = Read
of_read read.Memory = Memory

-- the status that the program ends with
abbrev pub wave_status_of : WaveFault → ℕ
wave_status_of (System fault) = 1
wave_status_of (Keys fault) = 1
wave_status_of (Signal fault) = 1
wave_status_of (Dump line mistake) = 1
wave_status_of (Unknown unknown) = 1
wave_status_of (Edges why) = 1
wave_status_of Read = 5
wave_status_of Write = 5
wave_status_of Memory = 4
