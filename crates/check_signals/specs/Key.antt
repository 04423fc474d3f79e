-- The keys of a system file that say where signals are. This project's own.
use Rattle.std.specs.Prelude.{ℕ, List, codes}
use Rattle.check_signals.specs.declared.fault.SignalKey.{SignalKey}
use Rattle.check_signals.specs.declared.fault.SignalKey.TheVariants.{Port, Master, Clock, Reset, LinkReset, ResetActive, Signals, Wires, Bits, Names, Resets, Edge}

-- the key, as a file has it
abbrev pub signal_key_name : SignalKey → List ℕ
signal_key_name Port = codes "port"
signal_key_name Master = codes "master"
signal_key_name Clock = codes "clock"
signal_key_name Reset = codes "reset"
signal_key_name LinkReset = codes "link_reset"
signal_key_name ResetActive = codes "reset_active"
signal_key_name Signals = codes "signals"
signal_key_name Wires = codes "wires"
signal_key_name Bits = codes "bits"
signal_key_name Names = codes "names"
signal_key_name Resets = codes "resets"
signal_key_name Edge = codes "edge"
