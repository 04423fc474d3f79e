-- The fault of a word as one of a dump. This project's own.
use Rattle.std.specs.Prelude.{ℕ, ⊤}
use Rattle.check_vcd.specs.declared.fault.DumpFault.{DumpFault}
use Rattle.check_vcd.specs.declared.fault.DumpFault.TheVariants as dump
use Rattle.check_vcd.specs.declared.fault.WordFault.{WordFault}
use Rattle.check_vcd.specs.declared.fault.WordFault.TheVariants.{Wrong, Memory}

-- the same, with the line of the word
abbrev pub on_line : ℕ → WordFault → DumpFault
on_line line (Wrong mistake) = dump.At line mistake
on_line line Memory = dump.Memory

-- the fault is none of the text
abbrev pub IsNoMistake : DumpFault → Type 0
IsNoMistake (dump.At line mistake) = ⊥
IsNoMistake dump.Read = ⊤
IsNoMistake dump.Memory = ⊤
