-- What a legal request makes of its window, the bytes that it names: the chapter "TL-UL and TL-UH operations" of the
-- TileLink specification. Operands are little-endian.
use Rattle.std.specs.Prelude.{ℕ, ◌+◌, ◌-◌, if◌then◌else◌, nat_lt, int_lt, List, map, length, Option, unwrap_or, bit_and, bit_or, bit_xor}
use Rattle.std.specs.List.{zip}
use Rattle.tl_types.specs.declared.operation.Arith.{Arith}
use Rattle.tl_types.specs.declared.operation.Arith.TheVariants.{Min, Max, MinU, MaxU, Add}
use Rattle.tl_types.specs.declared.operation.Logic.{Logic}
use Rattle.tl_types.specs.declared.operation.Logic.TheVariants.{Xor, Or, And, Swap}
use Rattle.tl_types.specs.declared.operation.AskOp.{AskOp}
use Rattle.tl_types.specs.declared.operation.AskOp.TheVariants.{PutFull, PutPartial, Arithmetic, Logical, Get, Intent}
use Rattle.tl_ops.specs.declared.kind.Kind.{Kind}
use Rattle.tl_ops.specs.declared.kind.Kind.TheVariants.{Ram, Rom, Regs, ClearRegs, NoDevice}
use Rattle.tl_ops.specs.Number.{number, signed, low_bytes}

-- the given bytes, and the old ones if none is given
abbrev pub merged : List ℕ → List (Option ℕ) → List ℕ
merged old given = map (λ pair. unwrap_or pair.1 pair.0) (zip old given)

-- the bytes of an operand, which are all given
abbrev pub operand_of : List (Option ℕ) → List ℕ
operand_of given = map (λ b. unwrap_or b 0) given

-- an arithmetic atomic: the lesser or the greater, signed or not, or the sum without what passes its bytes
abbrev pub combine_arith : Arith → List ℕ → List ℕ → List ℕ
combine_arith Min old x = if int_lt (signed x) (signed old) then x else old
combine_arith Max old x = if int_lt (signed old) (signed x) then x else old
combine_arith MinU old x = if nat_lt (number x) (number old) then x else old
combine_arith MaxU old x = if nat_lt (number old) (number x) then x else old
combine_arith Add old x = low_bytes (length old) (number old + number x)

-- a logical atomic on one byte, bit by bit
abbrev pub combine_byte : Logic → ℕ → ℕ → ℕ
combine_byte Xor old x = bit_xor old x
combine_byte Or old x = bit_or old x
combine_byte And old x = bit_and old x
combine_byte Swap old x = x

-- a logical atomic, byte by byte
abbrev pub combine_logic : Logic → List ℕ → List ℕ → List ℕ
combine_logic op old x = map (λ pair. combine_byte op pair.0 pair.1) (zip old x)

-- a byte with each bit turned round
abbrev pub not_byte : ℕ → ℕ
not_byte byte = 255 - byte

-- each old byte without the bits that are given as ones: old AND NOT given, this project's own
abbrev pub cleared : List ℕ → List ℕ → List ℕ
cleared old ones = map (λ pair. bit_and pair.0 (not_byte pair.1)) (zip old ones)

-- what a put leaves at a slave of this kind: what it gives, or, where writing a one clears, the old bits that it gives
-- as zeros
abbrev pub put_window : Kind → List ℕ → List (Option ℕ) → List ℕ
put_window Ram old given = merged old given
put_window Rom old given = merged old given
put_window Regs old given = merged old given
put_window ClearRegs old given = cleared old (operand_of given)
put_window NoDevice old given = merged old given

-- the window after a legal request at a slave of this kind
abbrev pub new_window : Kind → AskOp → List ℕ → List (Option ℕ) → List ℕ
new_window kind PutFull old given = put_window kind old given
new_window kind PutPartial old given = put_window kind old given
new_window kind (Arithmetic op) old given = combine_arith op old (operand_of given)
new_window kind (Logical op) old given = combine_logic op old (operand_of given)
new_window kind Get old given = old
new_window kind (Intent _) old given = old
