-- The word of an operation by its codes. Opcodes and parameters are those of the chapter "TL-UL and TL-UH operations" of
-- the TileLink specification; the words are this project's own.
use Rattle.std.specs.Prelude.{ℕ, Bool, ◌==◌, ◌&&◌, List, filter, flat_map}
use Rattle.tl_types.specs.Wire.{opcode_of, param_of}
use Rattle.tl_types.specs.declared.operation.AskOp.{AskOp}
use Rattle.tl_text.specs.Name.{all_operations, operation_word}

-- the operation has this opcode and this parameter
abbrev pub has_codes : ℕ → ℕ → AskOp → Bool
has_codes opcode param op = (opcode_of op == opcode) && (param_of op == param)

-- the word of the operation that an opcode and a parameter stand for; no word if they stand for none
unfoldable pub name_text : ℕ → ℕ → List ℕ
name_text opcode param = flat_map operation_word (filter (has_codes opcode param) all_operations)
