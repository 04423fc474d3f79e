-- Each operation is read by its own name.
use Rattle.std.proofs.Common.{◌≡◌, Some, refl}
use Rattle.tl_types.specs.declared.operation.Arith.TheVariants.{Min, Max, MinU, MaxU, Add}
use Rattle.tl_types.specs.declared.operation.Logic.TheVariants.{Xor, Or, And, Swap}
use Rattle.tl_types.specs.declared.operation.Hint.TheVariants.{PrefetchRead, PrefetchWrite}
use Rattle.tl_types.specs.declared.operation.AskOp.{AskOp}
use Rattle.tl_types.specs.declared.operation.AskOp.TheVariants.{PutFull, PutPartial, Arithmetic, Logical, Get, Intent}
use Rattle.tl_text.specs.Name.{name_of, operation_word}

pub name_of-word_of : (op : AskOp) → name_of (operation_word op) ≡ Some op
name_of-word_of Get = refl
name_of-word_of PutFull = refl
name_of-word_of PutPartial = refl
name_of-word_of (Arithmetic Min) = refl
name_of-word_of (Arithmetic Max) = refl
name_of-word_of (Arithmetic MinU) = refl
name_of-word_of (Arithmetic MaxU) = refl
name_of-word_of (Arithmetic Add) = refl
name_of-word_of (Logical Xor) = refl
name_of-word_of (Logical Or) = refl
name_of-word_of (Logical And) = refl
name_of-word_of (Logical Swap) = refl
name_of-word_of (Intent PrefetchRead) = refl
name_of-word_of (Intent PrefetchWrite) = refl
