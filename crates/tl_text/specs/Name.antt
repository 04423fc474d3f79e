-- The names of operations in scripts and traces, and of replies in traces.
use Rattle.std.specs.Prelude.{ℕ, List, [], ◌∷◌, codes, Option, find}
use Rattle.std.specs.Str.{bytes_eq}
use Rattle.tl_types.specs.declared.operation.Arith.TheVariants.{Min, Max, MinU, MaxU, Add}
use Rattle.tl_types.specs.declared.operation.Logic.TheVariants.{Xor, Or, And, Swap}
use Rattle.tl_types.specs.declared.operation.Hint.TheVariants.{PrefetchRead, PrefetchWrite}
use Rattle.tl_types.specs.declared.operation.AskOp.{AskOp}
use Rattle.tl_types.specs.declared.operation.AskOp.TheVariants.{PutFull, PutPartial, Arithmetic, Logical, Get, Intent}
use Rattle.tl_types.specs.declared.operation.ReplyOp.{ReplyOp}
use Rattle.tl_types.specs.declared.operation.ReplyOp.TheVariants.{AccessAck, AccessAckData, HintAck}

-- the word that names an operation
abbrev pub operation_word : AskOp → List ℕ
operation_word Get = codes "get"
operation_word PutFull = codes "putfull"
operation_word PutPartial = codes "putpart"
operation_word (Arithmetic Min) = codes "min"
operation_word (Arithmetic Max) = codes "max"
operation_word (Arithmetic MinU) = codes "minu"
operation_word (Arithmetic MaxU) = codes "maxu"
operation_word (Arithmetic Add) = codes "add"
operation_word (Logical Xor) = codes "xor"
operation_word (Logical Or) = codes "or"
operation_word (Logical And) = codes "and"
operation_word (Logical Swap) = codes "swap"
operation_word (Intent PrefetchRead) = codes "prefetchr"
operation_word (Intent PrefetchWrite) = codes "prefetchw"

-- every operation
abbrev pub all_operations : List AskOp
all_operations =
    Get ∷ PutFull ∷ PutPartial
    ∷ Arithmetic Min ∷ Arithmetic Max ∷ Arithmetic MinU ∷ Arithmetic MaxU ∷ Arithmetic Add
    ∷ Logical Xor ∷ Logical Or ∷ Logical And ∷ Logical Swap
    ∷ Intent PrefetchRead ∷ Intent PrefetchWrite ∷ []

-- the operation that a word names
abbrev pub name_of : List ℕ → Option AskOp
name_of word = find (λ op. bytes_eq (operation_word op) word) all_operations

-- the word that names a reply
abbrev pub reply_word_of : ReplyOp → List ℕ
reply_word_of AccessAck = codes "AccessAck"
reply_word_of AccessAckData = codes "AccessAckData"
reply_word_of HintAck = codes "HintAck"
