-- The operation that a line of a script spells: `SOURCE NAME ADDRESS SIZE [DATA]`, or the one word `wait`.
use Rattle.std.specs.Prelude.{ℕ, ◌*◌, ◌^◌, Bool, false, ◌||◌, nat_lt, nat_le, nat_eq, ◌==◌, List, [], ◌∷◌, length, drop, codes, Option, Some, None, is_some, option_and_then, option_map, if◌then◌else◌}
use Rattle.std.specs.List.{list_all, starts_with}
use Rattle.std.specs.Str.{bytes_eq}
use Rattle.tl_types.specs.Operation.{carries_bytes, may_leave_unset}
use Rattle.tl_types.specs.Request.{Request, IsLawfulRequest}
use Rattle.tl_types.specs.declared.operation.AskOp.{AskOp}
use Rattle.tl_types.specs.declared.limits.TheConstants.{MAX_SIZE}
use Rattle.tl_script.specs.Data.{data_of}
use Rattle.tl_text.specs.Name.{name_of}
use Rattle.tl_text.specs.Number.{number_of}
use Rattle.tl_text.specs.Word.{words_of}
use Rattle.tl_script.specs.declared.operation.Job.{Job}
use Rattle.tl_script.specs.declared.operation.Job.TheVariants.{Wait, Send}
use Rattle.tl_script.specs.declared.operation.Spelled.{Spelled}
use Rattle.tl_script.specs.declared.operation.Spelled.TheVariants.{Wait as SpelledWait, Send as SpelledSend}

infixl 10 ◌>>=◌
abbrev ◌>>=◌ : {A B : Type 0} → Option A → (A → Option B) → Option B
o >>= f = option_and_then f o

-- SOURCE: one to three decimal digits of a number below the master's count of sources
unfoldable pub source_of_word : ℕ → List ℕ → Option ℕ
source_of_word sources word = number_of 10 3 word >>= (λ source. if nat_lt source sources then Some source else None)

-- ADDRESS: `0x` and one to sixteen hexadecimal digits, or one to twenty decimal digits, of a number below 2^64
unfoldable pub address_of : List ℕ → Option ℕ
address_of word = if starts_with nat_eq word (codes "0x") then number_of 16 16 (drop 2 word) else number_of 10 20 word

-- SIZE: one decimal digit, not over the limit
unfoldable pub size_of : List ℕ → Option ℕ
size_of word = number_of 10 1 word >>= (λ size. if nat_le size MAX_SIZE then Some size else None)

-- DATA of this many bytes
unfoldable pub counted_data_of : ℕ → List ℕ → Option (List (Option ℕ))
counted_data_of count word = if length word == 2 * count then data_of word else None

-- the bytes that the words after SIZE spell: one word if the operation carries bytes, and none elsewhere;
-- only a partial put has unset bytes
unfoldable pub operand_bytes : AskOp → ℕ → List (List ℕ) → Option (List (Option ℕ))
operand_bytes op size [] = if carries_bytes op then None else Some []
operand_bytes op size (word ∷ []) =
    if carries_bytes op
    then counted_data_of (2 ^ size) word >>=
    (λ bytes. if may_leave_unset op || list_all is_some bytes then Some bytes else None)
    else None
operand_bytes op size (word ∷ more ∷ words) = None

-- the request that words spell
unfoldable pub request_of : ℕ → List (List ℕ) → Option Request
request_of sources (source ∷ name ∷ address ∷ size ∷ more) = do
  s ← source_of_word sources source
  op ← name_of name
  a ← address_of address
  z ← size_of size
  bytes ← operand_bytes op z more
  Some (record { op = op; size = z; source = s; address = a; bytes = bytes })
request_of sources _ = None

-- whether the words are the one word `wait`
abbrev pub is_wait : List (List ℕ) → Bool
is_wait (word ∷ []) = bytes_eq word (codes "wait")
is_wait _ = false

-- the operation that words spell, for a master with this many sources
unfoldable pub operation_in : ℕ → List (List ℕ) → Option Job
operation_in sources words = if is_wait words then Some Wait else option_map Send (request_of sources words)

-- the operation that a line spells
unfoldable pub operation_of : ℕ → List ℕ → Option Job
operation_of sources line = operation_in sources (words_of line)

-- ---- what a line spells, apart from the bytes of its request

-- the operation of what is spelled, with these bytes
abbrev pub job_of : Spelled → List (Option ℕ) → Job
job_of SpelledWait bytes = Wait
job_of (SpelledSend op size source address) bytes =
    Send (record { op = op; size = size; source = source; address = address; bytes = bytes })

-- if it sends a request, these are bytes of one
abbrev pub IsLawfulJob : Spelled → List (Option ℕ) → Type 0
IsLawfulJob SpelledWait bytes = Unit {0}
IsLawfulJob (SpelledSend op size source address) bytes = IsLawfulRequest op size bytes
