-- A reply on channel D as every contract sees it, and the rule that it keeps: the chapter "TL-UL and TL-UH operations"
-- of the TileLink specification, but for the largest size and that the bytes of a denied reply are zero, which are this
-- project's choices. The faults of parts that break the rule, and their order, are this project's own.
use Rattle.std.specs.Prelude.{◌≡◌, ℕ, ◌≢◌, ◌≤◌, ◌<◌, Bool, List, length, All, Any, IsTrue}
use Rattle.tl_types.specs.declared.operation.ReplyOp.{ReplyOp}
use Rattle.tl_types.specs.Fault.{IsFirstOf}
use Rattle.tl_types.specs.Operation.{reply_byte_count}
use Rattle.tl_types.specs.declared.limits.TheConstants.{MAX_SIZE}
use Rattle.tl_types.specs.declared.reply.ReplyFault.{ReplyFault}
use Rattle.tl_types.specs.declared.reply.ReplyFault.TheVariants.{TooLarge, WrongCount, DirtyDenied}

-- a reply: its opcode, the size and the source of its request, whether it was denied, and its bytes
pub record Response : Type 0 where
  pub op : ReplyOp
  pub size : ℕ
  pub source : ℕ
  pub denied : Bool
  pub bytes : List ℕ

-- the rule of replies: as many bytes as the opcode carries, all of them zero if it is denied
pub record IsLawfulResponse (op : ReplyOp) (size : ℕ) (denied : Bool) (bytes : List ℕ) : Type 0 where
  pub in_limit : size ≤ MAX_SIZE
  pub counted : length bytes ≡ reply_byte_count op size
  pub clean : IsTrue denied → All (λ b. b ≡ 0) bytes

-- the fault is one of a reply with these parts
abbrev pub HasReplyFault : ReplyOp → ℕ → Bool → List ℕ → ReplyFault → Type 0
HasReplyFault op size denied bytes TooLarge = MAX_SIZE < size
HasReplyFault op size denied bytes WrongCount = length bytes ≢ reply_byte_count op size
HasReplyFault op size denied bytes DirtyDenied = IsTrue denied × Any (λ b. b ≢ 0) bytes

-- the place of a fault in the order in which faults are tried
abbrev pub reply_fault_rank : ReplyFault → ℕ
reply_fault_rank TooLarge = 1
reply_fault_rank WrongCount = 2
reply_fault_rank DirtyDenied = 3

-- the fault is the first one, in that order, of a reply with these parts
abbrev pub IsFirstReplyFault : ReplyOp → ℕ → Bool → List ℕ → ReplyFault → Type 0
IsFirstReplyFault op size denied bytes = IsFirstOf (HasReplyFault op size denied bytes) reply_fault_rank
