-- What holds of messages under way. It is this project's own.
use Rattle.std.specs.Prelude.{◌≡◌, ℕ, ◌*◌, ◌<◌, length, false, true, Option, Some, None, slice_get, All, IsSome, IsTrue}
use Rattle.check_beats.specs.Form.{IsFormed, IsFormedReply}
use Rattle.check_beats.specs.Message.{ask_beats, reply_beats, op_of}
use Rattle.tl_types.specs.Operation.{may_leave_unset}
use Rattle.check_beats.specs.State.{AskBegun, ReplyBegun}

-- the first beat is lawful alone, there are beats to come, each that has crossed has filled the bus, bytes are left
-- unset only if they may be, and each byte has a mark
pub record IsAskBegun (bus : ℕ) (begun : AskBegun) : Type 0 where
  pub formed : IsFormed bus begun.first
  pub some : 0 < begun.beats
  pub unfinished : begun.beats < ask_beats bus begun.first
  pub counted : length begun.bytes ≡ begun.beats * bus
  pub whole : may_leave_unset (op_of begun.first.opcode begun.first.param) ≡ false → All (λ b. IsSome b) begun.bytes
  pub marked : length begun.spoiled ≡ length begun.bytes

-- if a request is under way, what is kept of it is so.
pub record IsAskKept (bus : ℕ) (begun : Option AskBegun) : Type 0 where
  pub of : (b : AskBegun) → begun ≡ Some b → IsAskBegun bus b

-- the same of a reply, whose bytes are zeros if it is denied; each has a mark, and nothing is known of one that is spoiled
pub record IsReplyBegun (bus : ℕ) (begun : ReplyBegun) : Type 0 where
  pub formed : IsFormedReply begun.first
  pub some : 0 < begun.beats
  pub unfinished : begun.beats < reply_beats bus begun.first
  pub counted : length begun.bytes ≡ begun.beats * bus
  pub clean : IsTrue begun.first.denied → All (λ b. b ≡ Some 0) begun.bytes
  pub marked : length begun.spoiled ≡ length begun.bytes
  pub nothing : (place : ℕ) → slice_get begun.spoiled place ≡ Some true → slice_get begun.bytes place ≡ Some None

-- if a reply is under way, what is kept of it is so.
pub record IsReplyKept (bus : ℕ) (begun : Option ReplyBegun) : Type 0 where
  pub of : (b : ReplyBegun) → begun ≡ Some b → IsReplyBegun bus b
