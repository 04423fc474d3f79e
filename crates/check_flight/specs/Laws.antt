-- The laws, said on their own.
use Rattle.std.specs.Prelude.{◌≡◌, ℕ, Bool, true, false, List, [], Option, Some, length, IsTrue}
use Rattle.check_beats.specs.State.{Under, ends_ask, ends_reply}
use Rattle.check_beats.specs.declared.beat.AskHead.{AskHead}
use Rattle.check_beats.specs.declared.beat.ReplyHead.{ReplyHead}
use Rattle.check_cells.specs.Known.{all_known}
use Rattle.check_cells.specs.Pattern.{Pattern}
use Rattle.check_cells.specs.Sent.{Sent, is_corrupt}
use Rattle.check_memory.specs.Laws.{IsLawfulAsk}
use Rattle.check_memory.specs.Partial.{Partial, AreWithin}
use Rattle.check_memory.specs.Whole.{whole}
use Rattle.check_memory.specs.declared.slave.Slave.{Slave}
use Rattle.check_memory.specs.declared.slave.Slave.TheVariants.{Memory}
use Rattle.check_contests.specs.Sent.{expected_of_sent}
use Rattle.check_flight.specs.PortSlave.{PortSlave, accepting, answering, may_be_unknown, served_by}
use Rattle.check_flight.specs.Side.{ask_crossed, ask_ended, reply_crossed, reply_ended}

-- ---- links

-- after the last beat of its message nothing is under way on a channel
abbrev pub LastBeatEndsAsk : Type 0
LastBeatEndsAsk =
    (under : Under) (beat : AskHead) (lanes : List ℕ) → IsTrue (ends_ask under.bus under.asking beat)
    → ask_crossed under beat lanes ≡ ask_ended under

-- after the last beat of a reply nothing is under way on channel D.
abbrev pub LastBeatEndsReply : Type 0
LastBeatEndsReply =
    (under : Under) (beat : ReplyHead) (known : ℕ) (lanes : List ℕ)
    → IsTrue (ends_reply under.bus under.replying beat) → reply_crossed under beat known lanes ≡ reply_ended under

-- ---- slaves

-- when requests take effect at a slave, and whether lanes of its replies may be unknown, is as it was
pub record StaysAsItIs (slave later : PortSlave) : Type 0 where
  pub order : later.order ≡ slave.order
  pub lanes : may_be_unknown later ≡ may_be_unknown slave

-- a slave stays so as a request of a wide source is accepted.
abbrev pub AcceptingSlaveStays : Type 0
AcceptingSlaveStays =
    (slave : PortSlave) (wide : ℕ) (sent : Option Sent) → StaysAsItIs slave (accepting slave wide sent)

-- a slave stays so as a request of a wide source is answered.
abbrev pub AnsweringSlaveStays : Type 0
AnsweringSlaveStays =
    (slave : PortSlave) (wide : ℕ) (sent : Option Sent) → StaysAsItIs slave (answering slave wide sent)

-- it is a memory, all its bytes are known, and none changes by itself
pub record IsWholeMemory (slave : Slave) : Type 0 where
  pub memory : Partial
  pub bytes : List ℕ
  pub is : slave ≡ Memory (whole memory bytes)
  pub within : AreWithin memory.ranges (length bytes)
  pub still : memory.volatile ≡ []

-- a reply of which all is known
pub record IsWholePattern (reply : Pattern) : Type 0 where
  pub flag : Bool
  pub denied : reply.denied ≡ Some flag
  pub bytes : all_known reply.bytes ≡ true

-- all is known of what is expected of it, and it is such a memory afterwards
pub record StaysWhole (slave : PortSlave) (sent : Sent) : Type 0 where
  pub expects : IsWholePattern (expected_of_sent slave.kept sent)
  pub leaves : IsWholeMemory (served_by slave sent).kept

-- such a memory has no use for unknown lanes, as long as no request is corrupt
abbrev pub WholeSlaveStaysWhole : Type 0
WholeSlaveStaysWhole =
    (slave : PortSlave) (sent : Sent) → IsLawfulAsk sent.ask → is_corrupt sent ≡ false → IsWholeMemory slave.kept
    → StaysWhole slave sent
