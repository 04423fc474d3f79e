-- Why a beat is not lawful, by what it finds. Which fault is named if several apply is this project's own.
use Rattle.std.specs.Prelude.{◌≡◌, ◌≢◌, ℕ, ◌⊎◌, Bool, false, List, Option, None, IsTrue, IsSome, IsSomeAnd}
use Rattle.tl_types.specs.Fault.{IsFirstOf}
use Rattle.tl_types.specs.Operation.{reply_op_of}
use Rattle.tl_types.specs.Wire.{reply_opcode_of}
use Rattle.check_cells.specs.Pattern.{Pattern}
use Rattle.check_beats.specs.Form.{HasAskFormFault, HasReplyFormFault, form_rank}
use Rattle.check_beats.specs.State.{first_ask, first_reply, ends_reply}
use Rattle.check_beats.specs.declared.beat.AskHead.{AskHead}
use Rattle.check_beats.specs.declared.beat.ReplyHead.{ReplyHead}
use Rattle.check_flight.specs.declared.answer.Answer.{Answer}
use Rattle.check_flight.specs.Crossing.{Crossing}
use Rattle.check_flight.specs.Flight.{Turn, IsInFlight}
use Rattle.check_flight.specs.Flight.Turn.{Asking}
use Rattle.check_flight.specs.PortSlave.{may_be_unknown}
use Rattle.check_watch.specs.declared.beat.Link.{Link}
use Rattle.check_watch.specs.declared.fault.Fault.{Fault}
use Rattle.check_watch.specs.declared.fault.Fault.TheVariants as faults
use Rattle.check_watch.specs.declared.fault.Reason.{Reason}
use Rattle.check_watch.specs.declared.fault.Reason.TheVariants.{Form, NoSuchSource, SourceBusy, WrongPort, NoRequest, EarlyReply, OutOfOrder, WrongSize, WrongOpcode, UnknownData, NotSent, NotGiven, WrongReply}
use Rattle.check_watch.specs.Plan.{Layout, HasSource, link_number, wider_bus}
use Rattle.check_watch.specs.Scene.{Scene, captured, is_given}
use Rattle.check_watch.specs.Allowed.{BeginsFree, BeginsPlaced, EndsSent, OfAsked, HasKnownLanes, IsMust}

-- a beat of a request is not lawful for this reason
abbrev pub HasAskReason : Layout → Link → Scene → AskHead → ℕ → List ℕ → Reason → Type 0
HasAskReason layout link scene beat known lanes (Form fault) =
    HasAskFormFault scene.under.bus layout.rules (first_ask scene.under.asking) beat known fault
HasAskReason layout link scene beat known lanes NoSuchSource = HasSource layout link beat.source → ⊥
HasAskReason layout link scene beat known lanes SourceBusy = BeginsFree scene → ⊥
HasAskReason layout link scene beat known lanes WrongPort = BeginsPlaced layout link scene beat → ⊥
HasAskReason layout link scene beat known lanes NoRequest = ⊥
HasAskReason layout link scene beat known lanes EarlyReply = ⊥
HasAskReason layout link scene beat known lanes OutOfOrder = ⊥
HasAskReason layout link scene beat known lanes WrongSize = ⊥
HasAskReason layout link scene beat known lanes WrongOpcode = ⊥
HasAskReason layout link scene beat known lanes UnknownData = ⊥
HasAskReason layout link scene beat known lanes NotSent = EndsSent layout link scene beat lanes → ⊥
HasAskReason layout link scene beat known lanes NotGiven = ⊥
HasAskReason layout link scene beat known lanes WrongReply = ⊥

-- a beat is no answer to what is in flight of its source at the link of this number, for this reason; lanes of its port's
-- slave may be unknown or not
abbrev pub HasAnswerReason : ℕ → Turn → ℕ → Bool → ReplyHead → ℕ → Reason → Type 0
HasAnswerReason number turn bus unknown beat known (Form fault) = ⊥
HasAnswerReason number turn bus unknown beat known NoSuchSource = ⊥
HasAnswerReason number turn bus unknown beat known SourceBusy = ⊥
HasAnswerReason number turn bus unknown beat known WrongPort = ⊥
HasAnswerReason number turn bus unknown beat known NoRequest = IsInFlight number turn → ⊥
HasAnswerReason number turn bus unknown beat known EarlyReply = turn ≡ Asking number
HasAnswerReason number turn bus unknown beat known OutOfOrder = ⊥
HasAnswerReason number turn bus unknown beat known WrongSize = OfAsked number turn (λ ask. beat.size ≢ ask.size)
HasAnswerReason number turn bus unknown beat known WrongOpcode =
    OfAsked number turn (λ ask. beat.opcode ≢ reply_opcode_of (reply_op_of ask.op))
HasAnswerReason number turn bus unknown beat known UnknownData =
    OfAsked number turn (λ ask. HasKnownLanes bus unknown ask beat known → ⊥)
HasAnswerReason number turn bus unknown beat known NotSent = ⊥
HasAnswerReason number turn bus unknown beat known NotGiven = ⊥
HasAnswerReason number turn bus unknown beat known WrongReply = ⊥

-- a whole reply is not the one that must come, for this reason. `NotGiven` is for what crosses both watched sides,
-- `WrongReply` for what a slave expects; if nothing is expected at all, nothing was given. After a lawful past that is
-- never so: a request that has ended has a reply due, or crosses.
abbrev pub HasEndReason : Bool → ℕ → Crossing → Option Answer → Pattern → Reason → Type 0
HasEndReason given wider crossing due reply (Form fault) = ⊥
HasEndReason given wider crossing due reply NoSuchSource = ⊥
HasEndReason given wider crossing due reply SourceBusy = ⊥
HasEndReason given wider crossing due reply WrongPort = ⊥
HasEndReason given wider crossing due reply NoRequest = ⊥
HasEndReason given wider crossing due reply EarlyReply = ⊥
HasEndReason given wider crossing due reply OutOfOrder = ⊥
HasEndReason given wider crossing due reply WrongSize = ⊥
HasEndReason given wider crossing due reply WrongOpcode = ⊥
HasEndReason given wider crossing due reply UnknownData = ⊥
HasEndReason given wider crossing due reply NotSent = ⊥
HasEndReason given wider crossing due reply NotGiven =
    (IsTrue given ⊎ (due ≡ None)) × (IsMust given wider crossing due reply → ⊥)
HasEndReason given wider crossing due reply WrongReply =
    (given ≡ false) × IsSome due × (IsMust given wider crossing due reply → ⊥)

-- the reply that a beat ends is not the one that must come, for this reason
abbrev pub EndsWith : Layout → Link → Scene → ReplyHead → ℕ → List ℕ → Reason → Type 0
EndsWith layout link scene beat known lanes reason =
    IsTrue (ends_reply scene.under.bus scene.under.replying beat)
    × HasEndReason (is_given layout link scene.port) (wider_bus layout link scene.port) scene.crossing scene.flight.due
    (captured scene.under scene.flight.turn beat known lanes) reason

-- the same, as an answer
abbrev pub AnswersWith : Link → Scene → ReplyHead → ℕ → Reason → Type 0
AnswersWith link scene beat known reason =
    HasAnswerReason (link_number link) scene.flight.turn scene.under.bus (may_be_unknown scene.slave) beat known reason

-- a beat of a reply is not lawful for this reason. That replies of a link come in the order of their requests is no rule of
-- links that are judged together, but one of each link: `check_turns` adds it
abbrev pub HasReplyReason : Layout → Link → Scene → ReplyHead → ℕ → List ℕ → Reason → Type 0
HasReplyReason layout link scene beat known lanes (Form fault) =
    HasReplyFormFault layout.rules (first_reply scene.under.replying) beat fault
HasReplyReason layout link scene beat known lanes NoSuchSource = HasSource layout link beat.source → ⊥
HasReplyReason layout link scene beat known lanes SourceBusy = ⊥
HasReplyReason layout link scene beat known lanes WrongPort = ⊥
HasReplyReason layout link scene beat known lanes NoRequest = AnswersWith link scene beat known NoRequest
HasReplyReason layout link scene beat known lanes EarlyReply = AnswersWith link scene beat known EarlyReply
HasReplyReason layout link scene beat known lanes OutOfOrder = ⊥
HasReplyReason layout link scene beat known lanes WrongSize = AnswersWith link scene beat known WrongSize
HasReplyReason layout link scene beat known lanes WrongOpcode = AnswersWith link scene beat known WrongOpcode
HasReplyReason layout link scene beat known lanes UnknownData = AnswersWith link scene beat known UnknownData
HasReplyReason layout link scene beat known lanes NotSent = ⊥
HasReplyReason layout link scene beat known lanes NotGiven = EndsWith layout link scene beat known lanes NotGiven
HasReplyReason layout link scene beat known lanes WrongReply = EndsWith layout link scene beat known lanes WrongReply

-- the place of a reason in the order in which they are tried
abbrev pub reason_rank : Reason → ℕ
reason_rank (Form fault) = form_rank fault
reason_rank NoSuchSource = 9
reason_rank SourceBusy = 10
reason_rank WrongPort = 11
reason_rank NoRequest = 12
reason_rank EarlyReply = 13
reason_rank OutOfOrder = 14
reason_rank WrongSize = 15
reason_rank WrongOpcode = 16
reason_rank UnknownData = 17
reason_rank NotSent = 18
reason_rank NotGiven = 19
reason_rank WrongReply = 20

-- the reason is the first one, in that order, why a beat of a request is not lawful.
abbrev pub IsFirstAskReason : Layout → Link → Scene → AskHead → ℕ → List ℕ → Reason → Type 0
IsFirstAskReason layout link scene beat known lanes = IsFirstOf (HasAskReason layout link scene beat known lanes) reason_rank

-- the reason is the first one, in that order, why a beat of a reply is not lawful.
abbrev pub IsFirstReplyReason : Layout → Link → Scene → ReplyHead → ℕ → List ℕ → Reason → Type 0
IsFirstReplyReason layout link scene beat known lanes =
    IsFirstOf (HasReplyReason layout link scene beat known lanes) reason_rank

-- ---- faults: reasons that are told with their replies

-- the reason that a fault is
abbrev pub reason_of : Fault → Reason
reason_of (faults.Form fault) = Form fault
reason_of faults.NoSuchSource = NoSuchSource
reason_of faults.SourceBusy = SourceBusy
reason_of faults.WrongPort = WrongPort
reason_of faults.NoRequest = NoRequest
reason_of faults.EarlyReply = EarlyReply
reason_of faults.OutOfOrder = OutOfOrder
reason_of faults.WrongSize = WrongSize
reason_of faults.WrongOpcode = WrongOpcode
reason_of faults.UnknownData = UnknownData
reason_of faults.NotSent = NotSent
reason_of faults.NotGiven = NotGiven
reason_of (faults.WrongReply expected captured) = WrongReply

-- the fault is a wrong reply, and tells what its port's slave expects, and what was captured
abbrev pub IsWrongReply : Scene → ReplyHead → ℕ → List ℕ → Fault → Type 0
IsWrongReply scene beat known lanes (faults.WrongReply expected reply) =
    IsSomeAnd scene.flight.due (λ answer. answer.reply ≡ expected)
    × (reply ≡ captured scene.under scene.flight.turn beat known lanes)
IsWrongReply scene beat known lanes (faults.Form fault) = ⊥
IsWrongReply scene beat known lanes faults.NoSuchSource = ⊥
IsWrongReply scene beat known lanes faults.SourceBusy = ⊥
IsWrongReply scene beat known lanes faults.WrongPort = ⊥
IsWrongReply scene beat known lanes faults.NoRequest = ⊥
IsWrongReply scene beat known lanes faults.EarlyReply = ⊥
IsWrongReply scene beat known lanes faults.OutOfOrder = ⊥
IsWrongReply scene beat known lanes faults.WrongSize = ⊥
IsWrongReply scene beat known lanes faults.WrongOpcode = ⊥
IsWrongReply scene beat known lanes faults.UnknownData = ⊥
IsWrongReply scene beat known lanes faults.NotSent = ⊥
IsWrongReply scene beat known lanes faults.NotGiven = ⊥
