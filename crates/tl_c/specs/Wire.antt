-- What the structs of the header stand for. This project's own.
use Rattle.std.specs.Prelude.{◌≡◌, ◌<◌, ℕ, Bool, true, false, length, Option, Some, None, ◌==◌, ◌&&◌, if◌then◌else◌, is_some, map, get_or, take, unwrap_or}
use Rattle.std.specs.List.{range_with_len}
use Rattle.check_flight.specs.declared.answer.Answer.{Answer}
use Rattle.check_watch.specs.declared.beat.Beat.{Beat}
use Rattle.check_watch.specs.declared.beat.Beat.TheVariants.{A, D}
use Rattle.check_watch.specs.declared.beat.Link.{Link}
use Rattle.check_watch.specs.declared.beat.Link.TheVariants.{Master, Port}
use Rattle.check_watch.specs.Plan.{Sighting, seen_at}
use Rattle.tl_types.specs.declared.limits.TheConstants.{MAX_SIZE}
use Rattle.tl_types.specs.declared.operation.AskOp.{AskOp}
use Rattle.tl_types.specs.Operation.{byte_count, may_leave_unset}
use Rattle.tl_types.specs.Request.{Request}
use Rattle.tl_types.specs.Wire.{IsCodeOf, reply_opcode_of}
use Rattle.tl_c.specs.declared.wire.WireAsk.{WireAsk}
use Rattle.tl_c.specs.declared.wire.WireAnswer.{WireAnswer}
use Rattle.tl_c.specs.declared.wire.WireBeat.{WireBeat}

-- the byte of a request at a place: none if a partial put leaves it unset
abbrev pub byte_at : WireAsk → Bool → ℕ → Option ℕ
byte_at wire partial place =
    if partial && (get_or wire.set place 0 == 0) then None else Some (get_or wire.bytes place 0)

-- the struct is one of this request
pub record IsWireAsk (wire : WireAsk) (ask : Request) : Type 0 where
  pub code : IsCodeOf ask.op wire.opcode wire.param
  pub size : ask.size ≡ wire.size
  pub source : ask.source ≡ wire.source
  pub address : ask.address ≡ wire.address
  pub bytes : ask.bytes ≡ map (byte_at wire (may_leave_unset ask.op)) (range_with_len 0 (byte_count ask.op ask.size))

-- the struct names no operation
abbrev pub NamesNone : WireAsk → Type 0
NamesNone wire = (op : AskOp) → IsCodeOf op wire.opcode wire.param → ⊥

-- it names one, and its size is over the limit
pub record IsTooLarge (wire : WireAsk) : Type 0 where
  pub op : AskOp
  pub code : IsCodeOf op wire.opcode wire.param
  pub over : MAX_SIZE < wire.size

-- a flag as a number
abbrev pub flag_number : Bool → ℕ
flag_number true = 1
flag_number false = 0

-- a byte as it is told: zero if it is unknown
abbrev pub told_byte : Option ℕ → ℕ
told_byte cell = unwrap_or cell 0

-- whether it is known
abbrev pub known_number : Option ℕ → ℕ
known_number cell = flag_number (is_some cell)

-- the struct is one of this answer. It says `not denied` where that is left open
pub record IsWireAnswer (wire : WireAnswer) (answer : Answer) : Type 0 where
  pub port_is : wire.port ≡ answer.port
  pub place_is : wire.place ≡ answer.index
  pub code : wire.opcode ≡ reply_opcode_of answer.reply.op
  pub size : wire.size ≡ answer.reply.size
  pub source : wire.source ≡ answer.reply.source
  pub denied : wire.denied ≡ flag_number (unwrap_or answer.reply.denied false)
  pub count : wire.count ≡ length answer.reply.bytes
  pub bytes : take wire.count wire.bytes ≡ map told_byte answer.reply.bytes
  pub known : take wire.count wire.known ≡ map known_number answer.reply.bytes

-- the flag that a number stands for
abbrev pub flag_of : ℕ → Option Bool
flag_of n = if n == 0 then Some false else if n == 1 then Some true else None

-- the link of a side's number
abbrev pub link_of : ℕ → ℕ → Option Link
link_of side number = if side == 0 then Some (Master number) else if side == 1 then Some (Port number) else None

-- the beat of a request that a struct stands for, by its flag; none if the flag has no meaning.
abbrev pub ask_beat : WireBeat → Option Bool → Option Beat
ask_beat w (Some corrupt) = Some (A (record {
  opcode = w.opcode;
  param = w.param;
  size = w.size;
  source = w.source;
  address = w.address;
  mask = w.mask;
  corrupt = corrupt;
}))
ask_beat w None = None

-- the beat of a reply that a struct stands for, by its flags; none if one of them has no meaning.
abbrev pub reply_beat : WireBeat → Option Bool → Option Bool → Option Beat
reply_beat w (Some denied) (Some corrupt) = Some (D (record {
  opcode = w.opcode;
  param = w.param;
  size = w.size;
  source = w.source;
  denied = denied;
  corrupt = corrupt;
}))
reply_beat w (Some denied) None = None
reply_beat w None corrupt = None

-- the beat that a struct stands for, if its numbers have a meaning
abbrev pub beat_of : WireBeat → Option Beat
beat_of w =
    if w.channel == 0 then ask_beat w (flag_of w.corrupt)
    else if w.channel == 1 then reply_beat w (flag_of w.denied) (flag_of w.corrupt)
    else None

-- a beat that was seen at a link, with all lanes of the struct
abbrev pub seen_with : WireBeat → Option Link → Option Beat → Option Sighting
seen_with w (Some link) (Some beat) = Some (seen_at link beat w.known w.lanes)
seen_with w (Some link) None = None
seen_with w None beat = None

-- what was seen by a struct, if its numbers have a meaning
abbrev pub shown_by_struct : WireBeat → Option Sighting
shown_by_struct w = seen_with w (link_of w.side w.number) (beat_of w)
