-- How far the request in flight of a source has come across, if both sides of a crossbar are watched. It is this
-- project's own.
use Rattle.std.specs.Prelude.{◌≡◌, ◌↔◌, ℕ, ◌/◌, Bool, true, false, List, length, map, Option, Some, None, is_some, slice_get, slice_index_or}
use Rattle.check_cells.specs.Pattern.{Pattern}
use Rattle.check_cells.specs.Sent.{Sent}
use Rattle.check_flight.specs.declared.answer.Answer.{Answer}
use Rattle.check_flight.specs.declared.crossing.Reach.{Reach}
use Rattle.check_flight.specs.declared.crossing.Reach.TheVariants.{AtMaster, AtPort, Answered}

-- it is at its master's link alone, a port has taken it, or the port has given this reply, as it was captured
pub data Crossing : Type 0 where
  Waiting : Crossing
  Crossed : Crossing
  Given : Answer → Crossing

-- how it is kept, with an answer that says something only where a port has answered
abbrev pub crossing_kept : Reach → Answer → Crossing
crossing_kept AtMaster answer = Waiting
crossing_kept AtPort answer = Crossed
crossing_kept Answered answer = Given answer

-- what the port gave
abbrev pub given : Crossing → Option Answer
given Waiting = None
given Crossed = None
given (Given answer) = Some answer

-- ---- messages, compared cut by cut

-- the bytes of a captured message, and which of them are spoiled
pub record MessageBytes : Type 0 where
  pub bytes : List (Option ℕ)
  pub spoiled : List Bool

-- those of a reply
abbrev pub reply_bytes : Pattern → MessageBytes
reply_bytes reply = record { bytes = reply.bytes; spoiled = reply.spoiled }

-- those of a request
abbrev pub request_bytes : Sent → MessageBytes
request_bytes sent = record { bytes = sent.ask.bytes; spoiled = sent.spoiled }

-- a cut of so many bytes of a captured message is spoiled: a byte of it is
abbrev pub IsCutSpoiled : ℕ → MessageBytes → ℕ → Type 0
IsCutSpoiled width parts cut =
    (place : ℕ) × (place / width ≡ cut) × (slice_index_or parts.spoiled place false ≡ true)

-- the bytes of a cut are the same in both: each is there in both and the same, or in neither
abbrev pub AreSameInCut : ℕ → ℕ → List (Option ℕ) → List (Option ℕ) → Type 0
AreSameInCut width cut given captured =
    (place : ℕ) → place / width ≡ cut → slice_get captured place ≡ slice_get given place

-- a cut is the same in both messages: it is spoiled in both, or in neither and its bytes are the same
pub record IsSameCut (width : ℕ) (given captured : MessageBytes) (cut : ℕ) : Type 0 where
  pub spoiled : IsCutSpoiled width given cut ↔ IsCutSpoiled width captured cut
  pub bytes : (IsCutSpoiled width given cut → ⊥) → AreSameInCut width cut given.bytes captured.bytes

-- the bytes of two messages are the same, cut by cut
pub record AreSameParts (width : ℕ) (given captured : MessageBytes) : Type 0 where
  pub counted : length captured.bytes ≡ length given.bytes
  pub each : (cut : ℕ) → IsSameCut width given captured cut

-- two captured replies are the same but for their sources, in cuts of so many bytes: the same cuts are spoiled, and in each other
-- cut each byte is known in both and the same, or unknown in both. Of denied replies no byte is looked at (`captured_bytes` of
-- `check_cells`)
pub record IsSameReply (width : ℕ) (given captured : Pattern) : Type 0 where
  pub op : captured.op ≡ given.op
  pub size : captured.size ≡ given.size
  pub denied : captured.denied ≡ given.denied
  pub parts : AreSameParts width (reply_bytes given) (reply_bytes captured)

-- two requests are the same but for their sources, in cuts of so many bytes: the same bytes are given, the same cuts are spoiled,
-- and in each other cut the bytes are the same
pub record IsSameSent (width : ℕ) (sent seen : Sent) : Type 0 where
  pub op : seen.ask.op ≡ sent.ask.op
  pub size : seen.ask.size ≡ sent.ask.size
  pub address : seen.ask.address ≡ sent.ask.address
  pub given : map (λ byte. is_some byte) seen.ask.bytes ≡ map (λ byte. is_some byte) sent.ask.bytes
  pub parts : AreSameParts width (request_bytes sent) (request_bytes seen)
