-- What is kept of a message that is under way on a channel: its first beat, how many of its beats have crossed, and the
-- bytes that they carried. The beats of a message cross one after the other, by the chapter "Beats and bursts" of the
-- TileLink specification; what is known of a reply is this project's own.
use Rattle.std.specs.Prelude.{ℕ, ◌+◌, Bool, if◌then◌else◌, ◌==◌, List, [], ◌++◌, replicate, Option, Some, None, unwrap_or}
use Rattle.tl_types.specs.Request.{Request}
use Rattle.check_cells.specs.Pattern.{Pattern}
use Rattle.check_cells.specs.Sent.{Sent}
use Rattle.check_beats.specs.Message.{ask_beats, reply_beats, op_of, reply_op_of_number, ask_part, spoiled_ask_part, reply_part, spoiled_part, seen_cells, is_spoiled}
use Rattle.check_beats.specs.declared.beat.AskHead.{AskHead}
use Rattle.check_beats.specs.declared.beat.ReplyHead.{ReplyHead}

-- ---- requests

-- a request that has begun and not ended: the bytes that it has carried, and which of them are spoiled
pub record AskBegun : Type 0 where
  pub first : AskHead
  pub beats : ℕ
  pub bytes : List (Option ℕ)
  pub spoiled : List Bool

-- channel A of a link: the bytes of its bus, and the request that is under way, if one is
pub record AskChannel : Type 0 where
  pub bus : ℕ
  pub begun : Option AskBegun

-- what is kept of a request with this first beat, of which so many beats have crossed and carried these bytes, marked so;
-- nothing if there is no first beat.
abbrev pub ask_begun : Option AskHead → ℕ → List (Option ℕ) → List Bool → Option AskBegun
ask_begun None beats bytes spoiled = None
ask_begun (Some first) beats bytes spoiled =
    Some (record { first = first; beats = beats; bytes = bytes; spoiled = spoiled })

-- the first beat of the request that is under way, if one is.
abbrev pub first_ask : Option AskBegun → Option AskHead
first_ask None = None
first_ask (Some begun) = Some begun.first

-- how many beats of the request under way have crossed; 0 if none is under way.
abbrev pub asked_beats : Option AskBegun → ℕ
asked_beats None = 0
asked_beats (Some begun) = begun.beats

-- the bytes that the beats of the request under way have carried; empty if none is under way.
abbrev pub asked_bytes : Option AskBegun → List (Option ℕ)
asked_bytes None = []
asked_bytes (Some begun) = begun.bytes

-- which of them are spoiled; empty if none is under way.
abbrev pub asked_spoiled : Option AskBegun → List Bool
asked_spoiled None = []
asked_spoiled (Some begun) = begun.spoiled

-- whether a beat of a request is its last, after what has crossed of it
abbrev pub ends_ask : ℕ → Option AskBegun → AskHead → Bool
ends_ask bus begun beat = asked_beats begun + 1 == ask_beats bus beat

-- the request that a beat ends, after what has crossed of it
abbrev pub ask_of : ℕ → Option AskBegun → AskHead → List ℕ → Sent
ask_of bus begun beat lanes = record {
  ask = record {
    op = op_of beat.opcode beat.param;
    size = beat.size;
    source = beat.source;
    address = beat.address;
    bytes = asked_bytes begun ++ ask_part bus beat lanes;
  };
  spoiled = asked_spoiled begun ++ spoiled_ask_part bus beat;
}

-- what has crossed of a request after one beat more: nothing is under way where that is its last
abbrev pub ask_after : ℕ → Option AskBegun → AskHead → List ℕ → Option AskBegun
ask_after bus begun beat lanes =
    if ends_ask bus begun beat then None
    else Some (record {
      first = unwrap_or (first_ask begun) beat;
      beats = asked_beats begun + 1;
      bytes = asked_bytes begun ++ ask_part bus beat lanes;
      spoiled = asked_spoiled begun ++ spoiled_ask_part bus beat;
    })

-- the request that has begun and not ended, as far as it has crossed, whichever of its beats were marked corrupt
abbrev pub ask_so_far : Option AskBegun → Option Request
ask_so_far None = None
ask_so_far (Some begun) = Some (record {
  op = op_of begun.first.opcode begun.first.param;
  size = begun.first.size;
  source = begun.first.source;
  address = begun.first.address;
  bytes = begun.bytes;
})

-- ---- replies

-- a reply that has begun and not ended: what was seen of its bytes, and which of them are spoiled
pub record ReplyBegun : Type 0 where
  pub first : ReplyHead
  pub beats : ℕ
  pub bytes : List (Option ℕ)
  pub spoiled : List Bool

-- channel D of a link
pub record ReplyChannel : Type 0 where
  pub bus : ℕ
  pub begun : Option ReplyBegun

-- what is kept of a reply with this first beat, of which so many beats have crossed and carried these bytes, marked so; nothing
-- if there is no first beat.
abbrev pub reply_begun : Option ReplyHead → ℕ → List (Option ℕ) → List Bool → Option ReplyBegun
reply_begun None beats bytes spoiled = None
reply_begun (Some first) beats bytes spoiled =
    Some (record { first = first; beats = beats; bytes = bytes; spoiled = spoiled })

-- the first beat of the reply that is under way, if one is.
abbrev pub first_reply : Option ReplyBegun → Option ReplyHead
first_reply None = None
first_reply (Some begun) = Some begun.first

-- the source of the reply that is under way
abbrev pub replying_source : Option ReplyBegun → Option ℕ
replying_source None = None
replying_source (Some begun) = Some begun.first.source

-- how many beats of the reply under way have crossed; 0 if none is under way.
abbrev pub replied_beats : Option ReplyBegun → ℕ
replied_beats None = 0
replied_beats (Some begun) = begun.beats

-- what was seen of the bytes that the beats of the reply under way have carried; empty if none is under way.
abbrev pub replied_bytes : Option ReplyBegun → List (Option ℕ)
replied_bytes None = []
replied_bytes (Some begun) = begun.bytes

-- which of them are spoiled; empty if none is under way.
abbrev pub replied_spoiled : Option ReplyBegun → List Bool
replied_spoiled None = []
replied_spoiled (Some begun) = begun.spoiled

-- whether a beat of a reply is its last, after what has crossed of it.
abbrev pub ends_reply : ℕ → Option ReplyBegun → ReplyHead → Bool
ends_reply bus begun beat = replied_beats begun + 1 == reply_beats bus beat

-- the reply to a request at the address that a beat ends, after what has crossed of it, as far as its lanes were known
abbrev pub reply_of : ℕ → Option ReplyBegun → ℕ → ReplyHead → ℕ → List ℕ → Pattern
reply_of bus begun address beat known lanes = record {
  op = reply_op_of_number beat.opcode;
  size = beat.size;
  source = beat.source;
  denied = Some beat.denied;
  bytes = replied_bytes begun ++ reply_part bus address beat known lanes;
  spoiled = replied_spoiled begun ++ spoiled_part bus beat;
}

-- what has crossed of a reply after one beat more: a reply that goes on has bytes at all lanes, whatever the address of
-- its request
abbrev pub reply_after : ℕ → Option ReplyBegun → ReplyHead → ℕ → List ℕ → Option ReplyBegun
reply_after bus begun beat known lanes =
    if ends_reply bus begun beat then None
    else Some (record {
      first = unwrap_or (first_reply begun) beat;
      beats = replied_beats begun + 1;
      bytes = replied_bytes begun ++ seen_cells beat known lanes 0 bus;
      spoiled = replied_spoiled begun ++ replicate bus (is_spoiled beat);
    })

-- ---- both channels

-- a link: the bytes of its bus, and the messages that are under way
pub record Under : Type 0 where
  pub bus : ℕ
  pub asking : Option AskBegun
  pub replying : Option ReplyBegun

-- nothing is under way on a bus
abbrev pub nothing_under : ℕ → Under
nothing_under bus = record { bus = bus; asking = None; replying = None }
