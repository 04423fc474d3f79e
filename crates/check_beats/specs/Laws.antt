-- What follows for beats that fit one after the other, in the words of whole messages: the chapter "Beats and bursts" of
-- the TileLink specification. Lists of what crossed have the latest first. That lanes past the bus mean nothing, and what
-- is known of a reply, is this project's own.
use Rattle.std.specs.Prelude.{◌≡◌, ◌≢◌, ◌↔◌, ℕ, ◌<◌, ◌%◌, ◌^◌, true, false, if◌then◌else◌, List, [], ◌∷◌, ◌++◌, length, take, Option, None}
use Rattle.std.specs.List.{flat_map, AllByRecursion}
use Rattle.check_cells.specs.Known.{all_known}
use Rattle.check_cells.specs.Pattern.{Pattern}
use Rattle.check_cells.specs.Sent.{Sent}
use Rattle.check_beats.specs.Bus.{bus_bytes}
use Rattle.check_beats.specs.Form.{IsFormed, IsKnown, IsKnownReply, FitsAsk, FitsReply}
use Rattle.check_beats.specs.Message.{reply_part, is_spoiled}
use Rattle.check_beats.specs.Spelling.{AskBeat, SpellsAskOnBus, IsLawfulSent, ReplyBeat, SpellsReplyOnBus, IsLawfulPattern}
use Rattle.check_beats.specs.State.{AskBegun, first_ask, ends_ask, ask_of, ask_after, ReplyBegun, first_reply, ends_reply, reply_of, reply_after}
use Rattle.check_beats.specs.declared.beat.AskHead.{AskHead}
use Rattle.check_beats.specs.declared.beat.ReplyHead.{ReplyHead}
use Rattle.check_beats.specs.declared.bus.Bus.{Bus}

-- ---- channel A

-- what is kept after these beats of channel A
abbrev pub asking : ℕ → List AskBeat → Option AskBegun
asking bus [] = None
asking bus (beat ∷ past) = ask_after bus (asking bus past) beat.head beat.lanes

-- each beat fits after those before it, and has the lanes of the bus
abbrev pub AreFitting : ℕ → List AskBeat → Type 0
AreFitting bus [] = Unit {0}
AreFitting bus (beat ∷ past) =
    AreFitting bus past × FitsAsk bus (first_ask (asking bus past)) beat.head × (length beat.lanes ≡ bus)

-- the beats of the request that is under way, the earliest first
abbrev pub begun : ℕ → List AskBeat → List AskBeat
begun bus [] = []
begun bus (beat ∷ past) = if ends_ask bus (asking bus past) beat.head then [] else begun bus past ++ beat ∷ []

-- the requests that have ended, each with its beats, the earliest first
abbrev pub ended_asks : ℕ → List AskBeat → List (Sent × List AskBeat)
ended_asks bus [] = []
ended_asks bus (beat ∷ past) =
    if ends_ask bus (asking bus past) beat.head
    then ended_asks bus past ++ (ask_of bus (asking bus past) beat.head beat.lanes, begun bus past ++ beat ∷ []) ∷ []
    else ended_asks bus past

-- the beats, the earliest first
abbrev pub channel : List AskBeat → List AskBeat
channel [] = []
channel (beat ∷ past) = channel past ++ beat ∷ []

-- the beats spell the request, which is lawful
abbrev pub IsSpelled : ℕ → Sent × List AskBeat → Type 0
IsSpelled bus entry = IsLawfulSent entry.0 × SpellsAskOnBus bus entry.0 entry.1

-- the beats of channel A are those of requests, one after the other, and those of the request that is under way
abbrev pub ChannelIsCutUp : Type 0
ChannelIsCutUp =
    (bus : ℕ) (past : List AskBeat)
    → channel past ≡ flat_map (λ (entry : Sent × List AskBeat). entry.1) (ended_asks bus past) ++ begun bus past

-- each request that has ended is spelled by its beats
abbrev pub AskIsSpelled : Type 0
AskIsSpelled =
    (bus : Bus) (past : List AskBeat) → AreFitting (bus_bytes bus) past
    → AllByRecursion (IsSpelled (bus_bytes bus)) (ended_asks (bus_bytes bus) past)

-- there are beats that complete these to those of a lawful request
abbrev pub CanEnd : ℕ → List AskBeat → Type 0
CanEnd bus beats = (sent : Sent) × (rest : List AskBeat) × IsSpelled bus (sent, beats ++ rest)

-- the request that is under way can end
abbrev pub AskCanEnd : Type 0
AskCanEnd =
    (bus : Bus) (past : List AskBeat) → AreFitting (bus_bytes bus) past → asking (bus_bytes bus) past ≢ None
    → CanEnd (bus_bytes bus) (begun (bus_bytes bus) past)

-- ---- channel D

-- what is kept after these beats of channel D
abbrev pub replying : ℕ → List ReplyBeat → Option ReplyBegun
replying bus [] = None
replying bus (beat ∷ past) = reply_after bus (replying bus past) beat.head beat.known beat.lanes

-- each beat of channel D fits after those before it, and has the lanes of the bus.
abbrev pub AreFittingReplies : ℕ → List ReplyBeat → Type 0
AreFittingReplies bus [] = Unit {0}
AreFittingReplies bus (beat ∷ past) =
    AreFittingReplies bus past × FitsReply (first_reply (replying bus past)) beat.head × (length beat.lanes ≡ bus)

-- the beats of the reply that is under way, the earliest first
abbrev pub begun_reply : ℕ → List ReplyBeat → List ReplyBeat
begun_reply bus [] = []
begun_reply bus (beat ∷ past) =
    if ends_reply bus (replying bus past) beat.head then [] else begun_reply bus past ++ beat ∷ []

-- the replies that have ended, each by the address of its request, with its beats, the earliest first
abbrev pub ended_replies : ℕ → List ReplyBeat → List ((ℕ → Pattern) × List ReplyBeat)
ended_replies bus [] = []
ended_replies bus (beat ∷ past) =
    if ends_reply bus (replying bus past) beat.head
    then ended_replies bus past
    ++ (
      (λ address. reply_of bus (replying bus past) address beat.head beat.known beat.lanes),
      begun_reply bus past ++ beat ∷ [],
    ) ∷ []
    else ended_replies bus past

-- whatever the address of the request, the beats spell the reply, which is lawful
abbrev pub IsReplySpelled : ℕ → (ℕ → Pattern) × List ReplyBeat → Type 0
IsReplySpelled bus entry =
    (address : ℕ) → IsLawfulPattern (entry.0 address) × SpellsReplyOnBus bus (entry.0 address) address entry.1

-- each reply that has ended is spelled by its beats
abbrev pub ReplyIsSpelled : Type 0
ReplyIsSpelled =
    (bus : Bus) (past : List ReplyBeat) → AreFittingReplies (bus_bytes bus) past
    → AllByRecursion (IsReplySpelled (bus_bytes bus)) (ended_replies (bus_bytes bus) past)

-- the beats, the earliest first
abbrev pub reply_channel : List ReplyBeat → List ReplyBeat
reply_channel [] = []
reply_channel (beat ∷ past) = reply_channel past ++ beat ∷ []

-- the beats of channel D are those of replies, one after the other, and those of the reply that is under way
abbrev pub ReplyChannelIsCutUp : Type 0
ReplyChannelIsCutUp =
    (bus : ℕ) (past : List ReplyBeat)
    → reply_channel past
    ≡ flat_map (λ (entry : (ℕ → Pattern) × List ReplyBeat). entry.1) (ended_replies bus past) ++ begun_reply bus past

-- there are beats that complete these to those of a lawful reply, whatever the address of its request.
abbrev pub ReplyCanEndSo : ℕ → List ReplyBeat → Type 0
ReplyCanEndSo bus beats = (reply : ℕ → Pattern) × (rest : List ReplyBeat) × IsReplySpelled bus (reply, beats ++ rest)

-- the reply that is under way can end
abbrev pub ReplyCanEnd : Type 0
ReplyCanEnd =
    (bus : Bus) (past : List ReplyBeat) → AreFittingReplies (bus_bytes bus) past → replying (bus_bytes bus) past ≢ None
    → ReplyCanEndSo (bus_bytes bus) (begun_reply (bus_bytes bus) past)

-- ---- past the bus

-- of a beat of a request, lanes and known bits past the bus mean nothing, and a lawful mask has no bit there
pub record AskIsOnBus (bus : ℕ) (begun : Option AskBegun) (beat : AskHead) (known : ℕ) (lanes : List ℕ) : Type 0 where
  pub ends : ask_of bus begun beat (take bus lanes) ≡ ask_of bus begun beat lanes
  pub goes_on : ask_after bus begun beat (take bus lanes) ≡ ask_after bus begun beat lanes
  pub mask : IsFormed bus beat → beat.mask < 2 ^ bus
  pub known_bits : IsFormed bus beat → (IsKnown beat (known % 2 ^ bus) ↔ IsKnown beat known)

-- of each beat of a request, on each bus, lanes and known bits past the bus mean nothing.
abbrev pub AsksAreOnBus : Type 0
AsksAreOnBus =
    (bus : Bus) (begun : Option AskBegun) (beat : AskHead) (known : ℕ) (lanes : List ℕ)
    → AskIsOnBus (bus_bytes bus) begun beat known lanes

-- the same of a reply to a request at the address
pub record ReplyIsOnBus
    (bus : ℕ) (begun : Option ReplyBegun) (address : ℕ) (beat : ReplyHead) (known : ℕ) (lanes : List ℕ) : Type 0 where
  pub ends : reply_of bus begun address beat (known % 2 ^ bus) (take bus lanes)
      ≡ reply_of bus begun address beat known lanes
  pub goes_on : reply_after bus begun beat (known % 2 ^ bus) (take bus lanes)
      ≡ reply_after bus begun beat known lanes
  pub known_bits : IsKnownReply bus address beat (known % 2 ^ bus) ↔ IsKnownReply bus address beat known

-- of each beat of a reply, on each bus, lanes and known bits past the bus mean nothing.
abbrev pub RepliesAreOnBus : Type 0
RepliesAreOnBus =
    (bus : Bus) (begun : Option ReplyBegun) (address : ℕ) (beat : ReplyHead) (known : ℕ) (lanes : List ℕ)
    → ReplyIsOnBus (bus_bytes bus) begun address beat known lanes

-- the bytes that a beat of a reply carries are all known exactly if the lanes that carry them are, unless they are spoiled
abbrev pub KnownLanesAreKnownBytes : Type 0
KnownLanesAreKnownBytes =
    (bus : Bus) (address : ℕ) (beat : ReplyHead) (known : ℕ) (lanes : List ℕ) → is_spoiled beat ≡ false
    → IsKnownReply (bus_bytes bus) address beat known
    ↔ (all_known (reply_part (bus_bytes bus) address beat known lanes) ≡ true)
