-- What a list of sightings shows: the beats of each link, and the whole messages of each source. Lists of sightings and
-- of beats have the latest first, lists of messages the earliest. What a message is made of is the chapter "Beats and
-- bursts" of the TileLink specification; links, sides, wide sources and unknown lanes are this project's own.
use Rattle.std.specs.Prelude.{ℕ, ◌≤◌, ◌%◌, ◌^◌, if◌then◌else◌, suc, List, [], ◌∷◌, ◌++◌, length, zip, take, slice_range, Option}
use Rattle.std.specs.List.{AllByRecursion}
use Rattle.check_cells.specs.Pattern.{Pattern}
use Rattle.check_cells.specs.Sent.{Sent}
use Rattle.check_beats.specs.Laws.{asking, begun, ended_asks, replying, begun_reply, ended_replies}
use Rattle.check_beats.specs.Spelling.{AskBeat, ReplyBeat}
use Rattle.check_beats.specs.State.{AskBegun, ReplyBegun, ends_ask, ask_of, ends_reply, reply_of}
use Rattle.check_beats.specs.declared.beat.AskHead.{AskHead}
use Rattle.check_beats.specs.declared.beat.ReplyHead.{ReplyHead}
use Rattle.check_watch.specs.declared.beat.Beat.{Beat}
use Rattle.check_watch.specs.declared.beat.Beat.TheVariants.{A, D}
use Rattle.check_watch.specs.declared.beat.Link.{Link}
use Rattle.check_watch.specs.Plan.{Plan, Layout, Sighting, LinkSide, side_of, link_number, is_link, is_of, bus_of, HasLink, IsGroupLink}

-- a sighting is at a link of the system that is watched, and has a lane for each byte of its bus
pub record IsWatchedAt (layout : Layout) (x : Sighting) : Type 0 where
  pub link : HasLink layout x.link
  pub watched : IsGroupLink layout x.link
  pub lanes : bus_of layout x.link ≤ length x.lanes

-- each of these sightings is at a link that is watched, and has a lane for each byte of its bus.
abbrev pub AreWatched : Layout → List Sighting → Type 0
AreWatched layout past = AllByRecursion (IsWatchedAt layout) past

-- ---- the beats of a link

-- a beat with the lanes of a bus, and the known bits of these
abbrev pub ask_beat : ℕ → AskHead → List ℕ → AskBeat
ask_beat bus beat lanes = record { head = beat; lanes = take bus lanes }

-- the same of a beat of channel D.
abbrev pub reply_beat : ℕ → ReplyHead → ℕ → List ℕ → ReplyBeat
reply_beat bus beat known lanes = record { head = beat; known = known % 2 ^ bus; lanes = take bus lanes }

-- the beats of channel A, with one more if it is of this channel
abbrev pub more_asks : ℕ → Sighting → Beat → List AskBeat → List AskBeat
more_asks bus x (A beat) before = ask_beat bus beat x.lanes ∷ before
more_asks bus x (D beat) before = before

-- the beats of channel A that crossed a link. Lanes past the bus are left out.
abbrev pub asks_over : Layout → Link → List Sighting → List AskBeat
asks_over layout link [] = []
asks_over layout link (x ∷ past) =
    if is_link x.link (side_of link) (link_number link)
    then more_asks (bus_of layout link) x x.beat (asks_over layout link past) else asks_over layout link past

-- the same of channel D
abbrev pub more_replies : ℕ → Sighting → Beat → List ReplyBeat → List ReplyBeat
more_replies bus x (A beat) before = before
more_replies bus x (D beat) before = reply_beat bus beat x.known x.lanes ∷ before

-- the beats of channel D that crossed a link.
abbrev pub replies_over : Layout → Link → List Sighting → List ReplyBeat
replies_over layout link [] = []
replies_over layout link (x ∷ past) =
    if is_link x.link (side_of link) (link_number link)
    then more_replies (bus_of layout link) x x.beat (replies_over layout link past)
    else replies_over layout link past

-- what these beats leave of the request that is under way at a link; none if none is under way.
abbrev pub asking_at : Layout → Link → List Sighting → Option AskBegun
asking_at layout link past = asking (bus_of layout link) (asks_over layout link past)

-- the beats of the request that is under way at a link, the earliest first; empty if none is under way.
abbrev pub begun_at : Layout → Link → List Sighting → List AskBeat
begun_at layout link past = begun (bus_of layout link) (asks_over layout link past)

-- the requests that have ended at a link, each with its beats, in the order of their last beats.
abbrev pub ended_at : Layout → Link → List Sighting → List (Sent × List AskBeat)
ended_at layout link past = ended_asks (bus_of layout link) (asks_over layout link past)

-- what is left of the reply that is under way at a link; none if none is under way.
abbrev pub replying_at : Layout → Link → List Sighting → Option ReplyBegun
replying_at layout link past = replying (bus_of layout link) (replies_over layout link past)

-- the beats of the reply that is under way at a link, the earliest first; empty if none is under way.
abbrev pub begun_replies_at : Layout → Link → List Sighting → List ReplyBeat
begun_replies_at layout link past = begun_reply (bus_of layout link) (replies_over layout link past)

-- the replies that have ended at a link, each by the address of its request and with its beats, in the order of their
-- last beats.
abbrev pub ended_replies_at : Layout → Link → List Sighting → List ((ℕ → Pattern) × List ReplyBeat)
ended_replies_at layout link past = ended_replies (bus_of layout link) (replies_over layout link past)

-- ---- whole messages

-- a request as it crossed, with its link
pub record AskSeen : Type 0 where
  pub link : Link
  pub sent : Sent

-- a reply as it was captured, by the address of its request, and its beats, with the link that they crossed
pub record ReplySeen : Type 0 where
  pub link : Link
  pub reply : ℕ → Pattern
  pub beats : List ReplyBeat

-- the request that a beat ends
abbrev pub ask_ended : Layout → List Sighting → Sighting → Beat → List AskSeen
ask_ended layout past x (A beat) =
    let bus = bus_of layout x.link in
    let before = asking_at layout x.link past in
    if ends_ask bus before beat
    then record { link = x.link; sent = ask_of bus before beat (take bus x.lanes) } ∷ [] else []
ask_ended layout past x (D beat) = []

-- the reply that a beat ends
abbrev pub reply_ended : Layout → List Sighting → Sighting → Beat → List ReplySeen
reply_ended layout past x (A beat) = []
reply_ended layout past x (D beat) =
    let bus = bus_of layout x.link in
    let before = replying_at layout x.link past in
    if ends_reply bus before beat
    then record {
      link = x.link;
      reply = λ address. reply_of bus before address beat (x.known % 2 ^ bus) (take bus x.lanes);
      beats = begun_replies_at layout x.link past ++ reply_beat bus beat x.known x.lanes ∷ [];
    } ∷ [] else []

-- the requests of a wide source that have ended at the links of a side, in the order of their last beats
abbrev pub asks : Plan → LinkSide → ℕ → List Sighting → List AskSeen
asks plan side wide [] = []
asks plan side wide (x ∷ past) =
    if is_of plan x side wide then asks plan side wide past ++ ask_ended plan.layout past x x.beat
    else asks plan side wide past

-- the replies of a wide source that have ended there, in the order of their last beats
abbrev pub replies : Plan → LinkSide → ℕ → List Sighting → List ReplySeen
replies plan side wide [] = []
replies plan side wide (x ∷ past) =
    if is_of plan x side wide then replies plan side wide past ++ reply_ended plan.layout past x x.beat
    else replies plan side wide past

-- the requests of a wide source with their replies: the first reply of a source is the one to its first request, and so
-- on
abbrev pub exchanges : Plan → LinkSide → ℕ → List Sighting → List (AskSeen × ReplySeen)
exchanges plan side wide past = zip (asks plan side wide past) (replies plan side wide past)

-- the request that the next reply of a wide source answers: as many of its requests were answered before as replies of
-- it have ended
abbrev pub next_answered : Plan → LinkSide → ℕ → List Sighting → List AskSeen
next_answered plan side wide past =
    let answered = length (replies plan side wide past) in
    slice_range (asks plan side wide past) answered (suc answered)
