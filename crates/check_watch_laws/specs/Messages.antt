-- What lawful beats say of messages: each channel of a link carries whole messages one after the other, and the
-- requests and replies of a source come in turn. This is the chapters "Beats and bursts" and "TL-UL and TL-UH
-- operations" of the TileLink specification; sources, the address map and unknown lanes are this project's own.
use Rattle.std.specs.Prelude.{◌≡◌, ◌≢◌, ℕ, ◌==◌, ◌+◌, ◌≤◌, List, [], ◌∷◌, ◌++◌, length, map, filter}
use Rattle.std.specs.List.{flat_map, AllByRecursion}
use Rattle.tl_types.specs.Operation.{reply_op_of}
use Rattle.tl_types.specs.Request.{Request}
use Rattle.tl_types.specs.Wire.{reply_opcode_of}
use Rattle.check_cells.specs.Pattern.{Pattern}
use Rattle.check_cells.specs.Sent.{Sent}
use Rattle.check_beats.specs.Laws.{channel, IsSpelled, CanEnd, reply_channel, IsReplySpelled, ReplyCanEndSo}
use Rattle.check_beats.specs.Spelling.{AskBeat, ReplyBeat}
use Rattle.check_beats.specs.declared.beat.ReplyHead.{ReplyHead}
use Rattle.check_watch.specs.declared.beat.Link.{Link}
use Rattle.check_watch.specs.declared.beat.Link.TheVariants.{Port}
use Rattle.check_watch.specs.Plan.{Plan, Layout, Sighting, LinkSide, side_of, link_number, source_of, wide_of, is_link, bus_of, HasSource, RoutesWide}
use Rattle.check_watch_laws.specs.Crossed.{AskSeen, ReplySeen, asks_over, replies_over, begun_at, ended_at, begun_replies_at, ended_replies_at, asks, replies, exchanges, next_answered}

-- ---- a link

-- the beats of channel A are those of whole requests, one after the other, each spelled by its beats on the bus of the
-- link, and those of one more that has begun and can end; and so on channel D. A byte of a captured reply is known if its
-- lane was, and those of a denied reply are zeros.
pub record CarriesMessages (layout : Layout) (past : List Sighting) (link : Link) : Type 0 where
  pub asks : channel (asks_over layout link past)
      ≡ flat_map (λ (entry : Sent × List AskBeat). entry.1) (ended_at layout link past)
      ++ begun_at layout link past
  pub asks_spelled : AllByRecursion (IsSpelled (bus_of layout link)) (ended_at layout link past)
  pub ask_begun : begun_at layout link past ≢ [] → CanEnd (bus_of layout link) (begun_at layout link past)
  pub replies : reply_channel (replies_over layout link past)
      ≡ flat_map (λ (entry : (ℕ → Pattern) × List ReplyBeat). entry.1) (ended_replies_at layout link past)
      ++ begun_replies_at layout link past
  pub replies_spelled : AllByRecursion (IsReplySpelled (bus_of layout link)) (ended_replies_at layout link past)
  pub reply_begun : begun_replies_at layout link past ≢ []
      → ReplyCanEndSo (bus_of layout link) (begun_replies_at layout link past)

-- ---- a source

-- a beat of a reply answers a request: it has its size, and the opcode that its operation is answered with
pub record IsReplyBeatTo (ask : Request) (beat : ReplyHead) : Type 0 where
  pub size : beat.size ≡ ask.size
  pub opcode : beat.opcode ≡ reply_opcode_of (reply_op_of ask.op)

-- each beat of a reply answers its request, at the link that this crossed
pub record IsAnswered (seen : AskSeen × ReplySeen) : Type 0 where
  pub link : seen.1.link ≡ seen.0.link
  pub beats : AllByRecursion (λ (beat : ReplyBeat). IsReplyBeatTo seen.0.sent.ask beat.head) seen.1.beats

-- a request that has begun at a link is of this wide source
pub record AsksAt (plan : Plan) (past : List Sighting) (wide : ℕ) (link : Link) : Type 0 where
  pub first : AskBeat
  pub more : List AskBeat
  pub begun : begun_at plan.layout link past ≡ first ∷ more
  pub of : wide_of plan link first.head.source ≡ wide

-- a reply that has begun at a link is of this wide source.
pub record RepliesAt (plan : Plan) (past : List Sighting) (wide : ℕ) (link : Link) : Type 0 where
  pub first : ReplyBeat
  pub more : List ReplyBeat
  pub begun : begun_replies_at plan.layout link past ≡ first ∷ more
  pub of : wide_of plan link first.head.source ≡ wide

-- the requests and replies of a source at the links of a side come in turn
pub record TakeTurns (plan : Plan) (past : List Sighting) (side : LinkSide) (wide : ℕ) : Type 0 where
  -- the replies are those to the first requests, one each; one request at most has none
  pub no_reply_more : length (replies plan side wide past) ≤ length (asks plan side wide past)
  pub one_unanswered : length (asks plan side wide past) ≤ length (replies plan side wide past) + 1
  pub answered : AllByRecursion IsAnswered (exchanges plan side wide past)
  -- a request begins once each before it is answered, and at one link
  pub begins_answered : (link : Link) → side_of link ≡ side → AsksAt plan past wide link
      → length (asks plan side wide past) ≡ length (replies plan side wide past)
  pub begins_once : (link other : Link) → side_of link ≡ side → side_of other ≡ side → AsksAt plan past wide link
      → AsksAt plan past wide other → link ≡ other
  -- a reply begins if a request has none, at the link that this crossed
  pub replies_asked : (link : Link) → side_of link ≡ side → (at : RepliesAt plan past wide link)
      → (sent : Sent) × (next_answered plan side wide past ≡ record { link = link; sent = sent } ∷ [])
      × IsReplyBeatTo sent.ask at.first.head

-- ---- links and sources

-- the requests that crossed at this link
abbrev pub asks_at : Link → List AskSeen → List Sent
asks_at link seen =
    map (λ (one : AskSeen). one.sent) (filter (λ (one : AskSeen). is_link one.link (side_of link) (link_number link)) seen)

-- the replies that crossed at this link, each by the address of its request and with its beats.
abbrev pub replies_at : Link → List ReplySeen → List ((ℕ → Pattern) × List ReplyBeat)
replies_at link seen =
    map (λ (one : ReplySeen). (one.reply, one.beats)) (filter
    (λ (one : ReplySeen). is_link one.link (side_of link) (link_number link)) seen)

-- of the whole messages of a link those of this wide source
abbrev pub asks_of_source : Plan → Link → ℕ → List (Sent × List AskBeat) → List Sent
asks_of_source plan link wide whole =
    map (λ (one : Sent × List AskBeat). one.0)
    (filter (λ (one : Sent × List AskBeat). wide_of plan link one.0.ask.source == wide) whole)

-- the source of a reply is that of its first beat
abbrev pub source_of_reply : List ReplyBeat → ℕ
source_of_reply [] = 0
source_of_reply (first ∷ more) = first.head.source

-- of the whole replies of a link those of this wide source.
abbrev pub replies_of_source : Plan → Link → ℕ → List ((ℕ → Pattern) × List ReplyBeat)
    → List ((ℕ → Pattern) × List ReplyBeat)
replies_of_source plan link wide whole =
    filter (λ (one : (ℕ → Pattern) × List ReplyBeat). wide_of plan link (source_of_reply one.1) == wide) whole

-- ---- places

-- a request of a wide source at a port's link is one that goes to the port if the source's master sends it
abbrev pub IsInPlace : Layout → ℕ → AskSeen → Type 0
IsInPlace layout wide seen = (port : ℕ) → seen.link ≡ Port port → RoutesWide layout wide seen.sent.ask.address seen.sent.ask.size port

-- what lawful beats say of messages
pub record AreMessages (plan : Plan) (past : List Sighting) : Type 0 where
  pub links : (link : Link) → CarriesMessages plan.layout past link
  pub sources : (side : LinkSide) (wide : ℕ) → TakeTurns plan past side wide
  -- the requests and replies of a source that crossed a link are those of the link that have its source, in order
  pub asks_sorted : (link : Link) (wide : ℕ)
      → asks_at link (asks plan (side_of link) wide past)
      ≡ asks_of_source plan link wide (ended_at plan.layout link past)
  pub replies_sorted : (link : Link) (wide : ℕ)
      → replies_at link (replies plan (side_of link) wide past)
      ≡ replies_of_source plan link wide (ended_replies_at plan.layout link past)
  -- each beat is of a source that the system has at its link
  pub known : AllByRecursion (λ (x : Sighting). HasSource plan.layout x.link (source_of x.beat)) past
  -- each request at a port's link is one of the port, once it has begun
  pub placed : (side : LinkSide) (wide : ℕ) → AllByRecursion (IsInPlace plan.layout wide) (asks plan side wide past)
  pub begun_placed : (port : ℕ) (first : AskBeat) (more : List AskBeat)
      → begun_at plan.layout (Port port) past ≡ first ∷ more
      → RoutesWide plan.layout first.head.source first.head.address first.head.size port
