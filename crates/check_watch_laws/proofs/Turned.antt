-- What lawful beats say of messages.
use Rattle.std.proofs.Common.{◌≡◌, ◌≢◌, ◌∙◌, ℕ, ◌+◌, ◌≤◌, List, [], ◌∷◌, Some, None, length, ap, sym, subst, arith, length-append}
use Rattle.std.specs.List.{AllByRecursion}
use Rattle.check_cells.specs.Sent.{Sent}
use Rattle.check_beats.specs.Bus.{bus_bytes}
use Rattle.check_beats.specs.Form.{SameFields, SameReplyFields}
use Rattle.check_beats.specs.Laws.{AreFitting, IsSpelled, CanEnd, asking, begun, ended_asks, AreFittingReplies, IsReplySpelled, ReplyCanEndSo, replying, begun_reply, ended_replies}
use Rattle.check_beats.specs.Spelling.{AskBeat, ReplyBeat}
use Rattle.check_beats.specs.State.{Under, AskBegun, ReplyBegun}
use Rattle.check_beats.specs.declared.bus.Bus.{Bus}
use Rattle.check_beats.proofs.Ending.{ask_can_end, reply_can_end, reply_cut_up}
use Rattle.check_beats.proofs.ReplySpelled.{replies_spelled}
use Rattle.check_beats.proofs.Spelled.{cut_up, spelled}
use Rattle.check_flight.specs.Flight.{Turn}
use Rattle.check_flight.specs.Flight.Turn.{Idle, Asking, Asked}
use Rattle.check_watch.specs.declared.beat.Link.{Link}
use Rattle.check_watch.specs.declared.beat.Link.TheVariants.{Port}
use Rattle.check_watch.specs.Allowed.{OfAsked}
use Rattle.check_watch.specs.Lawful.{IsLawfulGroup}
use Rattle.check_watch.specs.Past.{state}
use Rattle.check_watch.specs.Plan.{Plan, Sighting, LinkSide, side_of, link_number, wide_of, bus_of}
use Rattle.check_watch_laws.specs.Crossed.{AreWatched, AskSeen, next_answered, asks_over, replies_over, asking_at, begun_at, replying_at, begun_replies_at, asks, replies}
use Rattle.check_watch_laws.specs.Messages.{CarriesMessages, IsReplyBeatTo, AsksAt, TakeTurns, AreMessages}
use Rattle.check_watch_laws.proofs.Buses.{bus_is}
use Rattle.check_watch_laws.proofs.Fitting.{asks_fit, replies_fit}
use Rattle.check_watch_laws.proofs.Flights.{pending, InStep, in_step}
use Rattle.check_watch_laws.proofs.Heads.{ask_heads, ask_first, reply_first}
use Rattle.check_watch_laws.proofs.Links.{links_are, same_link}
use Rattle.check_watch_laws.proofs.Placing.{asks_placed_so, known_sources, asks_placed, placed_as}
use Rattle.check_watch_laws.proofs.Replying.{are_answered, replies_have_heads}
use Rattle.check_watch_laws.proofs.Sorted.{asks_sorted, replies_sorted}
use Rattle.check_watch_laws.proofs.Taking.{next_is}
use Rattle.check_watch_laws.proofs.Turns.{asks_fly, asked_at, asking_same, is_link_by}
use Rattle.check_watch_laws.proofs.UnderWay.{replies_answer, of_weaker}

-- ---- links: the laws of beats, on the bus of a link

on_bus : (n : ℕ) (bus : Bus) → bus_bytes bus ≡ n → (past : List AskBeat) → AreFitting n past
    → AllByRecursion (IsSpelled n) (ended_asks n past) × (asking n past ≢ None → CanEnd n (begun n past))
on_bus n bus is past =
    subst (λ m. AreFitting m past
    → AllByRecursion (IsSpelled m) (ended_asks m past) × (asking m past ≢ None → CanEnd m (begun m past))) is
    (λ fits. (spelled bus past fits, ask_can_end bus past fits))

replies_on_bus : (n : ℕ) (bus : Bus) → bus_bytes bus ≡ n → (past : List ReplyBeat) → AreFittingReplies n past
    → AllByRecursion (IsReplySpelled n) (ended_replies n past)
    × (replying n past ≢ None → ReplyCanEndSo n (begun_reply n past))
replies_on_bus n bus is past =
    subst (λ m. AreFittingReplies m past
    → AllByRecursion (IsReplySpelled m) (ended_replies m past)
    × (replying m past ≢ None → ReplyCanEndSo m (begun_reply m past))) is
    (λ fits. (replies_spelled bus past fits, reply_can_end bus past fits))

module _ (plan : Plan) (past : List Sighting) (watched : AreWatched plan.layout past) (lawful : IsLawfulGroup plan past) where
  carries : (link : Link) → CarriesMessages plan.layout past link
  carries link =
      let n = bus_of plan.layout link in
      let bus = bus_is plan.layout link in
      let asked = asks_over plan.layout link past in
      let replied = replies_over plan.layout link past in
      let of_asks = on_bus n bus.0 bus.1 asked (asks_fit plan past watched lawful link) in
      let of_replies = replies_on_bus n bus.0 bus.1 replied (replies_fit plan past watched lawful link) in
      record {
        asks = cut_up n asked;
        asks_spelled = of_asks.0;
        ask_begun = λ some. of_asks.1 (λ none. some
            ((ask_heads n bus.0 bus.1 asked (asks_fit plan past watched lawful link)).empty none));
        replies = reply_cut_up n replied;
        replies_spelled = of_replies.0;
        reply_begun = λ some. of_replies.1 (λ none. some ((replies_have_heads plan past watched lawful link).empty none));
      }

  -- ---- sources

  few_pending : (side : LinkSide) (turn : Turn) → length (pending side turn) ≤ 1
  few_pending side Idle = omega arith
  few_pending side (Asking n) = omega arith
  few_pending side (Asked n ask) = omega arith

  -- the first beat of a request that is under way is kept
  kept_ask : (link : Link) (first : AskBeat) (more : List AskBeat) → begun_at plan.layout link past ≡ first ∷ more
      → (b : AskBegun) × (((state plan past).links (side_of link) (link_number link)).asking ≡ Some b)
      × SameFields b.first first.head
  kept_ask link first more is =
      let bus = bus_is plan.layout link in
      let found = ask_first (asking_at plan.layout link past) (begun_at plan.layout link past) first more
      (ask_heads (bus_of plan.layout link) bus.0 bus.1 (asks_over plan.layout link past)
      (asks_fit plan past watched lawful link)) is in
      (found.0, ap (λ (u : Under). u.asking) (links_are plan past link) ∙ found.1, found.2)

  kept_reply : (link : Link) (first : ReplyBeat) (more : List ReplyBeat)
      → begun_replies_at plan.layout link past ≡ first ∷ more
      → (b : ReplyBegun) × (((state plan past).links (side_of link) (link_number link)).replying ≡ Some b)
      × SameReplyFields b.first first.head
  kept_reply link first more is =
      let found = reply_first (replying_at plan.layout link past) (begun_replies_at plan.layout link past) first more
      (replies_have_heads plan past watched lawful link) is in
      (found.0, ap (λ (u : Under). u.replying) (links_are plan past link) ∙ found.1, found.2)

  -- a request that has begun is in flight of its source
  asking_here : (side : LinkSide) (wide : ℕ) (link : Link) → side_of link ≡ side → AsksAt plan past wide link
      → ((state plan past).flights side wide).turn ≡ Asking (link_number link)
  asking_here side wide link is at =
      let kept = kept_ask link at.first at.more at.begun in
      rw (← is, ← at.of)
      (ap (λ n. ((state plan past).flights (side_of link) (wide_of plan link n)).turn) kept.2.source
      ∙ asks_fly plan past lawful link kept.0 kept.1)

  -- a reply that has begun answers the request in flight of its source
  replying_here : (link : Link) (first : ReplyBeat) (more : List ReplyBeat)
      → begun_replies_at plan.layout link past ≡ first ∷ more
      → OfAsked (link_number link) ((state plan past).flights (side_of link)
      (wide_of plan link first.head.source)).turn (λ ask. IsReplyBeatTo ask first.head)
  replying_here link first more begun_is =
      let kept = kept_reply link first more begun_is in
      let source : kept.0.first.source ≡ first.head.source = sym kept.2.source in
      subst (λ n. OfAsked (link_number link) ((state plan past).flights (side_of link) (wide_of plan link n)).turn
      (λ ask. IsReplyBeatTo ask first.head)) source
      (of_weaker (link_number link)
      ((state plan past).flights (side_of link) (wide_of plan link kept.0.first.source)).turn
      (λ ask. IsReplyBeatTo ask kept.0.first) (λ ask. IsReplyBeatTo ask first.head)
      (replies_answer plan past lawful link kept.0 kept.1)
      (λ ask answers. record {
        size = kept.2.size ∙ answers.size;
        opcode = kept.2.opcode ∙ answers.opcode;
      }))

  reply_asked : (link : Link) (first : ReplyBeat) (more : List ReplyBeat)
      → begun_replies_at plan.layout link past ≡ first ∷ more
      → (ask : Sent)
      × (next_answered plan (side_of link) (wide_of plan link first.head.source) past
      ≡ record { link = link; sent = ask } ∷ [])
      × IsReplyBeatTo ask.ask first.head
  reply_asked link first more begun_is =
      let wide = wide_of plan link first.head.source in
      let turn = ((state plan past).flights (side_of link) wide).turn in
      let found = asked_at (link_number link) turn (λ ask. IsReplyBeatTo ask first.head)
      (replying_here link first more begun_is) in
      (found.0, next_is plan past link wide turn found.0 (in_step plan past lawful (side_of link) wide) found.1, found.2)

  module _ (side : LinkSide) (wide : ℕ) where
    step : InStep side ((state plan past).flights side wide).turn (asks plan side wide past)
        (replies plan side wide past)
    step = in_step plan past lawful side wide

    counted : length (asks plan side wide past) ≡ length (replies plan side wide past)
        + length (pending side ((state plan past).flights side wide).turn)
    counted = omega (
      arith,
      ap (λ (l : List AskSeen). length l) step.asks_are,
      length-append step.done (pending side ((state plan past).flights side wide).turn),
      step.counted,
    )

    take_turns : TakeTurns plan past side wide
    take_turns = record {
      no_reply_more = omega (arith, counted);
      one_unanswered = omega (arith, counted, few_pending side ((state plan past).flights side wide).turn);
      answered = are_answered plan past watched lawful side wide;
      begins_answered = λ link is at.
          omega (arith, counted, ap (λ t. length (pending side t)) (asking_here side wide link is at));
      begins_once = λ link other is other_is at there.
          same_link link other (is_link_by link other (is ∙ sym other_is)
          (asking_same (link_number link) (link_number other)
          (sym (asking_here side wide link is at) ∙ asking_here side wide other other_is there)));
      replies_asked = λ link is at.
          let Asked : LinkSide → ℕ → Type 0 =
          λ sd w. (ask : Sent) × (next_answered plan sd w past ≡ record { link = link; sent = ask } ∷ [])
          × IsReplyBeatTo ask.ask at.first.head in
          subst (λ sd. Asked sd wide) is (subst (λ w. Asked (side_of link) w) at.of
          (reply_asked link at.first at.more at.begun));
    }

  pub messages : AreMessages plan past
  messages = record {
    links = carries;
    sources = take_turns;
    asks_sorted = asks_sorted plan past;
    replies_sorted = replies_sorted plan past watched lawful;
    known = known_sources plan past lawful;
    placed = asks_placed plan past lawful;
    begun_placed = λ port first more is.
        let kept = kept_ask (Port port) first more is in
        placed_as plan.layout (Port port) kept.0.first first.head kept.2
        (asks_placed_so plan past lawful (Port port) kept.0 kept.1);
  }
