-- Messages that come in turn are lawful beat by beat: the way back from what lawful beats say of turns.
use Rattle.std.proofs.Common.{◌≡◌, ◌∙◌, ℕ, suc, ◌+◌, ◌-◌, ◌≤◌, ◌%◌, ◌^◌, Bool, true, false, if◌then◌else◌, List, [], ◌∷◌, ◌++◌, Option, Some, None, length, zip, take, drop, refl, ap, sym, subst, arith, append-nil, length-append}
use Rattle.std.specs.Prelude.{slice_range}
use Rattle.std.specs.List.{AllByRecursion}
use Rattle.tl_types.specs.Request.{Request}
use Rattle.check_cells.specs.Sent.{Sent}
use Rattle.check_beats.specs.Form.{Continues, SameFields, SameReplyFields}
use Rattle.check_beats.specs.Laws.{begun, begun_reply}
use Rattle.check_beats.specs.Spelling.{AskBeat, ReplyBeat}
use Rattle.check_beats.specs.State.{Under, AskBegun, ReplyBegun, first_ask, first_reply, ends_ask, ends_reply, ask_of, reply_of}
use Rattle.check_beats.specs.declared.beat.AskHead.{AskHead}
use Rattle.check_beats.specs.declared.beat.ReplyHead.{ReplyHead}
use Rattle.check_flight.specs.Flight.{Turn}
use Rattle.check_flight.specs.Flight.Turn.{Idle, Asking, Asked}
use Rattle.check_watch.specs.declared.beat.Beat.TheVariants.{A, D}
use Rattle.check_watch.specs.declared.beat.Link.{Link}
use Rattle.check_watch.specs.declared.beat.Link.TheVariants.{Master, Port}
use Rattle.check_watch.specs.Allowed.{IsPlaced}
use Rattle.check_watch.specs.Lawful.{IsLawfulGroup}
use Rattle.check_watch.specs.Past.{state}
use Rattle.check_watch.specs.Plan.{Plan, Sighting, LinkSide, side_of, link_number, wide_of, is_link, bus_of, RoutesWide}
use Rattle.check_watch.specs.Plan.LinkSide.{AtMasters, AtPorts}
use Rattle.check_watch.proofs.InFlight.{ask_at, reply_at, of_own}
use Rattle.check_watch_laws.specs.Crossed.{AskSeen, ReplySeen, ask_beat, reply_beat, more_asks, asks_over, asking_at, begun_at, replying_at, begun_replies_at, ask_ended, reply_ended, asks, replies, next_answered}
use Rattle.check_watch_laws.specs.Messages.{IsReplyBeatTo, IsAnswered, AsksAt, RepliesAt, TakeTurns, AreMessages, IsInPlace}
use Rattle.check_watch_laws.proofs.BackForm.{asks_here, replies_here}
use Rattle.check_watch_laws.proofs.Begun.{IsAsking, asking_begun}
use Rattle.check_watch_laws.proofs.Crossing.{last_of_all}
use Rattle.check_watch_laws.proofs.Dues.{side_on}
use Rattle.check_watch_laws.proofs.Flights.{pending, InStep, in_step}
use Rattle.check_watch_laws.proofs.Heads.{AskHeads, ReplyHeads}
use Rattle.check_watch_laws.proofs.Links.{links_are, same_link}
use Rattle.check_watch_laws.proofs.Lists.{zip_more, drop_front}
use Rattle.check_watch_laws.proofs.Turns.{link_on}

-- ---- what one beat adds to the messages of its source

module _ (plan : Plan) (past : List Sighting) (link : Link) (known : ℕ) (lanes : List ℕ) where
  pub asks_with_ask : (beat : AskHead) → asks plan (side_of link) (wide_of plan link beat.source)
      (ask_at link known lanes beat ∷ past) ≡ asks plan (side_of link) (wide_of plan link beat.source) past
      ++ ask_ended plan.layout past (ask_at link known lanes beat) (A beat)
  asks_with_ask beat =
      let was = asks plan (side_of link) (wide_of plan link beat.source) past in
      ap (λ b. if b then was ++ ask_ended plan.layout past (ask_at link known lanes beat) (A beat) else was)
      (of_own plan (ask_at link known lanes beat))

  pub replies_with_ask : (beat : AskHead) → replies plan (side_of link) (wide_of plan link beat.source)
      (ask_at link known lanes beat ∷ past) ≡ replies plan (side_of link) (wide_of plan link beat.source) past
  replies_with_ask beat =
      let was = replies plan (side_of link) (wide_of plan link beat.source) past in
      ap (λ b. if b then was ++ [] else was) (of_own plan (ask_at link known lanes beat)) ∙ append-nil was

  pub asks_with_reply : (beat : ReplyHead) → asks plan (side_of link) (wide_of plan link beat.source)
      (reply_at link known lanes beat ∷ past) ≡ asks plan (side_of link) (wide_of plan link beat.source) past
  asks_with_reply beat =
      let was = asks plan (side_of link) (wide_of plan link beat.source) past in
      ap (λ b. if b then was ++ [] else was) (of_own plan (reply_at link known lanes beat)) ∙ append-nil was

  pub replies_with_reply : (beat : ReplyHead) → replies plan (side_of link) (wide_of plan link beat.source)
      (reply_at link known lanes beat ∷ past) ≡ replies plan (side_of link) (wide_of plan link beat.source) past
      ++ reply_ended plan.layout past (reply_at link known lanes beat) (D beat)
  replies_with_reply beat =
      let was = replies plan (side_of link) (wide_of plan link beat.source) past in
      ap (λ b. if b then was ++ reply_ended plan.layout past (reply_at link known lanes beat) (D beat) else was)
      (of_own plan (reply_at link known lanes beat))

-- ---- requests

-- the first of a list with one more at its end
first_ask_in : (kept : Option AskBegun) (beats : List AskBeat) (b : AskBeat) → AskHeads kept beats
    → Continues SameFields (first_ask kept) b.head
    → (first : AskBeat) × (more : List AskBeat) × (beats ++ b ∷ [] ≡ first ∷ more) × (first.head.source ≡ b.head.source)
first_ask_in kept [] b heads same = (b, [], refl, refl)
first_ask_in None (f ∷ beats) b heads same = let none : f ∷ beats ≡ [] = heads.empty refl in absurd (cc)
first_ask_in (Some v) (f ∷ beats) b heads same =
    (f, beats ++ b ∷ [], refl, (heads.each 0 f refl v.first refl).source ∙ sym (same v.first refl).source)

-- the first beat of what is kept
first_of_kept : (kept : Option AskBegun) (beats : List AskBeat) (v : AskBegun) → AskHeads kept beats → kept ≡ Some v
    → (first : AskBeat) × (more : List AskBeat) × (beats ≡ first ∷ more) × (first.head.source ≡ v.first.source)
first_of_kept kept [] v heads is = absurd (heads.some v is refl)
first_of_kept kept (f ∷ beats) v heads is =
    (f, beats, refl, (heads.each 0 f refl v.first (ap first_ask is)).source)

module _ (plan : Plan) (past : List Sighting) (lawful : IsLawfulGroup plan past) (link : Link) (known : ℕ) (lanes : List ℕ)
    (beat : AskHead) (heads : (l : Link) → AskHeads (asking_at plan.layout l past) (begun_at plan.layout l past))
    (same : Continues SameFields (first_ask (asking_at plan.layout link past)) beat)
    (turns : TakeTurns plan (ask_at link known lanes beat ∷ past) (side_of link) (wide_of plan link beat.source)) where
  abbrev own : ℕ
  own = wide_of plan link beat.source

  abbrev turn : Turn
  turn = ((state plan past).flights (side_of link) own).turn

  abbrev ends_now : Bool
  ends_now = ends_ask (bus_of plan.layout link) (asking_at plan.layout link past) beat

  abbrev ask_now : Sent
  ask_now = ask_of (bus_of plan.layout link) (asking_at plan.layout link past) beat
      (take (bus_of plan.layout link) lanes)

  step : InStep (side_of link) turn (asks plan (side_of link) own past) (replies plan (side_of link) own past)
  step = in_step plan past lawful (side_of link) own

  was : length (asks plan (side_of link) own past) ≡ length (replies plan (side_of link) own past) + length
      (pending (side_of link) turn)
  was = omega (
    arith,
    ap (λ (l : List AskSeen). length l) step.asks_are,
    length-append step.done (pending (side_of link) turn),
    step.counted,
  )

  -- how many there are with the beat
  now : (ends : Bool) → ends_now ≡ ends
      → length (asks plan (side_of link) own (ask_at link known lanes beat ∷ past)) ≡ length
      (asks plan (side_of link) own past) + (if ends then 1 else 0)
  now true is = ap (λ (l : List AskSeen). length l) (asks_with_ask plan past link known lanes beat)
      ∙ ap (λ b. length (asks plan (side_of link) own past
      ++ (if b then record { link = link; sent = ask_now } ∷ [] else []))) is
      ∙ length-append (asks plan (side_of link) own past) (record { link = link; sent = ask_now } ∷ [])
  now false is = ap (λ (l : List AskSeen). length l) (asks_with_ask plan past link known lanes beat)
      ∙ ap (λ b. length (asks plan (side_of link) own past
      ++ (if b then record { link = link; sent = ask_now } ∷ [] else []))) is
      ∙ ap (λ (l : List AskSeen). length l) (append-nil (asks plan (side_of link) own past)) ∙ omega arith

  answered_now : length (replies plan (side_of link) own (ask_at link known lanes beat ∷ past)) ≡ length
      (replies plan (side_of link) own past)
  answered_now = ap (λ (l : List ReplySeen). length l) (replies_with_ask plan past link known lanes beat)

  -- its own request is under way, if it does not end it
  asks_own : ends_now ≡ false → AsksAt plan (ask_at link known lanes beat ∷ past) own link
  asks_own goes_on =
      let b = ask_beat (bus_of plan.layout link) beat lanes in
      let parts = first_ask_in (asking_at plan.layout link past) (begun_at plan.layout link past) b (heads link) same in
      record {
        first = parts.0;
        more = parts.1;
        begun = ap (λ l. begun (bus_of plan.layout link) l) (asks_here plan.layout past (ask_at link known lanes beat))
            ∙ ap (λ e. if e then [] else begun_at plan.layout link past ++ b ∷ []) goes_on ∙ parts.2;
        of = ap (λ n. wide_of plan link n) parts.3;
      }

  -- a request at another link stays under way
  asks_elsewhere : (at : Link) → is_link link (side_of at) (link_number at) ≡ false → IsAsking plan (state plan past) own at
      → AsksAt plan (ask_at link known lanes beat ∷ past) own at
  asks_elsewhere at other was_so =
      let parts = first_of_kept (asking_at plan.layout at past) (begun_at plan.layout at past) was_so.0 (heads at)
      (sym (ap (λ (u : Under). u.asking) (links_are plan past at)) ∙ was_so.1) in
      record {
        first = parts.0;
        more = parts.1;
        begun = ap (λ e. begun (bus_of plan.layout at) (if e
            then more_asks (bus_of plan.layout at) (ask_at link known lanes beat) (A beat) (asks_over plan.layout at past)
            else asks_over plan.layout at past)) other ∙ parts.2;
        of = ap (λ n. wide_of plan at n) parts.3 ∙ was_so.2;
      }

  -- nothing of its source is in flight as it begins
  pub free_back : asking_at plan.layout link past ≡ None → turn ≡ Idle
  free_back empty = go turn refl ends_now refl
    where
      go : (t : Turn) → turn ≡ t → (ends : Bool) → ends_now ≡ ends → t ≡ Idle
      go Idle is ends e = refl
      go (Asked n ask) is true e =
          absurd (omega (
            arith,
            was,
            ap (λ t. length (pending (side_of link) t)) is,
            now true e,
            answered_now,
            turns.one_unanswered,
          ))
      go (Asked n ask) is false e =
          let even = turns.begins_answered link refl (asks_own e) in
          absurd (omega (arith, was, ap (λ t. length (pending (side_of link) t)) is, now false e, answered_now, even))
      go (Asking n) is ends e =
          other (is_link link (side_of (link_on (side_of link) n)) (link_number (link_on (side_of link) n))) refl ends e
        where
          at : Link
          at = link_on (side_of link) n

          under_way : IsAsking plan (state plan past) own (link_on (side_of link) n)
          under_way = asking_begun plan past lawful (side_of link) own n is

          clash : link ≡ link_on (side_of link) n → ⊥
          clash here =
              let some : asking_at plan.layout link past ≡ Some under_way.0 =
              sym (ap (λ (u : Under). u.asking) (links_are plan past link))
              ∙ ap (λ (l : Link). ((state plan past).links (side_of l) (link_number l)).asking) here ∙ under_way.1 in
              let never : None ≡ Some under_way.0 = sym empty ∙ some in
              absurd (cc)

          other : (here : Bool) → is_link link (side_of (link_on (side_of link) n))
              (link_number (link_on (side_of link) n)) ≡ here → (ends : Bool)
              → ends_now ≡ ends → Asking n ≡ Idle
          other true here ends e = absurd (clash (same_link link (link_on (side_of link) n) here))
          other false here true e =
              let even = turns.begins_answered (link_on (side_of link) n) (side_on (side_of link) n)
              (asks_elsewhere (link_on (side_of link) n) here under_way) in
              absurd (omega (
                arith,
                was,
                ap (λ t. length (pending (side_of link) t)) is,
                now true e,
                answered_now,
                even,
              ))
          other false here false e =
              absurd (clash (turns.begins_once link (link_on (side_of link) n) refl (side_on (side_of link) n)
              (asks_own e) (asks_elsewhere (link_on (side_of link) n) here under_way)))

-- a request begins at its port
pub placed_back : (plan : Plan) (past : List Sighting) (link : Link) (known : ℕ) (lanes : List ℕ) (beat : AskHead)
    → AskHeads (asking_at plan.layout link past) (begun_at plan.layout link past)
    → AreMessages plan (ask_at link known lanes beat ∷ past) → asking_at plan.layout link past ≡ None
    → IsPlaced plan.layout link beat
placed_back plan past (Master m) known lanes beat heads messages empty = tt
placed_back plan past (Port p) known lanes beat heads messages empty =
    go (ends_ask (bus_of plan.layout (Port p)) (asking_at plan.layout (Port p) past) beat) refl
  where
    go : (ends : Bool) → ends_ask (bus_of plan.layout (Port p)) (asking_at plan.layout (Port p) past) beat ≡ ends
        → RoutesWide plan.layout beat.source beat.address beat.size p
    go false e =
        let b = ask_beat (bus_of plan.layout (Port p)) beat lanes in
        let begun_is : begun_at plan.layout (Port p) (ask_at (Port p) known lanes beat ∷ past) ≡ b ∷ [] =
        ap (λ l. begun (bus_of plan.layout (Port p)) l) (asks_here plan.layout past (ask_at (Port p) known lanes beat))
        ∙ ap (λ h. if h then [] else begun_at plan.layout (Port p) past ++ b ∷ []) e
        ∙ ap (λ l. l ++ b ∷ []) (heads.empty empty) in
        messages.begun_placed p b [] begun_is
    go true e =
        let wide = wide_of plan (Port p) beat.source in
        let side = side_of (Port p) in
        let seen : AskSeen = record {
          link = Port p;
          sent = ask_of (bus_of plan.layout (Port p)) (asking_at plan.layout (Port p) past) beat
              (take (bus_of plan.layout (Port p)) lanes);
        } in
        let all : AllByRecursion (IsInPlace plan.layout wide) (asks plan side wide past ++ seen ∷ []) =
        subst (λ l. AllByRecursion (IsInPlace plan.layout wide) l)
        (asks_with_ask plan past (Port p) known lanes beat
        ∙ ap (λ b. asks plan side wide past ++ (if b then seen ∷ [] else [])) e) (messages.placed side wide) in
        last_of_all (IsInPlace plan.layout wide) (asks plan side wide past) seen all p refl

-- ---- replies

number_on : (side : LinkSide) (n : ℕ) → link_number (link_on side n) ≡ n
number_on AtMasters n = refl
number_on AtPorts n = refl

abbrev first_seen : AskSeen → List AskSeen → AskSeen
first_seen other [] = other
first_seen other (seen ∷ more) = seen

-- the request that the next reply answers is the one that is pending
next_pending : (plan : Plan) (past : List Sighting) (side : LinkSide) (wide : ℕ) (turn : Turn)
    → InStep side turn (asks plan side wide past) (replies plan side wide past)
    → next_answered plan side wide past ≡ pending side turn
next_pending plan past side wide turn step =
    let n = length (replies plan side wide past) in
    let one : suc n - n ≡ 1 = omega arith in
    ap (λ l. take (suc n - n) (drop n l)) step.asks_are
    ∙ ap (λ l. take (suc n - n) l) (drop_front step.done (pending side turn) n step.counted)
    ∙ ap (λ k. take k (pending side turn)) one ∙ all turn
  where
    all : (t : Turn) → take 1 (pending side t) ≡ pending side t
    all Idle = refl
    all (Asking n) = refl
    all (Asked n ask) = refl

-- the first of a list with one more at its end, and what it answers
first_reply_in : (kept : Option ReplyBegun) (beats : List ReplyBeat) (b : ReplyBeat) → ReplyHeads kept beats
    → Continues SameReplyFields (first_reply kept) b.head
    → (first : ReplyBeat) × (more : List ReplyBeat) × (beats ++ b ∷ [] ≡ first ∷ more)
    × (first.head.source ≡ b.head.source)
    × ((ask : Request) → IsReplyBeatTo ask first.head → IsReplyBeatTo ask b.head)
first_reply_in kept [] b heads same = (b, [], refl, refl, λ ask answers. answers)
first_reply_in None (f ∷ beats) b heads same = let none : f ∷ beats ≡ [] = heads.empty refl in absurd (cc)
first_reply_in (Some v) (f ∷ beats) b heads same =
    let first = heads.each 0 f refl v.first refl in
    let last = same v.first refl in (
      f,
      beats ++ b ∷ [],
      refl,
      first.source ∙ sym last.source,
      λ ask answers. record {
        size = last.size ∙ sym first.size ∙ answers.size;
        opcode = last.opcode ∙ sym first.opcode ∙ answers.opcode;
      },
    )

module _ (plan : Plan) (past : List Sighting) (lawful : IsLawfulGroup plan past) (link : Link) (known : ℕ) (lanes : List ℕ)
    (beat : ReplyHead) (heads : ReplyHeads (replying_at plan.layout link past) (begun_replies_at plan.layout link past))
    (same : Continues SameReplyFields (first_reply (replying_at plan.layout link past)) beat)
    (turns : TakeTurns plan (reply_at link known lanes beat ∷ past) (side_of link) (wide_of plan link beat.source)) where
  abbrev mine : ℕ
  mine = wide_of plan link beat.source

  abbrev at : Turn
  at = ((state plan past).flights (side_of link) mine).turn

  abbrev bus : ℕ
  bus = bus_of plan.layout link

  abbrev ends_here : Bool
  ends_here = ends_reply bus (replying_at plan.layout link past) beat

  abbrev last_beat : ReplyBeat
  last_beat = reply_beat bus beat known lanes

  abbrev message : List ReplyBeat
  message = begun_replies_at plan.layout link past ++ last_beat ∷ []

  abbrev reply_now : ReplySeen
  reply_now = record {
    link = link;
    reply = λ address. reply_of bus (replying_at plan.layout link past) address beat (known % 2 ^ bus) (take bus lanes);
    beats = message;
  }

  kept : InStep (side_of link) at (asks plan (side_of link) mine past) (replies plan (side_of link) mine past)
  kept = in_step plan past lawful (side_of link) mine

  -- the request in flight that has ended, with what the beat answers
  pub record IsAnswering : Type 0 where
    pub ask : Sent
    pub in_flight : at ≡ Asked (link_number link) ask
    pub answers : IsReplyBeatTo ask.ask beat

  -- a pending request at this link is the one in flight
  of_pending : (t : Turn) (ask : Sent) → pending (side_of link) t ≡ record { link = link; sent = ask } ∷ []
      → t ≡ Asked (link_number link) ask
  of_pending Idle ask is = cc
  of_pending (Asking n) ask is = cc
  of_pending (Asked n other) ask is =
      let seen = ap (first_seen (record { link = link; sent = ask })) is in
      let number : n ≡ link_number link =
      sym (number_on (side_of link) n) ∙ ap (λ (a : AskSeen). link_number a.link) seen in
      ap (λ k. Asked k other) number ∙ ap (λ (a : AskSeen). Asked (link_number link) a.sent) seen

  by_end : (ends : Bool) → ends_here ≡ ends → IsAnswering
  by_end false e =
      let parts = first_reply_in (replying_at plan.layout link past) (begun_replies_at plan.layout link past)
      last_beat heads same in
      let there : RepliesAt plan (reply_at link known lanes beat ∷ past) mine link = record {
        first = parts.0;
        more = parts.1;
        begun = ap (λ l. begun_reply (bus_of plan.layout link) l)
            (replies_here plan.layout past (reply_at link known lanes beat))
            ∙ ap (λ h. if h then [] else message) e ∙ parts.2;
        of = ap (λ n. wide_of plan link n) parts.3;
      } in
      let asked = turns.replies_asked link refl there in
      let side = side_of link in
      let next : next_answered plan side mine past ≡ record { link = link; sent = asked.0 } ∷ [] =
      sym (ap (λ l. slice_range l (length (replies plan side mine (reply_at link known lanes beat ∷ past)))
      (suc (length (replies plan side mine (reply_at link known lanes beat ∷ past)))))
      (asks_with_reply plan past link known lanes beat)
      ∙ ap (λ (l : List ReplySeen). slice_range (asks plan side mine past) (length l) (suc (length l)))
      (replies_with_reply plan past link known lanes beat
      ∙ ap (λ b. replies plan side mine past ++ (if b then reply_now ∷ [] else [])) e
      ∙ append-nil (replies plan side mine past)))
      ∙ asked.1 in
      record {
        ask = asked.0;
        in_flight = of_pending at asked.0 (sym (next_pending plan past side mine at kept) ∙ next);
        answers = parts.4 asked.0.ask asked.2;
      }
  by_end true e = go at refl
    where
      replies_are : replies plan (side_of link) mine (reply_at link known lanes beat ∷ past) ≡ replies plan
          (side_of link) mine past ++ reply_now ∷ []
      replies_are = replies_with_reply plan past link known lanes beat
          ∙ ap (λ b. replies plan (side_of link) mine past ++ (if b then reply_now ∷ [] else [])) e

      enough : length (replies plan (side_of link) mine past) + 1 ≤ length
          (replies plan (side_of link) mine past) + length (pending (side_of link) at)
      enough = omega (
        arith,
        turns.no_reply_more,
        ap (λ (l : List ReplySeen). length l) replies_are,
        length-append (replies plan (side_of link) mine past) (reply_now ∷ []),
        ap (λ (l : List AskSeen). length l) (asks_with_reply plan past link known lanes beat),
        ap (λ (l : List AskSeen). length l) kept.asks_are,
        length-append kept.done (pending (side_of link) at),
        kept.counted,
      )

      go : (t : Turn) → at ≡ t → IsAnswering
      go Idle is = absurd (omega (arith, enough, ap (λ t. length (pending (side_of link) t)) is))
      go (Asking n) is = absurd (omega (arith, enough, ap (λ t. length (pending (side_of link) t)) is))
      go (Asked n ask) is =
          let last : AskSeen = record { link = link_on (side_of link) n; sent = ask } in
          let answered = replies plan (side_of link) mine past in
          let asked_is : asks plan (side_of link) mine (reply_at link known lanes beat ∷ past) ≡ kept.done ++ last ∷ [] =
          asks_with_reply plan past link known lanes beat ∙ kept.asks_are
          ∙ ap (λ t. kept.done ++ pending (side_of link) t) is in
          let all : AllByRecursion IsAnswered (zip kept.done answered ++ (last, reply_now) ∷ []) =
          subst (λ l. AllByRecursion IsAnswered l)
          (ap (λ l. zip l (replies plan (side_of link) mine (reply_at link known lanes beat ∷ past))) asked_is
          ∙ ap (λ l. zip (kept.done ++ last ∷ []) l) replies_are
          ∙ zip_more kept.done answered last reply_now (sym kept.counted)) turns.answered in
          let one : IsAnswered (last, reply_now) =
          last_of_all IsAnswered (zip kept.done answered) (last, reply_now) all in
          let number : n ≡ link_number link = sym (number_on (side_of link) n) ∙ ap (λ l. link_number l) (sym one.link) in
          record {
            ask = ask;
            in_flight = is ∙ ap (λ k. Asked k ask) number;
            answers = last_of_all (λ (b : ReplyBeat). IsReplyBeatTo ask.ask b.head) (begun_replies_at plan.layout link past)
                last_beat one.beats;
          }

  pub answering_back : IsAnswering
  answering_back = by_end ends_here refl
