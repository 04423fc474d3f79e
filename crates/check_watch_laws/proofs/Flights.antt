-- The requests and replies of a source are in step with what is in flight of it.
use Rattle.std.proofs.Common.{◌≡◌, ◌∙◌, ℕ, ◌⊎◌, inl, inr, Bool, true, false, if◌then◌else◌, List, [], ◌∷◌, ◌++◌, length, take, Option, Some, None, refl, ap, sym, subst, arith, append-nil, length-append}
use Rattle.check_cells.specs.Sent.{Sent}
use Rattle.check_beats.specs.State.{Under, ends_ask, ends_reply, ask_of}
use Rattle.check_beats.specs.declared.beat.AskHead.{AskHead}
use Rattle.check_beats.specs.declared.beat.ReplyHead.{ReplyHead}
use Rattle.check_flight.specs.Flight.{Turn, Flight, idle}
use Rattle.check_flight.specs.Flight.Turn.{Idle, Asking, Asked}
use Rattle.check_watch.specs.declared.beat.Beat.{Beat}
use Rattle.check_watch.specs.declared.beat.Beat.TheVariants.{A, D}
use Rattle.check_watch.specs.declared.beat.Link.{Link}
use Rattle.check_watch.specs.Allowed.{IsAllowedAsk, IsAllowedReply}
use Rattle.check_watch.specs.Lawful.{IsLawfulGroup, IsAllowed}
use Rattle.check_watch.specs.Past.{State, scene_of, state, state_after}
use Rattle.check_watch.specs.Plan.{Plan, Layout, Sighting, LinkSide, side_of, link_number, wide_of, is_of, bus_of}
use Rattle.check_watch.specs.Scene.{ask_by, turn_by, flight_after}
use Rattle.check_watch.proofs.InFlight.{ask_at, reply_at, of_is}
use Rattle.check_watch_laws.specs.Crossed.{AskSeen, ReplySeen, asking_at, ask_ended, reply_ended, asks, replies}
use Rattle.check_watch_laws.proofs.Buses.{ask_on_bus}
use Rattle.check_watch_laws.proofs.Links.{LinksAre, links_are, under_by}
use Rattle.check_watch_laws.proofs.Turns.{AsksFly, asks_fly, open_before, asked_at, link_on, own_link}

-- the request in flight that has ended
abbrev pub pending : LinkSide → Turn → List AskSeen
pending side Idle = []
pending side (Asking n) = []
pending side (Asked n ask) = record { link = link_on side n; sent = ask } ∷ []

-- all requests but the one in flight are answered
pub record InStep (side : LinkSide) (turn : Turn) (asked : List AskSeen) (answered : List ReplySeen) : Type 0 where
  pub done : List AskSeen
  pub asks_are : asked ≡ done ++ pending side turn
  pub counted : length answered ≡ length done

abbrev pub AreInStep : Plan → State → List Sighting → Type 0
AreInStep plan s past =
    (side : LinkSide) (wide : ℕ) → InStep side (s.flights side wide).turn (asks plan side wide past)
    (replies plan side wide past)

none_pending : (side : LinkSide) (n : ℕ) (turn : Turn) → (turn ≡ Idle) ⊎ (turn ≡ Asking n) → pending side turn ≡ []
none_pending side n turn (inl is) = ap (pending side) is
none_pending side n turn (inr is) = ap (pending side) is

-- what a request that ends at a link shows
abbrev pub ask_list : Link → Option Sent → List AskSeen
ask_list link None = []
ask_list link (Some ask) = record { link = link; sent = ask } ∷ []

as_list : (link : Link) (ask : Sent) (ends : Bool)
    → (if ends then record { link = link; sent = ask } ∷ [] else []) ≡ ask_list link (if ends then Some ask else None)
as_list link ask true = refl
as_list link ask false = refl

-- the request that a beat ends is the one that is seen
pub ask_seen : (layout : Layout) (past : List Sighting) (link : Link) (known : ℕ) (lanes : List ℕ) (beat : AskHead)
    → ask_ended layout past (ask_at link known lanes beat) (A beat)
    ≡ ask_list link (ask_by (under_by layout link past) beat lanes)
ask_seen layout past link known lanes beat =
    let n = bus_of layout link in
    let before = asking_at layout link past in
    as_list link (ask_of n before beat (take n lanes)) (ends_ask n before beat)
    ∙ ap (λ r. ask_list link (if ends_ask n before beat then Some r else None)) (ask_on_bus layout link before beat lanes)

-- a beat of a request: nothing was in flight, and now is what it ends
ask_steps : (link : Link) (turn : Turn) (ended : Option Sent) (asked : List AskSeen) (answered : List ReplySeen)
    → pending (side_of link) turn ≡ [] → InStep (side_of link) turn asked answered
    → InStep (side_of link) (turn_by (link_number link) ended) (asked ++ ask_list link ended) (answered ++ [])
ask_steps link turn ended asked answered none step = go ended
  where
    before : asked ≡ step.done
    before = step.asks_are ∙ ap (λ l. step.done ++ l) none ∙ append-nil step.done

    same : length (answered ++ []) ≡ length step.done
    same = ap (λ (l : List ReplySeen). length l) (append-nil answered) ∙ step.counted

    go : (o : Option Sent) → InStep (side_of link) (turn_by (link_number link) o) (asked ++ ask_list link o)
        (answered ++ [])
    go (Some ask) = record {
      done = step.done;
      asks_are = ap (λ (l : List AskSeen). l ++ record { link = link; sent = ask } ∷ []) before
          ∙ ap (λ (l : Link). step.done ++ record { link = l; sent = ask } ∷ []) (sym (own_link link));
      counted = same;
    }
    go None = record { done = step.done; asks_are = ap (λ (l : List AskSeen). l ++ []) before; counted = same }

-- a beat of a reply: it ends what is in flight, or goes on
reply_steps : (link : Link) (turn : Turn) (ask : Sent) (reply : ReplySeen) (flight : Flight)
    (asked : List AskSeen) (answered : List ReplySeen) → turn ≡ Asked (link_number link) ask → flight.turn ≡ turn
    → InStep (side_of link) turn asked answered
    → (ends : Bool) → InStep (side_of link) (if ends then idle else flight).turn (asked ++ [])
    (answered ++ (if ends then reply ∷ [] else []))
reply_steps link turn ask reply flight asked answered is same step true = record {
  done = asked ++ [];
  asks_are = sym (append-nil (asked ++ []));
  counted = omega (
    arith,
    length-append answered (reply ∷ []),
    ap (λ (l : List AskSeen). length l) (append-nil asked),
    ap (λ (l : List AskSeen). length l) step.asks_are,
    length-append step.done (pending (side_of link) turn),
    ap (λ t. length (pending (side_of link) t)) is,
    step.counted,
  );
}
reply_steps link turn ask reply flight asked answered is same step false = record {
  done = step.done;
  asks_are = append-nil asked ∙ step.asks_are ∙ ap (λ t. step.done ++ pending (side_of link) t) (sym same);
  counted = ap (λ (l : List ReplySeen). length l) (append-nil answered) ∙ step.counted;
}

module _ (plan : Plan) (s : State) (past : List Sighting) (linked : LinksAre plan s past)
    (busy : AsksFly plan s) (steps : AreInStep plan s past) (link : Link) (known : ℕ) (lanes : List ℕ) where
  -- what a beat of a request finds pending
  pub nothing_pending : (beat : AskHead) → IsAllowedAsk plan.layout link (scene_of plan s link (A beat)) beat known lanes
      → pending (side_of link) (s.flights (side_of link) (wide_of plan link beat.source)).turn ≡ []
  nothing_pending beat allowed =
      none_pending (side_of link) (link_number link) (s.flights (side_of link) (wide_of plan link beat.source)).turn
      (open_before plan s busy link known lanes beat allowed)

  pub ask_step : (beat : AskHead) → IsAllowedAsk plan.layout link (scene_of plan s link (A beat)) beat known lanes
      → AreInStep plan (state_after plan s (ask_at link known lanes beat)) (ask_at link known lanes beat ∷ past)
  ask_step beat allowed side wide = go (is_of plan (ask_at link known lanes beat) side wide) refl
    where
      Steps : Under → LinkSide → ℕ → Type 0
      Steps u sd w = InStep sd (turn_by (link_number link) (ask_by u beat lanes))
          (asks plan sd w past ++ ask_ended plan.layout past (ask_at link known lanes beat) (A beat))
          (replies plan sd w past ++ [])

      here : Steps (under_by plan.layout link past) (side_of link) (wide_of plan link beat.source)
      here = subst (λ l. InStep (side_of link)
          (turn_by (link_number link) (ask_by (under_by plan.layout link past) beat lanes))
          (asks plan (side_of link) (wide_of plan link beat.source) past ++ l)
          (replies plan (side_of link) (wide_of plan link beat.source) past ++ []))
          (sym (ask_seen plan.layout past link known lanes beat))
          (ask_steps link (s.flights (side_of link) (wide_of plan link beat.source)).turn
          (ask_by (under_by plan.layout link past) beat lanes)
          (asks plan (side_of link) (wide_of plan link beat.source) past)
          (replies plan (side_of link) (wide_of plan link beat.source) past)
          (nothing_pending beat allowed) (steps (side_of link) (wide_of plan link beat.source)))

      go : (of : Bool) → is_of plan (ask_at link known lanes beat) side wide ≡ of
          → InStep side (if of then flight_after plan.layout link (scene_of plan s link (A beat))
          (A beat) lanes else s.flights side wide).turn
          (if of then asks plan side wide past ++ ask_ended plan.layout past (ask_at link known lanes beat)
          (A beat) else asks plan side wide past) (if of then replies plan side wide past
          ++ [] else replies plan side wide past)
      go true is =
          let both = of_is plan (ask_at link known lanes beat) side wide is in
          let u = s.links (side_of link) (link_number link) in
          subst (λ sd. Steps u sd wide) both.0 (subst (λ w. Steps u (side_of link) w) both.1
          (subst (λ v. Steps v (side_of link) (wide_of plan link beat.source)) (sym (linked link)) here))
      go false is = steps side wide

  pub reply_step : (beat : ReplyHead)
      → IsAllowedReply plan.layout link (scene_of plan s link (D beat)) beat known lanes
      → AreInStep plan (state_after plan s (reply_at link known lanes beat)) (reply_at link known lanes beat ∷ past)
  reply_step beat allowed side wide = go (is_of plan (reply_at link known lanes beat) side wide) refl
    where
      Steps : Under → LinkSide → ℕ → Type 0
      Steps u sd w = InStep sd (if ends_reply u.bus u.replying beat then idle else
          (scene_of plan s link (D beat)).flight).turn
          (asks plan sd w past ++ [])
          (replies plan sd w past ++ reply_ended plan.layout past (reply_at link known lanes beat) (D beat))

      here : Steps (under_by plan.layout link past) (side_of link) (wide_of plan link beat.source)
      here =
          let found = asked_at (link_number link)
          (s.flights (side_of link) (wide_of plan link beat.source)).turn _ allowed.answers in
          reply_steps link (s.flights (side_of link) (wide_of plan link beat.source)).turn found.0
          _ (scene_of plan s link (D beat)).flight
          (asks plan (side_of link) (wide_of plan link beat.source) past)
          (replies plan (side_of link) (wide_of plan link beat.source) past) found.1 refl
          (steps (side_of link) (wide_of plan link beat.source))
          (ends_reply (bus_of plan.layout link) (under_by plan.layout link past).replying beat)

      go : (of : Bool) → is_of plan (reply_at link known lanes beat) side wide ≡ of
          → InStep side (if of then flight_after plan.layout link (scene_of plan s link (D beat))
          (D beat) lanes else s.flights side wide).turn
          (if of then asks plan side wide past ++ [] else asks plan side wide past)
          (if of then replies plan side wide past
          ++ reply_ended plan.layout past (reply_at link known lanes beat) (D beat) else replies plan side wide past)
      go true is =
          let both = of_is plan (reply_at link known lanes beat) side wide is in
          let u = s.links (side_of link) (link_number link) in
          subst (λ sd. Steps u sd wide) both.0 (subst (λ w. Steps u (side_of link) w) both.1
          (subst (λ v. Steps v (side_of link) (wide_of plan link beat.source)) (sym (linked link)) here))
      go false is = steps side wide

pub in_step : (plan : Plan) (past : List Sighting) → IsLawfulGroup plan past → AreInStep plan (state plan past) past
in_step plan [] lawful = λ side wide. record { done = []; asks_are = refl; counted = refl }
in_step plan (x ∷ past) lawful = go (in_step plan past lawful.0) x.beat lawful.1
  where
    go : AreInStep plan (state plan past) past → (beat : Beat)
        → IsAllowed plan (scene_of plan (state plan past) x.link beat) (record x { beat = beat })
        → AreInStep plan (state_after plan (state plan past) (record x { beat = beat }))
        (record x { beat = beat } ∷ past)
    go steps (A beat) allowed =
        ask_step plan (state plan past) past (links_are plan past)
        (asks_fly plan past lawful.0) steps x.link x.known x.lanes beat allowed
    go steps (D beat) allowed =
        reply_step plan (state plan past) past (links_are plan past)
        (asks_fly plan past lawful.0) steps x.link x.known x.lanes beat allowed
