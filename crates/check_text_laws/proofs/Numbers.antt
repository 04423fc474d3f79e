-- How many of the bins that rows add are requests, and how many are replies.
use Rattle.std.proofs.Common.{◌≡◌, ◌∙◌, ℕ, ◌+◌, ◌-◌, ◌≤◌, ◌%◌, ◌^◌, Bool, true, false, if◌then◌else◌, List, [], ◌∷◌, ◌++◌, length, Option, Some, None, refl, ap, sym, subst, arith}
use Rattle.std.specs.Prelude.{◌==◌, ◌&&◌, nat_lt, is_some}
use Rattle.std.specs.List.{list_any}
use Rattle.check_beats.specs.Message.{is_spoiled}
use Rattle.check_beats.specs.Rules.{clocks_in}
use Rattle.check_beats.specs.declared.rules.LinkRules.{LinkRules}
use Rattle.check_beats.specs.State.{ends_reply}
use Rattle.check_beats.specs.declared.beat.AskHead.{AskHead}
use Rattle.check_beats.specs.declared.beat.ReplyHead.{ReplyHead}
use Rattle.check_watch.specs.Past.{scene_in_group, state}
use Rattle.check_watch.specs.Plan.{Layout}
use Rattle.check_watch.specs.Scene.{Scene, ask_by, captured, ended_by, is_given, must_by, seen, seen_ask, seen_reply}
use Rattle.check_watch.specs.declared.beat.Beat.{Beat}
use Rattle.check_watch.specs.declared.beat.Beat.TheVariants.{A, D}
use Rattle.check_watch.specs.declared.beat.Link.{Link}
use Rattle.check_watch.specs.declared.seen.Ended.{Ended}
use Rattle.check_watch.specs.declared.seen.Seen.TheVariants.{Part}
use Rattle.check_flight.specs.Flight.{Turn}
use Rattle.check_flight.specs.Flight.Turn.{Idle, Asking, Asked}
use Rattle.check_flight.specs.declared.answer.Answer.{Answer}
use Rattle.check_cells.specs.Pattern.{Pattern}
use Rattle.check_cells.specs.Sent.{Sent}
use Rattle.check_sides.specs.Groups.{past_at, plan_at, shared_past}
use Rattle.check_sides.specs.Lawful.{IsLawful}
use Rattle.check_sides.specs.Plan.{Plan, bus_of}
use Rattle.check_rows.specs.Row.{SeenRow, beats_of}
use Rattle.check_bins.specs.declared.bin.Bin.{Bin}
use Rattle.check_bins.specs.declared.bin.Bin.TheVariants as bin
use Rattle.check_coverage.specs.declared.ranges.RangePlace.{RangePlace}
use Rattle.check_coverage.specs.Bins.{access_of, after_bins, after_by, again, ask_bins, ask_part_bins, begin_bins, bins, bins_by, bins_of, cause_of, contested_bins, contests, corrupt_bins, end_bins, first_bins, gap_bins, lane_bins, last_bins, latency_bins, mask_bins, of_found, is_rival, older, overlap, bin_pair, operation_of, overtook_at, overtook_bins, place_bins, refused_bins, reply_bins, reply_part_bins, reply_times_bins, step_of}
use Rattle.check_coverage.specs.Flights.{InFlight, begun, end_of, flights_after, in_flight, is_counted, is_of, ends_an_ask, ends_a_reply, wide_at}
use Rattle.check_coverage.specs.Latest.{is_last_ask, latest_at}
use Rattle.check_coverage.specs.Times.{times_at}
use Rattle.check_coverage.specs.declared.times.Times.{Times}
use Rattle.check_bins.specs.declared.bin.CountedChannel.{CountedChannel}
use Rattle.check_bins.specs.declared.bin.CountedChannel.TheVariants as channel
use Rattle.check_coverage.specs.Mirrors.{mirrors_at}
use Rattle.check_coverage.specs.Shape.{shape_of}
use Rattle.check_review.specs.Count.{answered_in_past, asked_in_past, one_more}
use Rattle.check_text_laws.specs.Sums.{is_answered, is_asked}
use Rattle.check_text_laws.proofs.Finding.{found, own_found}
use Rattle.check_text_laws.proofs.Kept.{AreKept}
use Rattle.check_text_laws.proofs.Rows.{answered_kept, are_kept, counted_there}
use Rattle.check_coverage.proofs.Lawful.{counted_together}

-- how many of these are of a kind
abbrev pub how_many : (Bin → Bool) → List Bin → ℕ
how_many is_one [] = 0
how_many is_one (x ∷ xs) = (if is_one x then 1 else 0) + how_many is_one xs

pub how_many-append : (is_one : Bin → Bool) (xs ys : List Bin)
    → how_many is_one (xs ++ ys) ≡ how_many is_one xs + how_many is_one ys
how_many-append is_one [] ys = omega arith
how_many-append is_one (x ∷ xs) ys = let h = how_many-append is_one xs ys in omega (arith, h)

-- requests, or replies
abbrev kind : Bool → Bin → Bool
kind true = is_asked
kind false = is_answered

abbrev one_if : Bool → ℕ
one_if true = 1
one_if false = 0

-- ---- bins of other kinds

abbrev IsOther : Bin → Type 0
IsOther x = (is_asked x ≡ false) × (is_answered x ≡ false)

one_none : (k : Bool) (x : Bin) → IsOther x → how_many (kind k) (x ∷ []) ≡ 0
one_none true x other = ap (λ t. (if t then 1 else 0) + 0) other.0
one_none false x other = ap (λ t. (if t then 1 else 0) + 0) other.1

if_none : (k b : Bool) (x : Bin) → IsOther x → how_many (kind k) (if b then x ∷ [] else []) ≡ 0
if_none k true x other = one_none k x other
if_none k false x other = refl

more_none : (k : Bool) (x : Bin) (xs : List Bin) → IsOther x → how_many (kind k) xs ≡ 0 → how_many (kind k) (x ∷ xs) ≡ 0
more_none k x xs other rest = let here = one_none k x other in omega (arith, here, rest)

both_none : (k : Bool) (xs ys : List Bin) → how_many (kind k) xs ≡ 0 → how_many (kind k) ys ≡ 0
    → how_many (kind k) (xs ++ ys) ≡ 0
both_none k xs ys first second = let sum = how_many-append (kind k) xs ys in omega (arith, sum, first, second)

again_none : (k : Bool) (rules : LinkRules) (flight : InFlight) (time : ℕ) (answered : Option ℕ)
    → how_many (kind k) (again rules flight time answered) ≡ 0
again_none k rules flight time None = refl
again_none k rules flight time (Some at) =
    one_none k (bin.Again flight.master (step_of (clocks_in rules (time - at)))) (refl, refl)

begin_none : (k : Bool) (rules : LinkRules) (flights : List InFlight) (flight : InFlight) (time : ℕ) (answered : Option ℕ)
    → how_many (kind k) (begin_bins rules flights flight time answered) ≡ 0
begin_none true rules flights flight time answered =
    let h = again_none true rules flight time answered in omega (arith, h)
begin_none false rules flights flight time answered =
    let h = again_none false rules flight time answered in omega (arith, h)

first_none : (k : Bool) (plan : Plan) (wide : ℕ) (flights : List InFlight) (time : ℕ) (answered : Option ℕ)
    (beat : AskHead) → how_many (kind k) (first_bins plan wide flights time answered beat) ≡ 0
first_none k plan wide flights time answered beat = go k (list_any (is_of wide) flights)
  where
    go : (k b : Bool)
        → how_many (kind k) (if b then [] else begin_bins plan.layout.rules flights (begun plan wide beat) time answered) ≡ 0
    go true true = refl
    go false true = refl
    go true false = begin_none true plan.layout.rules flights (begun plan wide beat) time answered
    go false false = begin_none false plan.layout.rules flights (begun plan wide beat) time answered

mask_none : (k : Bool) (flight : InFlight) → how_many (kind k) (mask_bins flight) ≡ 0
mask_none k flight =
    if_none k (flight.first.opcode == 1)
    (bin.Mask (bin_pair flight) flight.first.size (shape_of flight.first.size flight.given)) (refl, refl)

contested_none : (k : Bool) (plan : Plan) (flights : List InFlight) (flight : InFlight)
    → how_many (kind k) (contested_bins plan flights flight) ≡ 0
contested_none k plan flights flight =
    if_none k (list_any (contests (mirrors_at plan flight.port) flight) flights) (bin.Contested flight.port) (refl, refl)

place_none : (k : Bool) (port : ℕ) (place : Option RangePlace) → how_many (kind k) (place_bins port place) ≡ 0
place_none k port None = refl
place_none k port (Some place) =
    let first = bin.Edge port place.number false in
    let last = bin.Edge port place.number true in
    more_none k (bin.Range port place.number) _ (refl, refl)
    (both_none k (if place.has_first then first ∷ [] else []) (if place.has_last then last ∷ [] else [])
    (if_none k place.has_first first (refl, refl)) (if_none k place.has_last last (refl, refl)))

overtook_none : (k elsewhere : Bool) (flights : List InFlight) (flight : InFlight)
    → how_many (kind k) (overtook_at elsewhere flights flight) ≡ 0
overtook_none k elsewhere flights flight =
    if_none k (list_any (is_rival elsewhere flight) (older flight flights)) (bin.Overtook (bin_pair flight) elsewhere)
    (refl, refl)

lane_none : (k : Bool) (bus : ℕ) (flight : InFlight) → how_many (kind k) (lane_bins bus flight) ≡ 0
lane_none k bus flight =
    if_none k (nat_lt (2 ^ flight.first.size) bus)
    (bin.Lane flight.master flight.first.size (flight.first.address % bus)) (refl, refl)

-- a request that is whole is one, and no reply; a reply that is whole is none, and one reply
rest_none : (k : Bool) (plan : Plan) (bus : ℕ) (flights : List InFlight) (flight : InFlight)
    → how_many (kind k) (mask_bins flight
    ++ (contested_bins plan flights flight ++ (place_bins flight.port flight.place ++ lane_bins bus flight))) ≡ 0
rest_none k plan bus flights flight =
    let place = place_bins flight.port flight.place in
    let lane = lane_bins bus flight in
    both_none k (mask_bins flight) (contested_bins plan flights flight ++ (place ++ lane)) (mask_none k flight)
    (both_none k (contested_bins plan flights flight) (place ++ lane) (contested_none k plan flights flight)
    (both_none k place lane (place_none k flight.port flight.place) (lane_none k bus flight)))

ask_one : (k : Bool) (plan : Plan) (bus : ℕ) (flights : List InFlight) (beat : AskHead) (flight : InFlight)
    → how_many (kind k) (ask_bins plan bus flights beat flight) ≡ one_if k
ask_one true plan bus flights beat flight = let h = rest_none true plan bus flights flight in omega (arith, h)
ask_one false plan bus flights beat flight = let h = rest_none false plan bus flights flight in omega (arith, h)

overtakes_none : (k : Bool) (flights : List InFlight) (flight : InFlight)
    → how_many (kind k) (overtook_bins flights flight) ≡ 0
overtakes_none k flights flight =
    both_none k (overtook_at false flights flight) (overtook_at true flights flight)
    (overtook_none k false flights flight) (overtook_none k true flights flight)

reply_no_ask : (bus : ℕ) (flights : List InFlight) (beat : ReplyHead) (flight : InFlight)
    → how_many is_asked (reply_bins bus flights beat flight) ≡ 0
reply_no_ask bus flights beat flight =
    let h = both_none true (overtook_bins flights flight) (refused_bins beat.denied flight) (overtakes_none true flights flight)
    (if_none true beat.denied (bin.Refused flight.port (cause_of flight)) (refl, refl)) in
    omega (arith, h)

reply_one : (bus : ℕ) (flights : List InFlight) (beat : ReplyHead) (flight : InFlight)
    → how_many is_answered (reply_bins bus flights beat flight) ≡ 1
reply_one bus flights beat flight =
    let h = both_none false (overtook_bins flights flight) (refused_bins beat.denied flight) (overtakes_none false flights flight)
    (if_none false beat.denied (bin.Refused flight.port (cause_of flight)) (refl, refl)) in
    omega (arith, h)

-- ---- what a beat ends

-- a beat of channel A ends no reply, and one of channel D no request
abbrev EndsOwn : Beat → Ended → Type 0
EndsOwn (A beat) end = ends_a_reply end ≡ false
EndsOwn (D beat) end = ends_an_ask end ≡ false

ends_no_reply : (sent : Option Sent) → ends_a_reply (ended_by (seen_ask sent)) ≡ false
ends_no_reply None = refl
ends_no_reply (Some sent) = refl

ends_no_ask : (turn : Turn) (reply : Pattern) (must : Option Answer)
    → ends_an_ask (ended_by (seen_reply turn reply must)) ≡ false
ends_no_ask Idle reply must = refl
ends_no_ask (Asking n) reply must = refl
ends_no_ask (Asked n sent) reply None = refl
ends_no_ask (Asked n sent) reply (Some answer) = refl

ends_own : (layout : Layout) (link : Link) (here : Scene) (beat : Beat) (known : ℕ) (lanes : List ℕ)
    → EndsOwn beat (ended_by (seen layout link here beat known lanes))
ends_own layout link here (A beat) known lanes = ends_no_reply (ask_by here.under beat lanes)
ends_own layout link here (D beat) known lanes = go (ends_reply here.under.bus here.under.replying beat)
  where
    reply : Pattern
    reply = captured here.under here.flight.turn beat known lanes

    must : Option Answer
    must = must_by (is_given layout link here.port) here.crossing here.flight.due

    go : (ends : Bool) → ends_an_ask (ended_by (if ends then seen_reply here.flight.turn reply must else Part)) ≡ false
    go true = ends_no_ask here.flight.turn reply must
    go false = refl

-- ---- one beat

gap_none : (k : Bool) (rules : LinkRules) (way : CountedChannel) (time : ℕ) (before : Option ℕ) (flight : InFlight)
    → how_many (kind k) (gap_bins rules way time before flight) ≡ 0
gap_none k rules way time None flight = refl
gap_none k rules way time (Some at) flight =
    one_none k (bin.Gap (bin_pair flight) way (step_of (clocks_in rules (time - at)))) (refl, refl)

latency_none : (k : Bool) (rules : LinkRules) (time : ℕ) (times : Times) (flight : InFlight)
    → how_many (kind k) (latency_bins rules time times flight) ≡ 0
latency_none k rules time times flight = go (is_some times.replied)
  where
    latency : Bin
    latency = bin.Latency flight.port (step_of (clocks_in rules (time - times.began)))

    go : (b : Bool) → how_many (kind k) (if b then [] else latency ∷ []) ≡ 0
    go true = refl
    go false = one_none k latency (refl, refl)

times_none : (k : Bool) (rules : LinkRules) (time : ℕ) (times : Times) (flight : InFlight)
    → how_many (kind k) (reply_times_bins rules time times flight) ≡ 0
times_none k rules time times flight =
    both_none k (latency_bins rules time times flight) (gap_bins rules channel.D time times.replied flight)
    (latency_none k rules time times flight) (gap_none k rules channel.D time times.replied flight)

corrupt_none : (k is_corrupt is_reply : Bool) (flight : InFlight)
    → how_many (kind k) (corrupt_bins is_corrupt is_reply flight) ≡ 0
corrupt_none k is_corrupt is_reply flight =
    if_none k is_corrupt (bin.Corrupt (bin_pair flight) (operation_of flight) is_reply) (refl, refl)

found_none : (k : Bool) (o : Option InFlight) (bins : InFlight → List Bin)
    → ((flight : InFlight) → how_many (kind k) (bins flight) ≡ 0) → how_many (kind k) (of_found o bins) ≡ 0
found_none k None bins none = refl
found_none k (Some flight) bins none = none flight

after_none : (k : Bool) (plan : Plan) (wide : ℕ) (is_asked : Bool) (after : List InFlight) (before : ℕ → Option InFlight)
    → how_many (kind k) (after_bins plan wide is_asked after before) ≡ 0
after_none k plan wide false after before = refl
after_none k plan wide true after before =
    found_none k (found wide after) (λ flight. after_by (mirrors_at plan flight.port) flight (before flight.port))
    (λ flight. by flight (before flight.port))
  where
    by : (flight : InFlight) (latest : Option InFlight)
        → how_many (kind k) (after_by (mirrors_at plan flight.port) flight latest) ≡ 0
    by flight None = refl
    by flight (Some latest) = if_none k (overlap (mirrors_at plan flight.port) flight.first latest.first)
        (bin.After flight.port (access_of latest.first.opcode) (access_of flight.first.opcode)) (refl, refl)

module _ (plan : Plan) (bus wide : ℕ) (flights : List InFlight) (time : ℕ) (times : Times) (end : Ended) where
  abbrev both_one : Bool → Bool → ℕ
  both_one true b = one_if b
  both_one false b = 0

  ask_kinds : (k : Bool) (beat : AskHead)
      → how_many (kind k) (bins_by plan bus wide flights time times (A beat) end) ≡ both_one k (ends_an_ask end)
  ask_kinds k beat =
      let next = flights_after plan bus wide flights (A beat) end in
      let part = ask_part_bins plan.layout.rules time times.asked beat.corrupt in
      let sum = how_many-append (kind k) (first_bins plan wide flights time times.answered beat)
      (last_bins plan bus wide next beat end ++ of_found (found wide next) part) in
      let more = how_many-append (kind k) (last_bins plan bus wide next beat end) (of_found (found wide next) part) in
      let none = first_none k plan wide flights time times.answered beat in
      let parts = found_none k (found wide next) part (λ flight.
      both_none k (gap_bins plan.layout.rules channel.A time times.asked flight) (corrupt_bins beat.corrupt false flight)
      (gap_none k plan.layout.rules channel.A time times.asked flight) (corrupt_none k beat.corrupt false flight)) in
      let mine = own_found plan wide beat flights bus end in
      let last : how_many (kind k) (last_bins plan bus wide next beat end) ≡ both_one k (ends_an_ask end) =
      last_one k (ends_an_ask end) next beat mine.0 mine.1 in
      omega (arith, sum, more, none, parts, last)
    where
      last_one : (k b : Bool) (next : List InFlight) (beat : AskHead) (f : InFlight) → found wide next ≡ Some f
          → how_many (kind k) (if b then of_found (found wide next) (ask_bins plan bus next beat) else [])
          ≡ both_one k b
      last_one true true next beat f is =
          ap (λ o. how_many is_asked (of_found o (ask_bins plan bus next beat))) is ∙ ask_one true plan bus next beat f
      last_one false true next beat f is =
          ap (λ o. how_many is_answered (of_found o (ask_bins plan bus next beat))) is
          ∙ ask_one false plan bus next beat f
      last_one true false next beat f is = refl
      last_one false false next beat f is = refl

  -- what each beat of channel D adds is of neither kind
  parts_none : (k is_corrupt : Bool)
      → how_many (kind k) (of_found (found wide flights) (reply_part_bins plan.layout.rules time times is_corrupt)) ≡ 0
  parts_none k is_corrupt =
      found_none k (found wide flights) (reply_part_bins plan.layout.rules time times is_corrupt)
      (λ flight. both_none k (reply_times_bins plan.layout.rules time times flight) (corrupt_bins is_corrupt true flight)
      (times_none k plan.layout.rules time times flight) (corrupt_none k is_corrupt true flight))

  asked_by : (beat : Beat) → EndsOwn beat end
      → how_many is_asked (bins_by plan bus wide flights time times beat end) ≡ one_if (ends_an_ask end)
  asked_by (A beat) own = ask_kinds true beat
  asked_by (D beat) own =
      both_none true (end_bins bus wide flights beat end)
      (of_found (found wide flights) (reply_part_bins plan.layout.rules time times (is_spoiled beat)))
      (none (ends_a_reply end) (found wide flights)) (parts_none true (is_spoiled beat))
      ∙ ap one_if (sym own)
    where
      none : (b : Bool) (o : Option InFlight)
          → how_many is_asked (if b then of_found o (reply_bins bus flights beat) else []) ≡ 0
      none true None = refl
      none true (Some f) = reply_no_ask bus flights beat f
      none false o = refl

  -- the request that a beat of a reply answers is kept
  abbrev IsFound : Beat → Type 0
  IsFound (A beat) = Unit {0}
  IsFound (D beat) = (f : InFlight) × (found wide flights ≡ Some f)

  answered_by : (beat : Beat) → EndsOwn beat end → IsFound beat
      → how_many is_answered (bins_by plan bus wide flights time times beat end) ≡ one_if (ends_a_reply end)
  answered_by (A beat) own has = ask_kinds false beat ∙ ap one_if (sym own)
  answered_by (D beat) own has =
      let parts = of_found (found wide flights) (reply_part_bins plan.layout.rules time times (is_spoiled beat)) in
      let sum = how_many-append is_answered (end_bins bus wide flights beat end) parts in
      let none = parts_none false (is_spoiled beat) in
      let end_one : how_many is_answered (end_bins bus wide flights beat end) ≡ one_if (ends_a_reply end) =
      one (ends_a_reply end) in
      omega (arith, sum, none, end_one)
    where
      one : (b : Bool)
          → how_many is_answered (if b then of_found (found wide flights) (reply_bins bus flights beat) else []) ≡ one_if b
      one true =
          ap (λ o. how_many is_answered (of_found o (reply_bins bus flights beat))) has.1
          ∙ reply_one bus flights beat has.0
      one false = refl

-- ---- one row

more_of : (b : Bool) (n one m a : ℕ) → n % 2 ^ 64 ≡ a → one ≡ one_if b → m ≡ one + n → m % 2 ^ 64 ≡ one_more b a
more_of true n one m a was is sum = omega (arith, was, is, sum)
more_of false n one m a was is sum = omega (arith, was, is, sum)

at_most : (b : Bool) (n one m most : ℕ) → n ≤ most → one ≡ one_if b → m ≡ one + n → m ≤ most + 1
at_most true n one m most was is sum = omega (arith, was, is, sum)
at_most false n one m most was is sum = omega (arith, was, is, sum)

module _ (plan : Plan) (before : List SeenRow) (row : SeenRow) where
  abbrev end : Ended
  end = end_of plan before row

  abbrev now : List InFlight
  now = in_flight plan before

  abbrev wide : ℕ
  wide = wide_at plan row.sighting

  own_end : EndsOwn row.sighting.beat end
  own_end = ends_own (plan_at plan row.sighting.link).layout row.sighting.link
      (scene_in_group (plan_at plan row.sighting.link) (past_at plan.layout row.sighting.link (beats_of before)) row.sighting)
      row.sighting.beat row.sighting.known row.sighting.lanes

  -- what it adds beside the request before it
  abbrev beside : List Bin
  beside = after_bins plan wide (is_last_ask row.sighting.beat end)
      (flights_after plan (bus_of plan.layout row.sighting.link) wide now row.sighting.beat end)
      (λ port. latest_at plan before port)

  beside_none : (k : Bool) → how_many (kind k) beside ≡ 0
  beside_none k = after_none k plan wide (is_last_ask row.sighting.beat end)
      (flights_after plan (bus_of plan.layout row.sighting.link) wide now row.sighting.beat end)
      (λ port. latest_at plan before port)

  with_beside : (k : Bool) (here : List Bin) (n : ℕ) → how_many (kind k) here ≡ n → how_many (kind k) (here ++ beside) ≡ n
  with_beside k here n is =
      let sum = how_many-append (kind k) here beside in let none = beside_none k in omega (arith, sum, none, is)

  abbrev added : Bool → List Bin
  added counted =
      if counted
      then bins_by plan (bus_of plan.layout row.sighting.link) wide now row.time
      (times_at plan before wide) row.sighting.beat end ++ beside
      else []

  asked_here : how_many is_asked (bins_of plan before row)
      ≡ one_if (is_counted plan.layout.links row.sighting.link && ends_an_ask end)
  asked_here =
      go (is_counted plan.layout.links row.sighting.link)
    where
      go : (b : Bool) → how_many is_asked (added b) ≡ one_if (b && ends_an_ask end)
      go true = with_beside true (bins_by plan (bus_of plan.layout row.sighting.link) wide now row.time
          (times_at plan before wide) row.sighting.beat end) (one_if (ends_an_ask end))
          (asked_by plan (bus_of plan.layout row.sighting.link) wide now row.time (times_at plan before wide) end
          row.sighting.beat own_end)
      go false = refl

  answered_here : IsLawful plan (beats_of (row ∷ before)) → how_many is_answered (bins_of plan before row)
      ≡ one_if (is_counted plan.layout.links row.sighting.link && ends_a_reply end)
  answered_here lawful =
      go (is_counted plan.layout.links row.sighting.link) refl
    where
      has : is_counted plan.layout.links row.sighting.link ≡ true → (beat : Beat) → row.sighting.beat ≡ beat
          → IsFound plan (bus_of plan.layout row.sighting.link) wide now row.time (times_at plan before wide) end beat
      has counted (A beat) is = tt
      has counted (D beat) is =
          answered_kept plan before row lawful.0 now
          (subst (λ sd. AreKept plan (state plan (shared_past plan.layout (beats_of before))) sd now)
          (sym (counted_there plan.layout.links row.sighting.link counted)) (are_kept plan before lawful.0))
          (counted_together plan.layout row.sighting.link counted) lawful beat is

      go : (b : Bool) → is_counted plan.layout.links row.sighting.link ≡ b
          → how_many is_answered (added b) ≡ one_if (b && ends_a_reply end)
      go true counted = with_beside false (bins_by plan (bus_of plan.layout row.sighting.link) wide now row.time
          (times_at plan before wide) row.sighting.beat end) (one_if (ends_a_reply end))
          (answered_by plan (bus_of plan.layout row.sighting.link) wide now row.time (times_at plan before wide) end
          row.sighting.beat own_end (has counted row.sighting.beat refl))
      go false counted = refl

-- ---- all rows

pub asked_is : (before : ℕ) (plan : Plan) (rows : List SeenRow)
    → (before + how_many is_asked (bins plan rows)) % 2 ^ 64 ≡ asked_in_past (before % 2 ^ 64) plan (beats_of rows)
asked_is before plan [] = omega arith
asked_is before plan (row ∷ rows) =
    let sum = how_many-append is_asked (bins_of plan rows row) (bins plan rows) in
    more_of (is_counted plan.layout.links row.sighting.link && ends_an_ask (end_of plan rows row))
    (before + how_many is_asked (bins plan rows)) (how_many is_asked (bins_of plan rows row))
    (before + how_many is_asked (bins plan (row ∷ rows))) (asked_in_past (before % 2 ^ 64) plan (beats_of rows))
    (asked_is before plan rows) (asked_here plan rows row) (omega (arith, sum))

pub asked_at_most : (plan : Plan) (rows : List SeenRow) → how_many is_asked (bins plan rows) ≤ length rows
asked_at_most plan [] = omega arith
asked_at_most plan (row ∷ before) =
    let more = at_most (is_counted plan.layout.links row.sighting.link && ends_an_ask (end_of plan before row))
    (how_many is_asked (bins plan before)) (how_many is_asked (bins_of plan before row))
    (how_many is_asked (bins plan (row ∷ before))) (length before)
    (asked_at_most plan before) (asked_here plan before row)
    (how_many-append is_asked (bins_of plan before row) (bins plan before)) in
    omega (arith, more)

pub answered_is : (before : ℕ) (plan : Plan) (rows : List SeenRow) → IsLawful plan (beats_of rows)
    → (before + how_many is_answered (bins plan rows)) % 2 ^ 64 ≡ answered_in_past (before % 2 ^ 64) plan (beats_of rows)
answered_is before plan [] lawful = omega arith
answered_is before plan (row ∷ rows) lawful =
    let sum = how_many-append is_answered (bins_of plan rows row) (bins plan rows) in
    more_of (is_counted plan.layout.links row.sighting.link && ends_a_reply (end_of plan rows row))
    (before + how_many is_answered (bins plan rows)) (how_many is_answered (bins_of plan rows row))
    (before + how_many is_answered (bins plan (row ∷ rows))) (answered_in_past (before % 2 ^ 64) plan (beats_of rows))
    (answered_is before plan rows lawful.0) (answered_here plan rows row lawful) (omega (arith, sum))

pub answered_at_most : (plan : Plan) (rows : List SeenRow) → IsLawful plan (beats_of rows)
    → how_many is_answered (bins plan rows) ≤ length rows
answered_at_most plan [] lawful = omega arith
answered_at_most plan (row ∷ before) lawful =
    let more = at_most (is_counted plan.layout.links row.sighting.link && ends_a_reply (end_of plan before row))
    (how_many is_answered (bins plan before)) (how_many is_answered (bins_of plan before row))
    (how_many is_answered (bins plan (row ∷ before))) (length before)
    (answered_at_most plan before lawful.0) (answered_here plan before row lawful)
    (how_many-append is_answered (bins_of plan before row) (bins plan before)) in
    omega (arith, more)
