-- Bins of requests in flight tell numbers from 1 to 64.
use Rattle.std.proofs.Common.{◌-◌, ◌%◌, ◌^◌, ◌≤◌, ℕ, Bool, true, false, if◌then◌else◌, List, [], ◌∷◌, ◌++◌, Option, Some, None, arith}
use Rattle.std.specs.Prelude.{◌==◌, nat_lt, find, is_some}
use Rattle.std.specs.List.{AllByRecursion, list_any}
use Rattle.check_beats.specs.Rules.{clocks_in}
use Rattle.check_beats.specs.declared.rules.LinkRules.{LinkRules}
use Rattle.check_beats.specs.Message.{is_spoiled}
use Rattle.check_beats.specs.declared.beat.AskHead.{AskHead}
use Rattle.check_beats.specs.declared.beat.ReplyHead.{ReplyHead}
use Rattle.check_watch.specs.declared.beat.Beat.{Beat}
use Rattle.check_watch.specs.declared.beat.Beat.TheVariants.{A, D}
use Rattle.check_watch.specs.declared.seen.Ended.{Ended}
use Rattle.check_sides.specs.Plan.{Plan, bus_of}
use Rattle.check_rows.specs.Row.{SeenRow}
use Rattle.check_bins.specs.declared.bin.Bin.{Bin}
use Rattle.check_bins.specs.declared.bin.Bin.TheVariants as bin
use Rattle.check_coverage.specs.Bins.{IsUpTo64, access_of, after_bins, after_by, again, ask_bins, ask_part_bins, begin_bins, bins, bins_by, bins_of, cause_of, contested_bins, contests, corrupt_bins, end_bins, first_bins, gap_bins, is_rival, lane_bins, last_bins, latency_bins, mask_bins, of_found, older, overlap, bin_pair, operation_of, overtook_at, overtook_bins, place_bins, refused_bins, reply_bins, reply_part_bins, reply_times_bins, step_of, told_source, with_one}
use Rattle.check_coverage.specs.Flights.{InFlight, begun, end_of, flights_after, in_flight, is_counted, is_of, ends_an_ask, ends_a_reply, wide_at}
use Rattle.check_coverage.specs.Latest.{is_last_ask, latest_at}
use Rattle.check_coverage.specs.Times.{times_at}
use Rattle.check_coverage.specs.declared.times.Times.{Times}
use Rattle.check_bins.specs.declared.bin.CountedChannel.{CountedChannel}
use Rattle.check_bins.specs.declared.bin.CountedChannel.TheVariants as channel
use Rattle.check_coverage.specs.Mirrors.{mirrors_at}
use Rattle.check_coverage.specs.Shape.{shape_of}
use Rattle.check_coverage.specs.declared.ranges.RangePlace.{RangePlace}

abbrev AllUpTo64 : List Bin → Type 0
AllUpTo64 bins = AllByRecursion IsUpTo64 bins

pub both : (xs ys : List Bin) → AllUpTo64 xs → AllUpTo64 ys → AllUpTo64 (xs ++ ys)
both [] ys first second = second
both (x ∷ xs) ys first second = (first.0, both xs ys first.1 second)

up_to_64 : (flights : List InFlight) → (1 ≤ with_one flights) × (with_one flights ≤ 64)
up_to_64 flights = (omega arith, omega arith)

source_up : (source : ℕ) → told_source source ≤ 64
source_up source = omega arith

again_up : (rules : LinkRules) (flight : InFlight) (time : ℕ) (answered : Option ℕ)
    → AllUpTo64 (again rules flight time answered)
again_up rules flight time None = tt
again_up rules flight time (Some at) = (tt, tt)

begin_up : (rules : LinkRules) (flights : List InFlight) (flight : InFlight) (time : ℕ) (answered : Option ℕ)
    → AllUpTo64 (begin_bins rules flights flight time answered)
begin_up rules flights flight time answered =
    (up_to_64 _, (up_to_64 _, (source_up flight.source, again_up rules flight time answered)))

-- a bin that tells no such number, if it is there
if_up : (b : Bool) (x : Bin) → IsUpTo64 x → AllUpTo64 (if b then x ∷ [] else [])
if_up true x up = (up, tt)
if_up false x up = tt

place_up : (port : ℕ) (place : Option RangePlace) → AllUpTo64 (place_bins port place)
place_up port None = tt
place_up port (Some place) = (
  tt,
  both (if place.has_first then bin.Edge port place.number false ∷ [] else [])
      (if place.has_last then bin.Edge port place.number true ∷ [] else [])
      (if_up place.has_first (bin.Edge port place.number false) tt) (if_up place.has_last (bin.Edge port place.number true) tt),
)

ask_up : (plan : Plan) (bus : ℕ) (flights : List InFlight) (beat : AskHead) (flight : InFlight)
    → AllUpTo64 (ask_bins plan bus flights beat flight)
ask_up plan bus flights beat flight = (
  tt,
  (
    tt,
    both (mask_bins flight) (contested ++ (place ++ lane)) mask_up
        (both contested (place ++ lane) contested_up (both place lane (place_up flight.port flight.place) lane_up)),
  ),
)
  where
    contested : List Bin
    contested = contested_bins plan flights flight

    place : List Bin
    place = place_bins flight.port flight.place

    lane : List Bin
    lane = lane_bins bus flight

    mask_up : AllUpTo64 (mask_bins flight)
    mask_up = if_up (flight.first.opcode == 1)
        (bin.Mask (bin_pair flight) flight.first.size (shape_of flight.first.size flight.given)) tt

    contested_up : AllUpTo64 contested
    contested_up = if_up (list_any (contests (mirrors_at plan flight.port) flight) flights) (bin.Contested flight.port) tt

    lane_up : AllUpTo64 lane
    lane_up = if_up (nat_lt (2 ^ flight.first.size) bus)
        (bin.Lane flight.master flight.first.size (flight.first.address % bus)) tt

reply_up : (bus : ℕ) (flights : List InFlight) (beat : ReplyHead) (flight : InFlight)
    → AllUpTo64 (reply_bins bus flights beat flight)
reply_up bus flights beat flight = (
  tt,
  (
    tt,
    both (overtook_bins flights flight) (refused_bins beat.denied flight)
        (both (overtook_at false flights flight) (overtook_at true flights flight) (at false) (at true))
        (if_up beat.denied (bin.Refused flight.port (cause_of flight)) tt),
  ),
)
  where
    at : (elsewhere : Bool) → AllUpTo64 (overtook_at elsewhere flights flight)
    at elsewhere = if_up (list_any (is_rival elsewhere flight) (older flight flights)) (bin.Overtook (bin_pair flight) elsewhere) tt

found_up : (o : Option InFlight) (bins : InFlight → List Bin) → ((flight : InFlight) → AllUpTo64 (bins flight))
    → AllUpTo64 (of_found o bins)
found_up None bins up = tt
found_up (Some flight) bins up = up flight

gap_up : (rules : LinkRules) (way : CountedChannel) (time : ℕ) (before : Option ℕ) (flight : InFlight)
    → AllUpTo64 (gap_bins rules way time before flight)
gap_up rules way time None flight = tt
gap_up rules way time (Some at) flight = (tt, tt)

latency_up : (rules : LinkRules) (time : ℕ) (times : Times) (flight : InFlight)
    → AllUpTo64 (latency_bins rules time times flight)
latency_up rules time times flight = go (is_some times.replied)
  where
    go : (b : Bool)
        → AllUpTo64 (if b then [] else bin.Latency flight.port (step_of (clocks_in rules (time - times.began))) ∷ [])
    go true = tt
    go false = (tt, tt)

corrupt_up : (is_corrupt is_reply : Bool) (flight : InFlight) → AllUpTo64 (corrupt_bins is_corrupt is_reply flight)
corrupt_up is_corrupt is_reply flight =
    if_up is_corrupt (bin.Corrupt (bin_pair flight) (operation_of flight) is_reply) tt

module _ (plan : Plan) (bus wide : ℕ) (flights : List InFlight) (time : ℕ) (times : Times) (end : Ended) where
  beat_up : (beat : Beat) → AllUpTo64 (bins_by plan bus wide flights time times beat end)
  beat_up (A beat) =
      both (first_bins plan wide flights time times.answered beat) (last_bins plan bus wide after beat end ++ parts)
      (first (list_any (is_of wide) flights))
      (both (last_bins plan bus wide after beat end) parts (last (ends_an_ask end))
      (found_up (find (is_of wide) after) (ask_part_bins plan.layout.rules time times.asked beat.corrupt)
      (λ flight. both (gap_bins plan.layout.rules channel.A time times.asked flight) (corrupt_bins beat.corrupt false flight)
      (gap_up plan.layout.rules channel.A time times.asked flight) (corrupt_up beat.corrupt false flight))))
    where
      after : List InFlight
      after = flights_after plan bus wide flights (A beat) end

      parts : List Bin
      parts = of_found (find (is_of wide) after) (ask_part_bins plan.layout.rules time times.asked beat.corrupt)

      first : (b : Bool)
          → AllUpTo64 (if b then [] else begin_bins plan.layout.rules flights (begun plan wide beat) time times.answered)
      first true = tt
      first false = begin_up plan.layout.rules flights (begun plan wide beat) time times.answered

      last : (b : Bool) → AllUpTo64 (if b then of_found (find (is_of wide) after) (ask_bins plan bus after beat) else [])
      last true = found_up (find (is_of wide) after) (ask_bins plan bus after beat) (ask_up plan bus after beat)
      last false = tt
  beat_up (D beat) =
      both (end_bins bus wide flights beat end)
      (of_found (find (is_of wide) flights) (reply_part_bins plan.layout.rules time times (is_spoiled beat)))
      (go (ends_a_reply end))
      (found_up (find (is_of wide) flights) (reply_part_bins plan.layout.rules time times (is_spoiled beat))
      (λ flight. both (reply_times_bins plan.layout.rules time times flight) (corrupt_bins (is_spoiled beat) true flight)
      (both (latency_bins plan.layout.rules time times flight)
      (gap_bins plan.layout.rules channel.D time times.replied flight) (latency_up plan.layout.rules time times flight)
      (gap_up plan.layout.rules channel.D time times.replied flight)) (corrupt_up (is_spoiled beat) true flight)))
    where
      go : (b : Bool) → AllUpTo64 (if b then of_found (find (is_of wide) flights) (reply_bins bus flights beat) else [])
      go true = found_up (find (is_of wide) flights) (reply_bins bus flights beat) (reply_up bus flights beat)
      go false = tt

after_up : (plan : Plan) (wide : ℕ) (is_asked : Bool) (after : List InFlight) (before : ℕ → Option InFlight)
    → AllUpTo64 (after_bins plan wide is_asked after before)
after_up plan wide false after before = tt
after_up plan wide true after before =
    found_up (find (is_of wide) after) (λ flight. after_by (mirrors_at plan flight.port) flight (before flight.port))
    (λ flight. by flight (before flight.port))
  where
    by : (flight : InFlight) (latest : Option InFlight) → AllUpTo64 (after_by (mirrors_at plan flight.port) flight latest)
    by flight None = tt
    by flight (Some latest) = if_up (overlap (mirrors_at plan flight.port) flight.first latest.first)
        (bin.After flight.port (access_of latest.first.opcode) (access_of flight.first.opcode)) tt

pub all_up : (plan : Plan) (rows : List SeenRow) → AllByRecursion IsUpTo64 (bins plan rows)
all_up plan [] = tt
all_up plan (row ∷ before) =
    both (bins_of plan before row) (bins plan before) (go (is_counted plan.layout.links row.sighting.link))
    (all_up plan before)
  where
    own : ℕ
    own = wide_at plan row.sighting

    bus : ℕ
    bus = bus_of plan.layout row.sighting.link

    end : Ended
    end = end_of plan before row

    beat_bins : List Bin
    beat_bins = bins_by plan bus own (in_flight plan before) row.time (times_at plan before own) row.sighting.beat end

    later_bins : List Bin
    later_bins = after_bins plan own (is_last_ask row.sighting.beat end)
        (flights_after plan bus own (in_flight plan before) row.sighting.beat end) (λ port. latest_at plan before port)

    go : (b : Bool) → AllUpTo64 (if b then beat_bins ++ later_bins else [])
    go true = both beat_bins later_bins
        (beat_up plan bus own (in_flight plan before) row.time (times_at plan before own) end row.sighting.beat)
        (after_up plan own (is_last_ask row.sighting.beat end)
        (flights_after plan bus own (in_flight plan before) row.sighting.beat end) (λ port. latest_at plan before port))
    go false = tt
