-- Which bins a row adds after the rows before it. Lists of rows have the latest first; they are rows of links that are
-- watched. This project's own.
use Rattle.std.specs.Prelude.{ℕ, ◌+◌, ◌-◌, ◌%◌, ◌^◌, ◌≤◌, ◌&&◌, ◌||◌, ◌==◌, Bool, false, true, not, nat_lt, min, if◌then◌else◌, List, [], ◌∷◌, ◌++◌, length, filter, find, take_while, Option, Some, None, is_some}
use Rattle.std.specs.Bool.{beq}
use Rattle.std.specs.List.{list_any}
use Rattle.check_beats.specs.Message.{ask_beats, is_spoiled, reply_beats}
use Rattle.check_beats.specs.Rules.{clocks_in}
use Rattle.check_beats.specs.declared.rules.LinkRules.{LinkRules}
use Rattle.check_beats.specs.declared.beat.AskHead.{AskHead}
use Rattle.check_beats.specs.declared.beat.ReplyHead.{ReplyHead}
use Rattle.check_watch.specs.declared.beat.Beat.{Beat}
use Rattle.check_watch.specs.declared.beat.Beat.TheVariants.{A, D}
use Rattle.check_watch.specs.declared.seen.Ended.{Ended}
use Rattle.check_sides.specs.Plan.{Plan, bus_of}
use Rattle.check_rows.specs.Row.{SeenRow}
use Rattle.check_bins.specs.declared.bin.Bin.{Bin}
use Rattle.check_bins.specs.declared.bin.Bin.TheVariants as bin
use Rattle.check_bins.specs.declared.bin.CountedChannel.TheVariants as channel
use Rattle.check_bins.specs.declared.bin.Access.{Access}
use Rattle.check_bins.specs.declared.bin.Access.TheVariants as access
use Rattle.check_bins.specs.declared.bin.Cause.{Cause}
use Rattle.check_bins.specs.declared.bin.Cause.TheVariants as cause
use Rattle.check_bins.specs.declared.bin.Operation.{Operation}
use Rattle.check_bins.specs.declared.bin.Pair.{Pair}
use Rattle.check_coverage.specs.Flights.{InFlight, begun, end_of, flights_after, in_flight, is_counted, is_of, is_unaligned, ends_an_ask, ends_a_reply, wide_at}
use Rattle.check_coverage.specs.Latest.{is_last_ask, latest_at}
use Rattle.check_coverage.specs.Times.{times_at}
use Rattle.check_coverage.specs.declared.times.Times.{Times}
use Rattle.check_bins.specs.declared.bin.CountedChannel.{CountedChannel}
use Rattle.check_coverage.specs.Mirrors.{MirrorsView, mirrors_at, place_of}
use Rattle.check_coverage.specs.Shape.{shape_of}
use Rattle.check_coverage.specs.declared.ranges.RangePlace.{RangePlace}

-- ---- a request begins

-- the request is of this master
abbrev pub is_of_master : ℕ → InFlight → Bool
is_of_master master flight = flight.master == master

-- the request goes to this port
abbrev pub is_of_port : ℕ → InFlight → Bool
is_of_port port flight = flight.port == port

-- how many are in flight with one more; 64 is 64 or more
abbrev pub with_one : List InFlight → ℕ
with_one flights = min (length flights + 1) 64

-- a source of a master; 64 is 64 or more
abbrev pub told_source : ℕ → ℕ
told_source source = min source 64

-- the least of the step that so many clocks are in: 0, 1, 2, 3, 4, 8, 16
abbrev pub step_of : ℕ → ℕ
step_of clocks = if nat_lt clocks 4 then clocks else if nat_lt clocks 8 then 4 else if nat_lt clocks 16 then 8 else 16

-- a request at this time, whose source's last reply ended then
abbrev pub again : LinkRules → InFlight → ℕ → Option ℕ → List Bin
again rules flight time None = []
again rules flight time (Some answered) = bin.Again flight.master (step_of (clocks_in rules (time - answered))) ∷ []

-- what the first beat of a request adds, when these are in flight before it
abbrev pub begin_bins : LinkRules → List InFlight → InFlight → ℕ → Option ℕ → List Bin
begin_bins rules flights flight time answered =
    bin.InFlight flight.master (with_one (filter (is_of_master flight.master) flights))
    ∷ bin.AtPort flight.port (with_one (filter (is_of_port flight.port) flights))
    ∷ bin.Source flight.master (told_source flight.source)
    ∷ again rules flight time answered

-- ---- a request is whole

-- the master and the port of a request
abbrev pub bin_pair : InFlight → Pair
bin_pair flight = record { master = flight.master; port = flight.port }

-- the operation and the size of a request
abbrev pub operation_of : InFlight → Operation
operation_of flight = record { opcode = flight.first.opcode; param = flight.first.param; size = flight.first.size }

-- opcodes 0 to 3 carry bytes to write
abbrev pub writes : AskHead → Bool
writes beat = nat_lt beat.opcode 4

-- the requests have a byte in common: their windows overlap where the memory has them
abbrev pub overlap : MirrorsView → AskHead → AskHead → Bool
overlap mirrors one other =
    nat_lt (place_of mirrors one) (place_of mirrors other + 2 ^ other.size)
    && nat_lt (place_of mirrors other) (place_of mirrors one + 2 ^ one.size)

-- they have, and one of them writes
abbrev pub meets : MirrorsView → AskHead → AskHead → Bool
meets mirrors one other = overlap mirrors one other && (writes one || writes other)

-- another request of the same port, which is whole, meets this one; the memory of the port is seen from here
abbrev pub contests : MirrorsView → InFlight → InFlight → Bool
contests mirrors flight other =
    (not (is_of flight.wide other) && is_of_port flight.port other)
    && (other.is_whole && meets mirrors flight.first other.first)

-- a partial put gives bytes
abbrev pub mask_bins : InFlight → List Bin
mask_bins flight =
    if flight.first.opcode == 1
    then bin.Mask (bin_pair flight) flight.first.size (shape_of flight.first.size flight.given) ∷ []
    else []

-- a request that meets another one of its port
abbrev pub contested_bins : Plan → List InFlight → InFlight → List Bin
contested_bins plan flights flight =
    if list_any (contests (mirrors_at plan flight.port) flight) flights then bin.Contested flight.port ∷ [] else []

-- which range of a port has a request, if one has, and which ends of the range the request has
abbrev pub place_bins : ℕ → Option RangePlace → List Bin
place_bins port None = []
place_bins port (Some place) =
    bin.Range port place.number
    ∷ ((if place.has_first then bin.Edge port place.number false ∷ [] else [])
    ++ (if place.has_last then bin.Edge port place.number true ∷ [] else []))

-- a request that is narrower than a bus of so many bytes, by the place of its address in a word of the bus
abbrev pub lane_bins : ℕ → InFlight → List Bin
lane_bins bus flight =
    if nat_lt (2 ^ flight.first.size) bus
    then bin.Lane flight.master flight.first.size (flight.first.address % bus) ∷ []
    else []

-- what the last beat of a request adds on a bus of so many bytes, when these are in flight, and it is one of them
abbrev pub ask_bins : Plan → ℕ → List InFlight → AskHead → InFlight → List Bin
ask_bins plan bus flights beat flight =
    bin.Asked (bin_pair flight) (operation_of flight) (is_unaligned flight.first)
    ∷ bin.Beats (bin_pair flight) channel.A (ask_beats bus beat)
    ∷ (mask_bins flight
    ++ (contested_bins plan flights flight ++ (place_bins flight.port flight.place ++ lane_bins bus flight)))

-- ---- a reply is whole

-- by whether decoders find a port, whether the address is no multiple of the size, and the place in the port that it goes to
abbrev pub cause_by : Bool → Bool → Option RangePlace → Cause
cause_by is_found is_unaligned None = if is_found then cause.NoPath else cause.Nowhere
cause_by is_found is_unaligned (Some place) =
    if is_unaligned then cause.Unaligned else if place.is_within then cause.Unserved else cause.Beyond

-- those that began before a request
abbrev pub older : InFlight → List InFlight → List InFlight
older flight flights = take_while (λ other. not (is_of flight.wide other)) flights

-- one of the same master, which goes to another port if that is asked, else to the same
abbrev pub is_rival : Bool → InFlight → InFlight → Bool
is_rival elsewhere flight other =
    is_of_master flight.master other && beq (not (is_of_port flight.port other)) elsewhere

-- there is an older one of these
abbrev pub overtook_at : Bool → List InFlight → InFlight → List Bin
overtook_at elsewhere flights flight =
    if list_any (is_rival elsewhere flight) (older flight flights)
    then bin.Overtook (bin_pair flight) elsewhere ∷ []
    else []

-- a reply that ends before that of an older request of its master, of the same port or of another
abbrev pub overtook_bins : List InFlight → InFlight → List Bin
overtook_bins flights flight = overtook_at false flights flight ++ overtook_at true flights flight

-- why a request is denied, if it is: one that goes to a port that decoders find has a place there
abbrev pub cause_of : InFlight → Cause
cause_of flight = cause_by flight.is_found (is_unaligned flight.first) flight.place

-- what a reply adds that is denied
abbrev pub refused_bins : Bool → InFlight → List Bin
refused_bins is_denied flight = if is_denied then bin.Refused flight.port (cause_of flight) ∷ [] else []

-- what the last beat of a reply adds on a bus of so many bytes, when these are in flight, and it answers this one
abbrev pub reply_bins : ℕ → List InFlight → ReplyHead → InFlight → List Bin
reply_bins bus flights beat flight =
    bin.Answered (bin_pair flight) (operation_of flight) beat.denied
    ∷ bin.Beats (bin_pair flight) channel.D (reply_beats bus beat)
    ∷ (overtook_bins flights flight ++ refused_bins beat.denied flight)

-- ---- a request beside the one before it at its port

-- what a request of this opcode does to its bytes
abbrev pub access_of : ℕ → Access
access_of opcode =
    if nat_lt opcode 2 then access.Write
    else if nat_lt opcode 4 then access.Atomic
    else if opcode == 4 then access.Read
    else access.Hint

-- it has a byte in common with that one: the memory of the port is seen from here
abbrev pub after_by : MirrorsView → InFlight → Option InFlight → List Bin
after_by mirrors flight None = []
after_by mirrors flight (Some latest) =
    if overlap mirrors flight.first latest.first
    then bin.After flight.port (access_of latest.first.opcode) (access_of flight.first.opcode) ∷ []
    else []

-- ---- beats by the time since others

-- a beat of a message, if one of the same message came before, by the clocks since then
abbrev pub gap_bins : LinkRules → CountedChannel → ℕ → Option ℕ → InFlight → List Bin
gap_bins rules way time None flight = []
gap_bins rules way time (Some at) flight = bin.Gap (bin_pair flight) way (step_of (clocks_in rules (time - at))) ∷ []

-- the first beat of a reply, by the clocks since that of its request
abbrev pub latency_bins : LinkRules → ℕ → Times → InFlight → List Bin
latency_bins rules time times flight =
    if is_some times.replied then [] else bin.Latency flight.port (step_of (clocks_in rules (time - times.began))) ∷ []

-- what a beat of a reply adds by its time
abbrev pub reply_times_bins : LinkRules → ℕ → Times → InFlight → List Bin
reply_times_bins rules time times flight =
    latency_bins rules time times flight ++ gap_bins rules channel.D time times.replied flight

-- a corrupt beat, by the operation and the size of its request, and whether it is one of the reply
abbrev pub corrupt_bins : Bool → Bool → InFlight → List Bin
corrupt_bins is_corrupt is_reply flight =
    if is_corrupt then bin.Corrupt (bin_pair flight) (operation_of flight) is_reply ∷ [] else []

-- what each beat of a request adds, corrupt or not
abbrev pub ask_part_bins : LinkRules → ℕ → Option ℕ → Bool → InFlight → List Bin
ask_part_bins rules time asked is_corrupt flight =
    gap_bins rules channel.A time asked flight ++ corrupt_bins is_corrupt false flight

-- what each beat of a reply adds, corrupt or not
abbrev pub reply_part_bins : LinkRules → ℕ → Times → Bool → InFlight → List Bin
reply_part_bins rules time times is_corrupt flight =
    reply_times_bins rules time times flight ++ corrupt_bins is_corrupt true flight

-- ---- rows

-- what is said of the request that was found
abbrev pub of_found : Option InFlight → (InFlight → List Bin) → List Bin
of_found None bins = []
of_found (Some flight) bins = bins flight

-- what a beat of channel A adds as the first one of a request, when these are in flight before it
abbrev pub first_bins : Plan → ℕ → List InFlight → ℕ → Option ℕ → AskHead → List Bin
first_bins plan wide flights time answered beat =
    if list_any (is_of wide) flights then [] else begin_bins plan.layout.rules flights (begun plan wide beat) time answered

-- what it adds as the last one, when these are in flight after it
abbrev pub last_bins : Plan → ℕ → ℕ → List InFlight → AskHead → Ended → List Bin
last_bins plan bus wide flights beat end =
    if ends_an_ask end then of_found (find (is_of wide) flights) (ask_bins plan bus flights beat) else []

-- what a beat of channel D adds as the last one of a reply, when these are in flight before it
abbrev pub end_bins : ℕ → ℕ → List InFlight → ReplyHead → Ended → List Bin
end_bins bus wide flights beat end =
    if ends_a_reply end then of_found (find (is_of wide) flights) (reply_bins bus flights beat) else []

-- what one beat more adds when these are in flight before it, and the messages of its source have these times
abbrev pub bins_by : Plan → ℕ → ℕ → List InFlight → ℕ → Times → Beat → Ended → List Bin
bins_by plan bus wide flights time times (A beat) end =
    first_bins plan wide flights time times.answered beat
    ++ (last_bins plan bus wide (flights_after plan bus wide flights (A beat) end) beat end
    ++ of_found (find (is_of wide) (flights_after plan bus wide flights (A beat) end))
    (ask_part_bins plan.layout.rules time times.asked beat.corrupt))
bins_by plan bus wide flights time times (D beat) end =
    end_bins bus wide flights beat end
    ++ of_found (find (is_of wide) flights) (reply_part_bins plan.layout.rules time times (is_spoiled beat))

-- what the last beat of a request adds by the latest request of its port before it, when these are in flight after it
abbrev pub after_bins : Plan → ℕ → Bool → List InFlight → (ℕ → Option InFlight) → List Bin
after_bins plan wide is_asked after before =
    if is_asked
    then of_found (find (is_of wide) after) (λ flight. after_by (mirrors_at plan flight.port) flight (before flight.port))
    else []

-- what a row adds after the rows before it
abbrev pub bins_of : Plan → List SeenRow → SeenRow → List Bin
bins_of plan before row =
    if is_counted plan.layout.links row.sighting.link
    then bins_by plan (bus_of plan.layout row.sighting.link) (wide_at plan row.sighting) (in_flight plan before) row.time
    (times_at plan before (wide_at plan row.sighting)) row.sighting.beat (end_of plan before row)
    ++ after_bins plan (wide_at plan row.sighting) (is_last_ask row.sighting.beat (end_of plan before row))
    (flights_after plan (bus_of plan.layout row.sighting.link) (wide_at plan row.sighting) (in_flight plan before)
    row.sighting.beat (end_of plan before row)) (λ port. latest_at plan before port)
    else []

-- what all rows add
abbrev pub bins : Plan → List SeenRow → List Bin
bins plan [] = []
bins plan (row ∷ before) = bins_of plan before row ++ bins plan before

-- ---- numbers of requests in flight, and of sources

-- the number of requests in flight that a bin tells, if it tells one, is at least 1 and at most 64; so is a source, from 0 on
abbrev pub IsUpTo64 : Bin → Type 0
IsUpTo64 (bin.InFlight master requests) = (1 ≤ requests) × (requests ≤ 64)
IsUpTo64 (bin.AtPort port requests) = (1 ≤ requests) × (requests ≤ 64)
IsUpTo64 (bin.Asked pair operation is_unaligned) = Unit {0}
IsUpTo64 (bin.Answered pair operation is_denied) = Unit {0}
IsUpTo64 (bin.Beats pair channel beats) = Unit {0}
IsUpTo64 (bin.Mask pair size shape) = Unit {0}
IsUpTo64 (bin.Overtook pair elsewhere) = Unit {0}
IsUpTo64 (bin.Again master least) = Unit {0}
IsUpTo64 (bin.Contested port) = Unit {0}
IsUpTo64 (bin.Source master source) = source ≤ 64
IsUpTo64 (bin.Range port number) = Unit {0}
IsUpTo64 (bin.Edge port number is_last) = Unit {0}
IsUpTo64 (bin.Latency port least) = Unit {0}
IsUpTo64 (bin.Gap pair way least) = Unit {0}
IsUpTo64 (bin.Refused port why) = Unit {0}
IsUpTo64 (bin.Lane master size offset) = Unit {0}
IsUpTo64 (bin.After port before here) = Unit {0}
IsUpTo64 (bin.Corrupt pair operation is_reply) = Unit {0}
