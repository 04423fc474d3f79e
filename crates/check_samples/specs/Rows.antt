-- The rows of a time: those of the beats that cross at an edge of the clock. This project's own.
use Rattle.std.specs.Prelude.{◌≡◌, ℕ, ◌==◌, ◌&&◌, Bool, false, not, List, [], ◌∷◌, ◌++◌, codes, map, Option, None, Some, option_and_then, slice_get, Result, Ok, Err, if◌then◌else◌}
use Rattle.std.specs.List.{list_any}
use Rattle.std.specs.Str.{bytes_eq}
use Rattle.tl_text.specs.Reading.{◌>>=◌}
use Rattle.check_samples.specs.Digits.{bits_of}
use Rattle.check_samples.specs.Domain.{Domain, domain_view}
use Rattle.check_samples.specs.Row.{ask_text, cells_of_ask, cells_of_reply, reply_text}
use Rattle.check_samples.specs.declared.channel.BeatTaps.{BeatTaps}
use Rattle.check_samples.specs.declared.channel.BeatTaps.TheVariants.{A, D}
use Rattle.check_samples.specs.declared.channel.Channel.{Channel}
use Rattle.check_samples.specs.declared.channel.UnknownBit.{UnknownBit}
use Rattle.check_samples.specs.declared.clock.Clock.{Clock}
use Rattle.check_samples.specs.declared.clock.Edge.{Edge}
use Rattle.check_samples.specs.declared.clock.Edge.TheVariants.{Rising, Falling}
use Rattle.check_samples.specs.declared.sampler.Probes as code_probes
use Rattle.check_samples.specs.declared.edges.Needs.{Needs}
use Rattle.check_samples.specs.declared.reset.Reset.{Reset}
use Rattle.check_samples.specs.declared.reset.SystemReset.{SystemReset}
use Rattle.check_samples.specs.declared.sampler.SampleFault.{SampleFault}
use Rattle.check_samples.specs.declared.sampler.SampleFault.TheVariants.{Unknown, Gap, Memory}
use Rattle.check_samples.specs.declared.signal.Signal.{Signal}
use Rattle.check_samples.specs.declared.signal.Signal.TheVariants as signal
use Rattle.check_samples.specs.declared.tap.Tap.{Tap}

-- a signal of one bit is 1.
abbrev pub is_one : List ℕ → Bool
is_one bits = bytes_eq bits (codes "1")

-- a signal of one bit is 0.
abbrev pub is_zero : List ℕ → Bool
is_zero bits = bytes_eq bits (codes "0")

-- valid and ready are both 1
abbrev pub crosses : List (List ℕ) → Channel → Bool
crosses values channel = is_one (bits_of values channel.valid) && is_one (bits_of values channel.ready)

-- a bit is neither 0 nor 1
abbrev pub is_unsure : List ℕ → Bool
is_unsure bits = not (is_zero bits) && not (is_one bits)

-- they are of some channel of the domain at this place
abbrev pub some_crosses : ℕ → List (List ℕ) → List Channel → Bool
some_crosses place values channels = list_any (λ channel. (channel.domain == place) && crosses values channel) channels

-- the row of a channel's beat, or the first of its signals, data aside, with an unknown bit
abbrev pub row_by : BeatTaps → ℕ → List (List ℕ) → Channel → Result (List ℕ) Signal
row_by (A taps) time values channel =
    cells_of_ask values taps
    >>= (λ cells. Ok (ask_text time channel.link cells (bits_of values taps.mask) (bits_of values taps.data)))
row_by (D taps) time values channel =
    cells_of_reply values taps
    >>= (λ cells. Ok (reply_text time channel.link cells (bits_of values taps.data)))

-- the row of a channel's beat at a time, or the first of its signals, data aside, with an unknown bit.
abbrev pub row_at : ℕ → List (List ℕ) → Channel → Result (List ℕ) Signal
row_at time values channel = row_by channel.beat time values channel

-- rows, and the beat that is none, if there is one: it ends them
pub record Rows : Type 0 where
  pub text : List ℕ
  pub fault : Option UnknownBit

-- no rows, and no beat that is none.
abbrev pub no_rows : Rows
no_rows = record { text = []; fault = None }

-- rows, and then others, unless the first have a beat that is none
abbrev pub followed_by : Option UnknownBit → List ℕ → Rows → Rows
followed_by None text others = record { text = text ++ others.text; fault = others.fault }
followed_by (Some fault) text others = record { text = text; fault = Some fault }

-- rows and then others, unless a beat that is none ends the first.
abbrev pub and_then : Rows → Rows → Rows
and_then rows others = followed_by rows.fault rows.text others

-- the row of a channel, if there is one
abbrev pub row_alone : ℕ → Channel → Result (List ℕ) Signal → Rows
row_alone time channel (Ok row) = record { text = row; fault = None }
row_alone time channel (Err which) =
    record { text = []; fault = Some (record { time = time; link = channel.link; signal = which }) }

-- the signal that says whether a channel has a beat.
abbrev pub valid_of : BeatTaps → Signal
valid_of (A taps) = signal.AValid
valid_of (D taps) = signal.DValid

-- the signal that says whether a channel's beat is taken.
abbrev pub ready_of : BeatTaps → Signal
ready_of (A taps) = signal.AReady
ready_of (D taps) = signal.DReady

-- the one that has to be known and is not, if there is one: valid; or ready, while valid is 1
abbrev pub unknown_hand : Needs → List (List ℕ) → Channel → Option Signal
unknown_hand needs values channel =
    if needs.valid && is_unsure (bits_of values channel.valid) then Some (valid_of channel.beat)
    else if needs.ready && (is_one (bits_of values channel.valid) && is_unsure (bits_of values channel.ready))
    then Some (ready_of channel.beat)
    else None

-- such a signal ends the rows, as a beat that is none does
abbrev pub hand_alone : ℕ → Channel → Option Signal → Rows
hand_alone time channel None = no_rows
hand_alone time channel (Some which) =
    record { text = []; fault = Some (record { time = time; link = channel.link; signal = which }) }

-- the row of a channel, if a beat crosses; or what ends the rows, if a signal of its handshake has to be known and is
-- not.
abbrev pub rows_at : Needs → ℕ → List (List ℕ) → Channel → Rows
rows_at needs time values channel =
    if crosses values channel then row_alone time channel (row_at time values channel)
    else hand_alone time channel (unknown_hand needs values channel)

-- for each domain what has to be known at a time, if its clock has an edge then outside of reset.
abbrev pub Dues : Type 0
Dues = List (Option Needs)

-- what has to be known in the domain at a place; none if nothing is due there.
abbrev pub due_at : Dues → ℕ → Option Needs
due_at dues place = option_and_then (λ due. due) (slice_get dues place)

-- the rows of a channel, if its clock has such an edge
abbrev pub rows_due : Option Needs → ℕ → List (List ℕ) → Channel → Rows
rows_due None time values channel = no_rows
rows_due (Some needs) time values channel = rows_at needs time values channel

-- the rows of the channels, in their order
abbrev pub rows_of : Dues → ℕ → List (List ℕ) → List Channel → Rows
rows_of dues time values [] = no_rows
rows_of dues time values (channel ∷ channels) =
    and_then (rows_due (due_at dues channel.domain) time values channel) (rows_of dues time values channels)

-- ---- the edges

-- what is looked at: the domains, the system's clock and reset if resets of the whole system are told, the parts of values that
-- are put together, and the channels in the order in which their beats cross. Each channel has the domain at its place
pub record Probes : Type 0 where
  pub domains : List Domain
  pub resets : Option SystemReset
  pub joins : List Tap
  pub channels : List Channel

-- a reset is active, by the bit that makes it so; one that is unknown is not
abbrev pub is_active : List (List ℕ) → Option Reset → Bool
is_active values None = false
is_active values (Some reset) =
    if reset.is_low then is_zero (bits_of values reset.tap) else is_one (bits_of values reset.tap)

-- the bit that a clock is before its edge.
abbrev pub is_early : Edge → List ℕ → Bool
is_early Rising bits = is_zero bits
is_early Falling bits = is_one bits

-- the bit that a clock is from its edge on.
abbrev pub is_late : Edge → List ℕ → Bool
is_late Rising bits = is_one bits
is_late Falling bits = is_zero bits

-- the clock was the one before the present time and is the other: it rises or falls
abbrev pub ticks : List (List ℕ) → List (List ℕ) → Clock → Bool
ticks before now clock = is_early clock.edge (bits_of before clock.tap) && is_late clock.edge (bits_of now clock.tap)

-- the clock of a domain ticks, and its reset was not active
abbrev pub has_edge : List (List ℕ) → List (List ℕ) → Domain → Bool
has_edge before now domain = ticks before now domain.clock && not (is_active before domain.reset)

-- ---- what calls answer

-- the row was appended, or there is none and nothing was
abbrev pub Appended : List ℕ → List ℕ → Result (List ℕ) Signal → Option Signal → Type 0
Appended old new (Ok row) None = new ≡ old ++ row
Appended old new (Ok row) (Some which) = ⊥
Appended old new (Err first) None = ⊥
Appended old new (Err first) (Some which) = (new ≡ old) × (first ≡ which)

-- the rows were appended, up to the beat that is none; unless memory ran out
abbrev pub Writes : Result Unit SampleFault → List ℕ → List ℕ → Rows → Type 0
Writes (Ok done) old new rows = (new ≡ old ++ rows.text) × (rows.fault ≡ None)
Writes (Err (Unknown fault)) old new rows = (new ≡ old ++ rows.text) × (rows.fault ≡ Some fault)
Writes (Err (Gap line)) old new rows = ⊥
Writes (Err Memory) old new rows = Unit {0}

-- what contracts see of what is looked at.
abbrev pub view_of : code_probes.Probes → Probes
view_of probes = record {
  domains = map domain_view probes.domains.items;
  resets = probes.resets;
  joins = probes.joins.items;
  channels = probes.channels.items;
}
