-- The rows of what happens in a dump. This project's own.
use Rattle.std.specs.Prelude.{◌≡◌, ℕ, ◌+◌, ◌==◌, Bool, true, false, nat_lt, List, [], ◌∷◌, ◌++◌, length, map, Option, None, Some, option_map, Result, Ok, Err, ⊤, if◌then◌else◌}
use Rattle.check_vcd.specs.Body.{Happens, At, Sets, Resumes, Wrong}
use Rattle.check_vcd.specs.declared.body.Event.{Event}
use Rattle.check_vcd.specs.declared.body.Event.TheVariants as event
use Rattle.check_samples.specs.Digits.{set_extended, with_joined}
use Rattle.check_samples.specs.Domain.{Watched, unwatched}
use Rattle.check_samples.specs.EdgeFault.{some_crossed}
use Rattle.check_samples.specs.Edges.{needs_of, with_edge}
use Rattle.check_samples.specs.declared.channel.Channel.{Channel}
use Rattle.check_samples.specs.declared.edges.Edges.{Edges}
use Rattle.check_samples.specs.declared.edges.Needs.{Needs}
use Rattle.check_samples.specs.declared.sampler.SampleFault.{SampleFault}
use Rattle.check_samples.specs.declared.sampler.SampleFault.TheVariants.{Unknown, Gap, Memory}
use Rattle.check_samples.specs.declared.reset.WatchedReset.{WatchedReset}
use Rattle.check_samples.specs.declared.tap.Tap.{Tap}
use Rattle.check_samples.specs.Resets.{is_reset_due, reset_rows, unwatched_reset, watched_reset}
use Rattle.check_samples.specs.Rows.{Dues, Probes, Rows, and_then, has_edge, is_active, no_rows, rows_of, some_crosses, ticks}

-- the parts of values that are put together, and the channels; the values before the present time, with what is put
-- together of them; those at it, and how many bits each has; the present time; and of the times that are over: the domains,
-- each with what there was at its edges; and the reset of the whole system, if its resets are told
pub record Sampling : Type 0 where
  pub joins : List Tap
  pub channels : List Channel
  pub before : List (List ℕ)
  pub now : List (List ℕ)
  pub widths : List ℕ
  pub time : Option ℕ
  pub watched : List Watched
  pub resets : Option WatchedReset

-- before anything has happened, if this is looked at: with these values, and with those that count before the first time
abbrev pub sampling_by : Probes → List (List ℕ) → List (List ℕ) → List ℕ → Sampling
sampling_by probes before now widths = record {
  joins = probes.joins;
  channels = probes.channels;
  before = before;
  now = now;
  widths = widths;
  time = None;
  watched = map unwatched probes.domains;
  resets = option_map unwatched_reset probes.resets;
}

-- ---- what happens, one after the other

-- a value changes
abbrev pub with_value : Sampling → ℕ → List ℕ → Sampling
with_value s slot digits =
    if nat_lt slot (length s.now) then record s { now = set_extended s.widths s.now slot digits } else s

-- whether this is the present time
abbrev pub is_time : Option ℕ → ℕ → Bool
is_time None time = false
is_time (Some last) time = last == time

-- this is the present time.
abbrev pub is_at : Sampling → ℕ → Bool
is_at s time = is_time s.time time

-- what there was at the edges of the domain at a place, with that of the present time if its clock ticks at it, in a reset too
abbrev pub edges_at : ℕ → List (List ℕ) → List (List ℕ) → List Channel → Watched → Edges
edges_at place before now channels one =
    if ticks before now one.domain.clock
    then with_edge one.edges (is_active before one.domain.reset) (some_crosses place before channels)
    else one.edges

-- the same of domains, of which the first is at this place
abbrev pub watched_from : ℕ → List (List ℕ) → List (List ℕ) → List Channel → List Watched → List Watched
watched_from place before now channels [] = []
watched_from place before now channels (one ∷ watched) =
    record { domain = one.domain; edges = edges_at place before now channels one }
    ∷ watched_from (place + 1) before now channels watched

-- the domains with what there was at their edges, with the edges of the present time if there is one.
abbrev pub watched_when : Option ℕ → Sampling → List Watched
watched_when None s = s.watched
watched_when (Some time) s = watched_from 0 s.before s.now s.channels s.watched

-- the domains with what there was at their edges up to the present time.
abbrev pub watched_now : Sampling → List Watched
watched_now s = watched_when s.time s

-- whether the system's reset was active at the last edge, that of the present time among them
abbrev pub resets_when : Option ℕ → Sampling → Option WatchedReset
resets_when None s = s.resets
resets_when (Some time) s = option_map (watched_reset s.before s.now) s.resets

-- the system's reset, if its resets are told, and whether it was active at the last edge up to the present time.
abbrev pub resets_now : Sampling → Option WatchedReset
resets_now s = resets_when s.time s

-- a time begins, and the present one is over: what the values are, they were before it, and so was what is put together
abbrev pub at_time : Sampling → ℕ → Sampling
at_time s time =
    if is_at s time then s
    else record s {
      before = with_joined s.joins s.now;
      time = Some time;
      watched = watched_now s;
      resets = resets_now s;
    }

-- what is so after one thing that happens
abbrev pub behind : Happens → Sampling → Sampling
behind (At time) s = at_time s time
behind (Sets slot digits) s = with_value s slot digits
behind (Resumes line) s = s
behind (Wrong line mistake) s = s

-- what has to be known in a domain, if its clock has an edge outside of reset. That follows from the edges before
abbrev pub needs_due : List (List ℕ) → List (List ℕ) → Watched → Option Needs
needs_due before now one =
    if has_edge before now one.domain then Some (needs_of one.domain.reset one.edges) else None

-- what has to be known in each domain at the present time.
abbrev pub dues_of : List (List ℕ) → List (List ℕ) → List Watched → Dues
dues_of before now watched = map (needs_due before now) watched

-- the rows of beats at the present time: of the channels whose clock ticks at it, with the values that were before it
abbrev pub beat_rows : ℕ → Sampling → Rows
beat_rows time s = rows_of (dues_of s.before s.now s.watched) time s.before s.channels

-- the rows of the present time: first that of a reset of the whole system, if it has one
abbrev pub rows_when : Option ℕ → Sampling → Rows
rows_when None s = no_rows
rows_when (Some time) s =
    and_then (reset_rows time (is_reset_due s.before s.now s.watched s.resets)) (beat_rows time s)

-- the rows of the present time of these values; none before the first time.
abbrev pub rows_now : Sampling → Rows
rows_now s = rows_when s.time s

-- ---- whole dumps

-- the rows that are left to come of what happens: those of each time, with what has changed by its end. Where changes
-- were not told, a beat of an earlier time makes it a gap, which ends them
unfoldable pub rows_from : List Happens → Sampling → Rows
rows_from [] s = rows_now s
rows_from (At time ∷ happens) s =
    if is_at s time then rows_from happens s
    else and_then (rows_now s) (rows_from happens (at_time s time))
rows_from (Sets slot digits ∷ happens) s = rows_from happens (with_value s slot digits)
rows_from (Resumes line ∷ happens) s = if some_crossed s.watched then no_rows else rows_from happens s
rows_from (Wrong line mistake ∷ happens) s = no_rows

-- ---- what calls answer

-- where changes are told again after they were not, no beat had crossed; or else it is answered that there is a gap
abbrev pub IsJoined : Event → Sampling → Type 0
IsJoined (event.Time time) s = ⊤
IsJoined (event.Change slot) s = ⊤
IsJoined (event.Resume line) s = some_crossed s.watched ≡ false

-- what is answered after an event: that changes are told again is taken if no beat had crossed, and else there is a gap.
abbrev pub Joins : Result Unit SampleFault → Event → Sampling → Type 0
Joins (Ok done) next s = IsJoined next s
Joins (Err (Gap line)) next s = (next ≡ event.Resume line) × (some_crossed s.watched ≡ true)
Joins (Err (Unknown fault)) next s = ⊤
Joins (Err Memory) next s = ⊤

-- the rows that were to come are those that were appended and those that are left to come; or the first beat that is
-- none was met, after all rows before it; or there is a gap, before which none was due; unless memory ran out
abbrev pub LeadsToRows : Result Unit SampleFault → List ℕ → List ℕ → Rows → Rows → Type 0
LeadsToRows (Ok done) old new before left = (new ++ left.text ≡ old ++ before.text) × (left.fault ≡ before.fault)
LeadsToRows (Err (Unknown fault)) old new before left = (new ≡ old ++ before.text) × (before.fault ≡ Some fault)
LeadsToRows (Err (Gap line)) old new before left = new ≡ old
LeadsToRows (Err Memory) old new before left = Unit {0}
