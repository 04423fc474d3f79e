-- When the beats of the messages of a wide source crossed. Lists of rows have the latest first; they are rows of links that are
-- watched. This project's own.
use Rattle.std.specs.Prelude.{ℕ, ◌&&◌, ◌==◌, Bool, if◌then◌else◌, List, [], ◌∷◌, Some, None, is_some}
use Rattle.check_watch.specs.declared.beat.Beat.{Beat}
use Rattle.check_watch.specs.declared.beat.Beat.TheVariants.{A, D}
use Rattle.check_watch.specs.declared.seen.Ended.{Ended}
use Rattle.check_sides.specs.Plan.{Plan}
use Rattle.check_rows.specs.Row.{SeenRow}
use Rattle.check_coverage.specs.Flights.{end_of, ends_a_reply, ends_an_ask, is_counted, wide_at}
use Rattle.check_coverage.specs.declared.times.Times.{Times}

-- the times of a source of which no beat came
abbrev pub no_times : Times
no_times = record { began = 0; asked = None; replied = None; answered = None }

-- after one beat more of a request, which ends it or not: it is the first one if no beat of an unfinished request came before
abbrev pub times_asked : ℕ → Bool → Times → Times
times_asked time is_whole times = record times {
  began = if is_some times.asked then times.began else time;
  asked = if is_whole then None else Some time;
}

-- after one beat more of a reply, which ends it or not
abbrev pub times_replied : ℕ → Bool → Times → Times
times_replied time is_whole times = record times {
  replied = if is_whole then None else Some time;
  answered = if is_whole then Some time else times.answered;
}

-- after one beat more, which ends this
abbrev pub times_after : ℕ → Beat → Ended → Times → Times
times_after time (A beat) end times = times_asked time (ends_an_ask end) times
times_after time (D beat) end times = times_replied time (ends_a_reply end) times

-- those of a wide source after some rows
abbrev pub times_at : Plan → List SeenRow → ℕ → Times
times_at plan [] wide = no_times
times_at plan (row ∷ before) wide =
    if is_counted plan.layout.links row.sighting.link && (wide_at plan row.sighting == wide)
    then times_after row.time row.sighting.beat (end_of plan before row) (times_at plan before wide)
    else times_at plan before wide
