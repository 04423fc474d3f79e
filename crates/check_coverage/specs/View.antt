-- What is kept of the rows that were judged. This project's own.
use Rattle.std.specs.Prelude.{◌≡◌, ℕ, ◌==◌, if◌then◌else◌, List, ◌++◌, map, Option, option_map, unwrap_or}
use Rattle.std.specs.Ordering.{nat_cmp}
use Rattle.std.specs.BTreeMap.{BTreeMap, get}
use Rattle.check_watch.specs.declared.beat.Beat.{Beat}
use Rattle.check_watch.specs.declared.seen.Ended.{Ended}
use Rattle.check_sides.specs.Plan.{Plan}
use Rattle.check_rows.specs.Row.{SeenRow}
use Rattle.check_coverage.specs.Bins.{after_bins, bins, bins_by}
use Rattle.check_coverage.specs.Flights.{InFlight, flights_after, in_flight, kept}
use Rattle.check_coverage.specs.Mirrors.{HasMirrors}
use Rattle.check_coverage.specs.Latest.{is_last_ask, latest_at, latest_by}
use Rattle.check_coverage.specs.Times.{no_times, times_after, times_at}
use Rattle.check_coverage.specs.declared.times.Times.{Times}
use Rattle.check_bins.specs.declared.bin.Bin.{Bin}
use Rattle.check_bins.specs.Counting.{Adds, AreCounted}
use Rattle.check_coverage.specs.declared.coverage.Coverage.{Coverage}

-- the times that are kept of a wide source
abbrev pub times_in : BTreeMap ℕ Times → ℕ → Times
times_in times wide = unwrap_or (get nat_cmp times wide) no_times

-- one beat more was counted, of a wide source and at a link that is counted: its bus has so many bytes, the messages of its
-- source have these times, and it ends this. The times are kept as they were
pub record CountsBeat (plan : Plan) (bus wide time : ℕ) (times : Times) (beat : Beat) (end : Ended)
    (old new : Coverage) : Type 0 where
  pub mirrors : new.mirrors ≡ old.mirrors
  pub times_stay : new.times ≡ old.times
  pub latest_stays : new.latest ≡ old.latest
  pub flights : (before : List InFlight) → old.flights.items ≡ map kept before
      → new.flights.items ≡ map kept (flights_after plan bus wide before beat end)
  pub counts : (before : List InFlight) → old.flights.items ≡ map kept before
      → Adds old.counts new.counts (bins_by plan bus wide before time times beat end)

-- it was noted: the times and the latest requests go on too
pub record IsNoted (plan : Plan) (bus wide time : ℕ) (beat : Beat) (end : Ended) (old new : Coverage) : Type 0 where
  pub mirrors : new.mirrors ≡ old.mirrors
  pub times : (other : ℕ) → times_in new.times other
      ≡ (if wide == other then times_after time beat end (times_in old.times wide) else times_in old.times other)
  pub flights : (before : List InFlight) → old.flights.items ≡ map kept before
      → new.flights.items ≡ map kept (flights_after plan bus wide before beat end)
  pub counts : (before : List InFlight) → old.flights.items ≡ map kept before
      → (latest : ℕ → Option InFlight)
      → ((port : ℕ) → get nat_cmp old.latest port ≡ option_map kept (latest port))
      → Adds old.counts new.counts (bins_by plan bus wide before time (times_in old.times wide) beat end
      ++ after_bins plan wide (is_last_ask beat end) (flights_after plan bus wide before beat end) latest)
  pub latest : (before : List InFlight) → old.flights.items ≡ map kept before → (latest : ℕ → Option InFlight)
      → ((port : ℕ) → get nat_cmp old.latest port ≡ option_map kept (latest port)) → (port : ℕ)
      → get nat_cmp new.latest port ≡ option_map kept
      (latest_by wide (is_last_ask beat end) (flights_after plan bus wide before beat end) latest port)

-- this is what is kept of the rows since the last reset, before which these bins were added: from where the memories of
-- the ports are seen, which requests are in flight after the rows, when the beats of each source crossed,
-- which request of each port is the latest, and of each bin how often it was added before the reset and by the rows, up to 2 ^ 64 - 1
pub record Covers (plan : Plan) (earlier : List Bin) (rows : List SeenRow) (coverage : Coverage) : Type 0 where
  pub mirrors : HasMirrors plan coverage.mirrors.items
  pub flights : coverage.flights.items ≡ map kept (in_flight plan rows)
  pub times : (wide : ℕ) → times_in coverage.times wide ≡ times_at plan rows wide
  pub latest : (port : ℕ) → get nat_cmp coverage.latest port ≡ option_map kept (latest_at plan rows port)
  pub counts : AreCounted coverage.counts (bins plan rows ++ earlier)
