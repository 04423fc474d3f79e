-- What is kept as one row more is judged.
use Rattle.std.proofs.Common.{◌≡◌, ◌∙◌, ℕ, ◌+◌, Bool, true, false, ◌&&◌, List, [], ◌∷◌, ◌++◌, Option, refl, ap, sym, arith, eqb-true, append_assoc, length}
use Rattle.std.specs.Prelude.{if◌then◌else◌, ◌==◌, map, codes, flat_map, option_map, unwrap_or, Result, Ok, Err, OnErr, OnOk}
use Rattle.std.specs.Ordering.{nat_cmp}
use Rattle.std.specs.BTreeMap.{IsEmpty, IsOrdered, is_at}
use Rattle.std.specs.Map.{lookup}
use Rattle.check_sides.specs.Plan.{Plan, bus_of}
use Rattle.check_rows.specs.Row.{SeenRow}
use Rattle.check_bins.specs.declared.bin.Bin.{Bin}
use Rattle.check_coverage.specs.declared.coverage.Coverage.{Coverage}
use Rattle.check_coverage.specs.Bins.{after_bins, bins, bins_by, bins_of}
use Rattle.check_coverage.specs.Flights.{InFlight, end_of, flights_after, in_flight, is_counted, kept, wide_at}
use Rattle.check_coverage.specs.Mirrors.{HaveSameMirrors, mirrors_in}
use Rattle.check_bins.specs.Counting.{bin_cmp, capped, count_of, how_often}
use Rattle.check_coverage.specs.View.{Covers, IsNoted, times_in}
use Rattle.check_coverage.specs.Latest.{is_last_ask, latest_at, latest_by}
use Rattle.check_coverage.specs.Times.{no_times, times_after, times_at}
use Rattle.check_coverage.specs.declared.times.Times.{Times}
use Rattle.check_bins.proofs.Counted.{how_often-append}

module _ (plan : Plan) (earlier : List Bin) (before : List SeenRow) (row : SeenRow) where
  abbrev flights_by : Bool → List InFlight
  flights_by counted =
      if counted
      then flights_after plan (bus_of plan.layout row.sighting.link) (wide_at plan row.sighting) (in_flight plan before)
      row.sighting.beat (end_of plan before row)
      else in_flight plan before

  abbrev times_by : ℕ → Bool → Times
  times_by wide counted =
      if counted && (wide_at plan row.sighting == wide)
      then times_after row.time row.sighting.beat (end_of plan before row) (times_at plan before wide)
      else times_at plan before wide

  -- those of the row's own source go on, and no others
  times_of : (wide : ℕ) (b : Bool) → (wide_at plan row.sighting == wide) ≡ b
      → (if b then times_after row.time row.sighting.beat (end_of plan before row) (times_at plan before (wide_at plan row.sighting))
      else times_at plan before wide)
      ≡ (if b then times_after row.time row.sighting.beat (end_of plan before row) (times_at plan before wide)
      else times_at plan before wide)
  times_of wide true is =
      ap (λ w. times_after row.time row.sighting.beat (end_of plan before row) (times_at plan before w))
      (eqb-true (wide_at plan row.sighting) wide is)
  times_of wide false is = refl

  abbrev bins_with : Bool → List Bin
  bins_with counted =
      if counted
      then bins_by plan (bus_of plan.layout row.sighting.link) (wide_at plan row.sighting) (in_flight plan before) row.time
      (times_at plan before (wide_at plan row.sighting)) row.sighting.beat (end_of plan before row)
      ++ after_bins plan (wide_at plan row.sighting) (is_last_ask row.sighting.beat (end_of plan before row))
      (flights_after plan (bus_of plan.layout row.sighting.link) (wide_at plan row.sighting) (in_flight plan before)
      row.sighting.beat (end_of plan before row)) (λ port. latest_at plan before port)
      else []

  abbrev latest_with : ℕ → Bool → Option InFlight
  latest_with port counted =
      if counted
      then latest_by (wide_at plan row.sighting) (is_last_ask row.sighting.beat (end_of plan before row))
      (flights_after plan (bus_of plan.layout row.sighting.link) (wide_at plan row.sighting) (in_flight plan before)
      row.sighting.beat (end_of plan before row)) (λ other. latest_at plan before other) port
      else latest_at plan before port

  -- nothing changes where the row is not counted
  pub covers_uncounted : (coverage : Coverage) → Covers plan earlier before coverage
      → is_counted plan.layout.links row.sighting.link ≡ false → Covers plan earlier (row ∷ before) coverage
  covers_uncounted coverage covers is = record {
    mirrors = covers.mirrors;
    flights = covers.flights ∙ ap (λ b. map kept (flights_by b)) (sym is);
    times = λ wide. covers.times wide ∙ ap (λ b. times_by wide b) (sym is);
    latest = λ port. covers.latest port ∙ ap (λ b. option_map kept (latest_with port b)) (sym is);
    counts = λ bin. covers.counts bin
        ∙ ap (λ b. capped (how_often bin ((bins_with b ++ bins plan before) ++ earlier))) (sym is);
  }

  -- else it is what was noted
  pub covers_counted : (old new : Coverage) (bus : ℕ) → Covers plan earlier before old
      → is_counted plan.layout.links row.sighting.link ≡ true → bus ≡ bus_of plan.layout row.sighting.link
      → IsNoted plan bus (wide_at plan row.sighting) row.time row.sighting.beat (end_of plan before row) old new
      → Covers plan earlier (row ∷ before) new
  covers_counted old new bus covers is is_bus noted = record {
    mirrors = λ port. ap (λ m. mirrors_in m.items port) noted.mirrors ∙ covers.mirrors port;
    flights = noted.flights (in_flight plan before) covers.flights
        ∙ ap (λ b. map kept (flights_after plan b (wide_at plan row.sighting) (in_flight plan before)
        row.sighting.beat (end_of plan before row))) is_bus
        ∙ ap (λ b. map kept (flights_by b)) (sym is);
    times = λ wide. noted.times wide
        ∙ (λ i. if wide_at plan row.sighting == wide
        then times_after row.time row.sighting.beat (end_of plan before row) (covers.times (wide_at plan row.sighting) i)
        else covers.times wide i)
        ∙ times_of wide (wide_at plan row.sighting == wide) refl
        ∙ ap (λ b. times_by wide b) (sym is);
    latest = λ port. noted.latest (in_flight plan before) covers.flights (λ other. latest_at plan before other) covers.latest port
        ∙ ap (λ b. option_map kept (latest_by (wide_at plan row.sighting)
        (is_last_ask row.sighting.beat (end_of plan before row))
        (flights_after plan b (wide_at plan row.sighting) (in_flight plan before) row.sighting.beat (end_of plan before row))
        (λ other. latest_at plan before other) port)) is_bus
        ∙ ap (λ b. option_map kept (latest_with port b)) (sym is);
    counts = λ bin.
        let wide = wide_at plan row.sighting in
        let now = in_flight plan before in
        let was = how_often bin (bins plan before ++ earlier) in
        let added = noted.counts now covers.flights (λ port. latest_at plan before port) covers.latest bin was (covers.counts bin) in
        let by : ℕ → Times → List Bin =
        λ (b : ℕ) (t : Times). bins_by plan b wide now row.time t row.sighting.beat (end_of plan before row)
        ++ after_bins plan wide (is_last_ask row.sighting.beat (end_of plan before row))
        (flights_after plan b wide now row.sighting.beat (end_of plan before row)) (λ port. latest_at plan before port) in
        let same : by bus (times_in old.times wide) ≡ bins_of plan before row =
        ap (λ t. by bus t) (covers.times wide)
        ∙ ap (λ b. by b (times_at plan before wide)) is_bus
        ∙ ap (λ b. bins_with b) (sym is) in
        let sum : was + how_often bin (bins_of plan before row) ≡ how_often bin (bins plan (row ∷ before) ++ earlier) =
        (let more = how_often-append bin (bins_of plan before row) (bins plan before ++ earlier) in
        let all = ap (how_often bin) (append_assoc (bins_of plan before row) (bins plan before) earlier) in
        omega (arith, more, all)) in
        added ∙ ap (λ l. capped (was + how_often bin l)) same ∙ ap capped sum;
  }

-- ---- a reset

-- nothing is in flight or answered any more, and counts go on
pub covers_reset : (plan later : Plan) (earlier : List Bin) (rows : List SeenRow) (old new : Coverage)
    → HaveSameMirrors plan later → Covers plan earlier rows old → new.mirrors ≡ old.mirrors → new.counts ≡ old.counts
    → new.flights.items ≡ [] → IsEmpty new.times → IsEmpty new.latest
    → Covers later (bins plan rows ++ earlier) [] new
covers_reset plan later earlier rows old new same covers mirrors counts flights times latest = record {
  mirrors = λ port. ap (λ m. mirrors_in m.items port) mirrors ∙ covers.mirrors port ∙ sym (same port);
  flights = flights;
  times = λ wide. ap (λ entries. unwrap_or (lookup (is_at (nat_cmp wide)) entries) no_times) times;
  latest = λ port. ap (λ entries. lookup (is_at (nat_cmp port)) entries) latest;
  counts = λ bin. ap (λ all. count_of all bin) counts ∙ covers.counts bin;
}
