-- What is kept as one beat more is noted.
use Rattle.std.proofs.Common.{◌≡◌, ◌∙◌, ℕ, ◌<◌, ◌≤◌, ◌⊎◌, inl, inr, Bool, true, false, cond, List, ◌++◌, Option, Some, Vec, BTreeMap, refl, ap, sym, subst, arith}
use Rattle.std.specs.Prelude.{◌==◌, not, map, filter, find, option_map, unwrap_or, if◌then◌else◌, Result, Ok, Err, OnOk}
use Rattle.std.specs.Ordering.{is_eq, nat_cmp}
use Rattle.std.specs.declared.cmp.Ordering.TheVariants.{Less, Equal, Greater}
use Rattle.std.proofs.lemmas.Bool.{cases_lt, le-ltb, lt-ltb, ne_eqb}
use Rattle.std.specs.BTreeMap.{Updates, get}
use Rattle.std.specs.Global.{Global}
use Rattle.check_beats.specs.Message.{is_spoiled}
use Rattle.check_beats.specs.declared.beat.AskHead.{AskHead}
use Rattle.check_beats.specs.declared.beat.ReplyHead.{ReplyHead}
use Rattle.check_watch.specs.declared.beat.Beat.{Beat}
use Rattle.check_watch.specs.declared.beat.Beat.TheVariants.{A, D}
use Rattle.check_watch.specs.declared.seen.Ended.{Ended}
use Rattle.check_sides.specs.Plan.{Plan}
use Rattle.check_coverage.specs.declared.coverage.Coverage.{Coverage}
use Rattle.check_coverage.specs.declared.flight.CountedFlight.{CountedFlight}
use Rattle.check_coverage.specs.Bins.{after_bins, ask_part_bins, bins_by, end_bins, first_bins, last_bins, of_found, reply_part_bins}
use Rattle.check_coverage.specs.Flights.{InFlight, flights_after, is_of, ends_a_reply, ends_an_ask, kept, with_beat, with_begun}
use Rattle.check_bins.specs.Counting.{Adds}
use Rattle.check_coverage.specs.View.{CountsBeat, IsNoted, times_in}
use Rattle.check_coverage.specs.Latest.{is_last_ask, latest_by, latest_of}
use Rattle.check_coverage.specs.Times.{no_times, times_after}
use Rattle.check_coverage.specs.declared.times.Times.{Times}
use Rattle.check_bins.specs.declared.bin.Bin.{Bin}
use Rattle.check_bins.proofs.Counted.{adds_then}
use Rattle.check_coverage.proofs.Places.{filter_kept}

pub ok_then : {E P Q : Type 0} (r : Result (Unit {0}) E) → (P → Q) → OnOk r P → OnOk r Q
ok_then (Ok done) next first = next first
ok_then (Err fault) next first = tt

-- ---- a beat of channel A: its request begins if none is in flight, has one beat more, and ends

module _ (plan : Plan) (bus wide time : ℕ) (times : Times) (beat : AskHead) (end : Ended) (old mid : Coverage)
    (grown : Vec CountedFlight Global) (whole : Bool) (ended new : Coverage) (mirrors : mid.mirrors ≡ old.mirrors)
    (same_times : mid.times ≡ old.times) (same_latest : mid.latest ≡ old.latest)
    (flights : (before : List InFlight) → old.flights.items ≡ map kept before
    → mid.flights.items ≡ map kept (with_begun plan wide beat before))
    (counts : (before : List InFlight) → old.flights.items ≡ map kept before
    → Adds old.counts mid.counts (first_bins plan wide before time times.answered beat))
    (grows : (before : List InFlight) → mid.flights.items ≡ map kept before
    → grown.items ≡ map kept (map (with_beat bus wide beat whole) before))
    (is_whole : whole ≡ ends_an_ask end) where
  after_grown : (before : List InFlight) → old.flights.items ≡ map kept before
      → grown.items ≡ map kept (flights_after plan bus wide before (A beat) end)
  after_grown before is =
      grows (with_begun plan wide beat before) (flights before is)
      ∙ ap (λ w. map kept (map (with_beat bus wide beat w) (with_begun plan wide beat before))) is_whole

  pub ask_counted : {E : Type 0} (r : Result (Unit {0}) E) → ended.mirrors ≡ mid.mirrors → ended.times ≡ mid.times
      → ended.latest ≡ mid.latest → ended.flights ≡ grown
      → ((after : List InFlight) → grown.items ≡ map kept after
      → Adds mid.counts ended.counts (last_bins plan bus wide after beat end))
      → new.mirrors ≡ ended.mirrors → new.times ≡ ended.times → new.latest ≡ ended.latest → new.flights ≡ ended.flights
      → ((after : List InFlight) → ended.flights.items ≡ map kept after
      → OnOk r (Adds ended.counts new.counts
      (of_found (find (is_of wide) after) (ask_part_bins plan.layout.rules time times.asked beat.corrupt))))
      → OnOk r (CountsBeat plan bus wide time times (A beat) end old new)
  ask_counted (Err fault) ended_mirrors ended_times ended_latest ended_flights last new_mirrors new_times new_latest new_flights
      part = tt
  ask_counted (Ok done) ended_mirrors ended_times ended_latest ended_flights last new_mirrors new_times new_latest new_flights
      part = record {
        mirrors = new_mirrors ∙ ended_mirrors ∙ mirrors;
        times_stay = new_times ∙ ended_times ∙ same_times;
        latest_stays = new_latest ∙ ended_latest ∙ same_latest;
        flights = λ before is. ap (λ v. v.items) (new_flights ∙ ended_flights) ∙ after_grown before is;
        counts = λ before is.
            let after = flights_after plan bus wide before (A beat) end in
            let parts : List Bin =
            of_found (find (is_of wide) after) (ask_part_bins plan.layout.rules time times.asked beat.corrupt) in
            adds_then old.counts mid.counts new.counts (first_bins plan wide before time times.answered beat)
            (last_bins plan bus wide after beat end ++ parts) (counts before is)
            (adds_then mid.counts ended.counts new.counts (last_bins plan bus wide after beat end) parts
            (last after (after_grown before is)) (part after (ap (λ v. v.items) ended_flights ∙ after_grown before is)));
      }

-- ---- a beat of a reply: if it is the last one, its request is answered and is no more in flight

module _ (wide : ℕ) (before : List InFlight) where
  abbrev test : CountedFlight → Bool
  test flight = not (flight.wide == wide)

  left_by : (b : Bool) → (if b then filter (λ (flight : CountedFlight). test flight) (map kept before) else map kept before)
      ≡ map kept (if b then filter (λ flight. not (is_of wide flight)) before else before)
  left_by true = filter_kept (λ flight. not (flight.wide == wide)) before
  left_by false = refl

pub reply_counted : (plan : Plan) (bus wide time : ℕ) (times : Times) (beat : ReplyHead) (end : Ended) (old mid ended : Coverage)
    (left : Vec CountedFlight Global) → mid.mirrors ≡ old.mirrors → mid.times ≡ old.times
    → mid.latest ≡ old.latest → mid.flights ≡ old.flights
    → ((before : List InFlight) → old.flights.items ≡ map kept before
    → Adds old.counts mid.counts (end_bins bus wide before beat end))
    → ended.mirrors ≡ mid.mirrors → ended.times ≡ mid.times → ended.latest ≡ mid.latest → ended.flights ≡ mid.flights
    → ((before : List InFlight) → mid.flights.items ≡ map kept before
    → Adds mid.counts ended.counts
    (of_found (find (is_of wide) before) (reply_part_bins plan.layout.rules time times (is_spoiled beat))))
    → left.items ≡ (if ends_a_reply end
    then filter (λ (flight : CountedFlight). not (flight.wide == wide)) ended.flights.items else ended.flights.items)
    → CountsBeat plan bus wide time times (D beat) end old (record ended { flights = left })
reply_counted plan bus wide time times beat end old mid ended left mid_mirrors mid_times mid_latest mid_flights answers
    ended_mirrors ended_times ended_latest ended_flights counts lefts = record {
      mirrors = ended_mirrors ∙ mid_mirrors;
      times_stay = ended_times ∙ mid_times;
      latest_stays = ended_latest ∙ mid_latest;
      flights = λ before is.
          let now : ended.flights.items ≡ map kept before = ap (λ v. v.items) (ended_flights ∙ mid_flights) ∙ is in
          lefts
          ∙ (λ i. if ends_a_reply end then filter (λ (flight : CountedFlight). not (flight.wide == wide)) (now i) else now i)
          ∙ left_by wide before (ends_a_reply end);
      counts = λ before is. adds_then old.counts mid.counts ended.counts (end_bins bus wide before beat end)
          (of_found (find (is_of wide) before) (reply_part_bins plan.layout.rules time times (is_spoiled beat))) (answers before is)
          (counts before (ap (λ v. v.items) mid_flights ∙ is));
    }

-- ---- the times

equal_is : (b : Bool) → is_eq (cond b Equal Greater) ≡ b
equal_is true = refl
equal_is false = refl

pub same_number : (a b : ℕ) → is_eq (nat_cmp a b) ≡ (a == b)
same_number a b = go (cases_lt a b)
  where
    go : (a < b) ⊎ (b ≤ a) → is_eq (nat_cmp a b) ≡ (a == b)
    go (inl below) =
        ap (λ t. is_eq (cond t Less (cond (a == b) Equal Greater))) (lt-ltb a b below)
        ∙ sym (ne_eqb a b (λ same. omega (arith, below, same)))
    go (inr above) =
        ap (λ t. is_eq (cond t Less (cond (a == b) Equal Greater))) (le-ltb a b above) ∙ equal_is (a == b)

-- the latest requests are kept as they were, but for the port of one that was found
module _ (wide : ℕ) (after : List InFlight) (before : ℕ → Option InFlight) where
  pub latest_found : (flight : CountedFlight) (this : InFlight) (old new : BTreeMap ℕ CountedFlight)
      → find (is_of wide) after ≡ Some this → flight ≡ kept this
      → ((port : ℕ) → get nat_cmp old port ≡ option_map kept (before port))
      → ((port : ℕ) → get nat_cmp new port ≡ (if flight.port == port then Some flight else get nat_cmp old port))
      → (port : ℕ) → get nat_cmp new port ≡ option_map kept (latest_by wide true after before port)
  latest_found flight this old new found is was is_new port =
      is_new port
      ∙ (λ i. if (is i).port == port then Some (is i) else was port i)
      ∙ by (this.port == port)
      ∙ ap (λ o. option_map kept (latest_of o before port)) (sym found)
    where
      by : (b : Bool) → (if b then Some (kept this) else option_map kept (before port))
          ≡ option_map kept (if b then Some this else before port)
      by true = refl
      by false = refl

pub beat_noted : (plan : Plan) (bus wide time : ℕ) (beat : Beat) (end : Ended) (old mid next : Coverage)
    (kept_times : BTreeMap ℕ Times) (times after : Times) (is_asked : Bool) → times ≡ times_in old.times wide
    → after ≡ times_after time beat end times → is_asked ≡ is_last_ask beat end
    → CountsBeat plan bus wide time times beat end old mid
    → next.mirrors ≡ mid.mirrors → next.times ≡ mid.times → next.flights ≡ mid.flights
    → ((later : List InFlight) (before : ℕ → Option InFlight) → mid.flights.items ≡ map kept later
    → ((port : ℕ) → get nat_cmp mid.latest port ≡ option_map kept (before port))
    → (port : ℕ) → get nat_cmp next.latest port ≡ option_map kept (latest_by wide is_asked later before port))
    → ((later : List InFlight) (before : ℕ → Option InFlight) → mid.flights.items ≡ map kept later
    → ((port : ℕ) → get nat_cmp mid.latest port ≡ option_map kept (before port))
    → Adds mid.counts next.counts (after_bins plan wide is_asked later before))
    → Updates nat_cmp next.times kept_times wide (Some after)
    → IsNoted plan bus wide time beat end old (record next { times = kept_times })
beat_noted plan bus wide time beat end old mid next kept_times times after is_asked is is_after asked counts mirrors same_times
    flights latests adds updates = record {
      mirrors = mirrors ∙ counts.mirrors;
      times = λ other.
          ap (λ o. unwrap_or o no_times) (updates.0 other)
          ∙ ap (λ b. unwrap_or (cond b (Some after) (get nat_cmp next.times other)) no_times) (same_number wide other)
          ∙ by other (wide == other);
      flights = λ before same. ap (λ v. v.items) flights ∙ counts.flights before same;
      counts = λ before same latest was.
          let later = flights_after plan bus wide before beat end in
          let first : Adds old.counts mid.counts (bins_by plan bus wide before time (times_in old.times wide) beat end) =
          subst (λ (t : Times). Adds old.counts mid.counts (bins_by plan bus wide before time t beat end)) is
          (counts.counts before same) in
          let second : Adds mid.counts next.counts (after_bins plan wide (is_last_ask beat end) later latest) =
          subst (λ (b : Bool). Adds mid.counts next.counts (after_bins plan wide b later latest)) asked
          (adds later latest (counts.flights before same) (moved latest was)) in
          adds_then old.counts mid.counts next.counts (bins_by plan bus wide before time (times_in old.times wide) beat end)
          (after_bins plan wide (is_last_ask beat end) later latest) first second;
      latest = λ before same latest was port.
          let later = flights_after plan bus wide before beat end in
          latests later latest (counts.flights before same) (moved latest was) port
          ∙ ap (λ b. option_map kept (latest_by wide b later latest port)) asked;
    }
  where
    by : (other : ℕ) (b : Bool) → unwrap_or (cond b (Some after) (get nat_cmp next.times other)) no_times
        ≡ (if b then times_after time beat end (times_in old.times wide) else times_in old.times other)
    by other true = is_after ∙ ap (λ t. times_after time beat end t) is
    by other false = ap (λ m. times_in m other) (same_times ∙ counts.times_stay)

    moved : (latest : ℕ → Option InFlight) → ((port : ℕ) → get nat_cmp old.latest port ≡ option_map kept (latest port))
        → (port : ℕ) → get nat_cmp mid.latest port ≡ option_map kept (latest port)
    moved latest was port = ap (λ m. get nat_cmp m port) counts.latest_stays ∙ was port
