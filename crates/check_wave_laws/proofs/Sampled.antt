-- The rows of what happens in a dump are those of its beats and its resets.
use Rattle.std.proofs.Common.{◌≡◌, ◌∙◌, ℕ, zero, suc, ◌<◌, ◌≤◌, ◌⊎◌, inl, inr, ◌==◌, Bool, true, false, cond, not, nat_le, List, [], ◌∷◌, ◌++◌, length, get_or, slice_get, Contains, Option, None, Some, ap, arith, append_assoc, refl, subst, sym, option_map}
use Rattle.std.specs.Prelude.{⊤, ◌↔◌}
use Rattle.std.proofs.lemmas.Bool.{both_ways, cases_lt, cond-false, cond-true, eq-eqb, le-leb, leb-true, ne_eqb, not-true}
use Rattle.std.proofs.lemmas.List.Elements.{Contains-append_cases, Contains-append_left, Contains-append_right}
use Rattle.check_vcd.specs.Body.{Happens, At, Sets, Resumes, Wrong}
use Rattle.check_samples.specs.Digits.{with_joined}
use Rattle.check_samples.specs.Domain.{Watched}
use Rattle.check_samples.specs.EdgeFault.{some_crossed}
use Rattle.check_vcd.specs.declared.fault.Mistake.TheVariants.{Gap}
use Rattle.check_samples.specs.Left.{BeforeLine, end_in}
use Rattle.check_samples.specs.Rows.{Dues, Probes, Rows, and_then, no_rows, rows_of}
use Rattle.check_samples.specs.Sampling.{Sampling, at_time, dues_of, is_at, is_time, rows_from, rows_now, rows_when, sampling_by, watched_from, watched_now, watched_when, with_value, resets_now, resets_when}
use Rattle.check_samples.specs.declared.channel.Channel.{Channel}
use Rattle.check_samples.specs.declared.tap.Tap.{Tap}
use Rattle.check_wave_laws.specs.Sampled.{AllWatched, AreInOrder, AreSampled, EndsSampled, HasNoGap, StandsBelow, MayLose, IsJoinedUntil, NeverFalls, Precedes, SampledBeat, ValueChange, Wave, changes_after, cut_after, gaps_after, is_before, is_until, is_whole, sampled_rows, values_after, values_before, values_until, wave_of, IsSampled, IsSampledReset, OfBeat, OfReset, SampledRow, time_of_sampled}
use Rattle.check_wave_laws.proofs.Changes.{EachTime, IsFrom, IsLess, IsUpTo, before-past, changes-from, each-push, each-weaker, from-before, from-until, gaps-from, now-push, up-to-before, up-to-next, up-to-self, up-to-until, value-kept, values-none, whole-before}
use Rattle.check_wave_laws.proofs.Edges.{DuesAre, beat-at, crossed-at, crossing, crossing-all, crossing-each, crossing-order, crossing-rows, Crosses, none-there, order-append, rows-append, here, here-or-there, there, of-beats, of-beats-each, of-beats-has}
use Rattle.check_samples.specs.Resets.{is_reset_due, reset_rows, watched_reset}
use Rattle.check_samples.specs.declared.reset.WatchedReset.{WatchedReset}
use Rattle.check_wave_laws.proofs.Present.{BeforeIs, Ends, WatchedSoFar, all-more, all-none, crossed-gap, dues-are, gap-crossed, quiet, until-is}
use Rattle.check_wave_laws.proofs.Resets.{ResetIs, ResetSoFar, due-is, reset-more, reset-none}

-- ---- the rows of some times

abbrev IsSince : Option ℕ → ℕ → Type 0
IsSince None time = ⊤
IsSince (Some from) time = from ≤ time

-- a beat or a reset at one of the times from one on, below another
record IsWithin (wave : Wave) (from below : Option ℕ) (row : SampledRow) : Type 0 where
  is : IsSampled wave row
  since : IsSince from (time_of_sampled row)
  before : StandsBelow below (time_of_sampled row)

-- the rows are those of these beats and resets
record HasSampled (wave : Wave) (from below : Option ℕ) (rows : Rows) : Type 0 where
  sampled : List SampledRow
  each : (row : SampledRow) → Contains sampled row → IsWithin wave from below row
  all : (row : SampledRow) → IsWithin wave from below row → Contains sampled row
  order : AreInOrder sampled
  are : rows ≡ sampled_rows wave sampled

-- there is none
no-rows-there : (wave : Wave) (from below : Option ℕ) → ((row : SampledRow) → IsWithin wave from below row → ⊥)
    → HasSampled wave from below no_rows
no-rows-there wave from below none = record {
  sampled = [];
  each = λ row has. absurd (none-there row has);
  all = λ row within. absurd (none row within);
  order = tt;
  are = refl;
}

since-next : (time : Option ℕ) (next at : ℕ) → IsLess time next → next ≤ at → IsSince time at
since-next None next at less order = tt
since-next (Some time) next at less order = omega (arith, less, order)

module _ (wave : Wave) (time : Option ℕ) (next : ℕ) (one two : Rows) (less : IsLess time next)
    (first : HasSampled wave time (Some next) one) (second : HasSampled wave (Some next) None two) where
  join-each : (row : SampledRow) → Contains first.sampled row ⊎ Contains second.sampled row → IsWithin wave time None row
  join-each row (inl near) =
      let within = first.each row near in record { is = within.is; since = within.since; before = tt }
  join-each row (inr far) =
      let within = second.each row far in
      record { is = within.is; since = since-next time next (time_of_sampled row) less within.since; before = tt }

  join-all : (row : SampledRow) → IsWithin wave time None row → (time_of_sampled row < next) ⊎ (next ≤ time_of_sampled row)
      → Contains (first.sampled ++ second.sampled) row
  join-all row within (inl near) =
      Contains-append_left first.sampled second.sampled row
      (first.all row (record { is = within.is; since = within.since; before = near }))
  join-all row within (inr far) =
      Contains-append_right first.sampled second.sampled row
      (second.all row (record { is = within.is; since = far; before = tt }))

  join-order : (row later : SampledRow) → Contains first.sampled row → Contains second.sampled later → Precedes row later
  join-order row later near far =
      inl (omega (arith, (first.each row near).before, (second.each later far).since))

  join : HasSampled wave time None (and_then one two)
  join = record {
    sampled = first.sampled ++ second.sampled;
    each = λ row has. join-each row (Contains-append_cases first.sampled second.sampled row has);
    all = λ row within. join-all row within (cases_lt (time_of_sampled row) next);
    order = order-append first.sampled second.sampled first.order second.order join-order;
    are = ap (λ (r : Rows). and_then r two) first.are
        ∙ ap (λ (r : Rows). and_then (sampled_rows wave first.sampled) r) second.are
        ∙ sym (rows-append wave first.sampled second.sampled);
  }

-- a sampler after another time began
abbrev begun : Sampling → ℕ → Sampling
begun s next = record s {
  before = with_joined s.joins s.now;
  time = Some next;
  watched = watched_now s;
  resets = resets_now s;
}

-- ---- the rows of the present time

module _ (wave : Wave) (time : ℕ) (next : Option ℕ) (ends : Ends wave (Some time) next)
    (below : StandsBelow next time) (dues : Dues) (are : DuesAre wave time dues) where
  -- its beats
  abbrev crossing-now : List SampledBeat
  crossing-now = crossing wave dues time 0 wave.probes.channels

  beat-within : (beat : SampledBeat) → Crosses wave dues time 0 wave.probes.channels beat
      → IsWithin wave (Some time) next (OfBeat beat)
  beat-within beat one =
      let place : one.index ≡ beat.place = omega (arith, one.spot) in
      let looked : slice_get wave.probes.channels beat.place ≡ Some beat.channel =
      subst (λ (n : ℕ). slice_get wave.probes.channels n ≡ Some beat.channel) place one.is in
      record {
        is = beat-at wave dues time beat are one.now looked one.crossed (ends.joined time below) (ends.whole time below);
        since = omega (arith, one.now);
        before = subst (λ (n : ℕ). StandsBelow next n) (sym one.now) below;
      }

  -- a row of one of the times from the present one on stands at it
  at-time : (row : SampledRow) → IsWithin wave (Some time) next row → time_of_sampled row ≡ time
  at-time row within = go (cases_lt time (time_of_sampled row))
    where
      go : (time < time_of_sampled row) ⊎ (time_of_sampled row ≤ time) → time_of_sampled row ≡ time
      go (inl later) = absurd (quiet wave (Some time) next ends row later within.before within.is)
      go (inr order) = omega (arith, order, within.since)

  all-beats : (beat : SampledBeat) → IsWithin wave (Some time) next (OfBeat beat)
      → Contains (of-beats crossing-now) (OfBeat beat)
  all-beats beat within =
      let now = at-time (OfBeat beat) within in
      of-beats-has crossing-now beat (crossing-all wave dues time 0 wave.probes.channels beat beat.place now (omega arith)
      within.is.looked (crossed-at wave dues time beat are now within.is))

  each-beat : (row : SampledRow) → Contains (of-beats crossing-now) row → IsWithin wave (Some time) next row
  each-beat row has =
      let it = of-beats-each crossing-now row has in
      subst (λ (r : SampledRow). IsWithin wave (Some time) next r) (sym it.1)
      (beat-within it.0 (crossing-each wave dues time 0 wave.probes.channels it.0 it.2))

  -- a reset stands before them
  reset-first : (later : SampledRow) → Contains (of-beats crossing-now) later → Precedes (OfReset time) later
  reset-first later has =
      let it = of-beats-each crossing-now later has in
      let one = crossing-each wave dues time 0 wave.probes.channels it.0 it.2 in
      subst (λ (r : SampledRow). Precedes (OfReset time) r) (sym it.1) (inr (sym one.now, tt))

  abbrev rows-of-time : Bool → Rows
  rows-of-time due =
      and_then (reset_rows time due) (rows_of dues time (values_before wave time) wave.probes.channels)

  with-reset : IsSampledReset wave time → HasSampled wave (Some time) next (rows-of-time true)
  with-reset is = record {
    sampled = OfReset time ∷ of-beats crossing-now;
    each = λ row has. each-one row (here-or-there (OfReset time) row (of-beats crossing-now) has);
    all = all-rows;
    order = (reset-first, crossing-order wave dues time 0 wave.probes.channels);
    are = ap (λ (r : Rows). and_then (reset_rows time true) r) (crossing-rows wave dues time 0 wave.probes.channels);
  }
    where
      each-one : (row : SampledRow) → (OfReset time ≡ row) ⊎ Contains (of-beats crossing-now) row
          → IsWithin wave (Some time) next row
      each-one row (inl same) =
          subst (λ (r : SampledRow). IsWithin wave (Some time) next r) same
          (record { is = is; since = omega arith; before = below })
      each-one row (inr far) = each-beat row far

      all-rows : (row : SampledRow) → IsWithin wave (Some time) next row
          → Contains (OfReset time ∷ of-beats crossing-now) row
      all-rows (OfBeat beat) within =
          there (OfReset time) (OfBeat beat) (of-beats crossing-now) (all-beats beat within)
      all-rows (OfReset at) within =
          subst (λ (n : ℕ). Contains (OfReset time ∷ of-beats crossing-now) (OfReset n))
          (sym (at-time (OfReset at) within)) (here (OfReset time) (of-beats crossing-now))

  without-reset : (IsSampledReset wave time → ⊥) → HasSampled wave (Some time) next (rows-of-time false)
  without-reset none = record {
    sampled = of-beats crossing-now;
    each = each-beat;
    all = all-rows;
    order = crossing-order wave dues time 0 wave.probes.channels;
    are = crossing-rows wave dues time 0 wave.probes.channels;
  }
    where
      all-rows : (row : SampledRow) → IsWithin wave (Some time) next row → Contains (of-beats crossing-now) row
      all-rows (OfBeat beat) within = all-beats beat within
      all-rows (OfReset at) within =
          absurd (none (subst (λ (n : ℕ). IsSampledReset wave n) (at-time (OfReset at) within) within.is))

  time-rows : (due : Bool) → (due ≡ true) ↔ IsSampledReset wave time
      → HasSampled wave (Some time) next (rows-of-time due)
  time-rows true is = with-reset (is.0 refl)
  time-rows false is = without-reset (λ reset. both_ways false refl (is.1 reset))

-- a sampler at the end of the present time
record IsSampler (wave : Wave) (time : Option ℕ) (past : List ValueChange) (s : Sampling) : Type 0 where
  present : s.time ≡ time
  joins : s.joins ≡ wave.probes.joins
  channels : s.channels ≡ wave.probes.channels
  widths : s.widths ≡ wave.widths
  now : s.now ≡ values_after wave past
  before : BeforeIs wave time s.before
  watched : WatchedSoFar wave time s.watched
  resets : ResetSoFar wave time s.resets

abbrev NowIsBelow : Option ℕ → Option ℕ → Type 0
NowIsBelow None next = ⊤
NowIsBelow (Some time) next = StandsBelow next time

-- the rows of a time by the values before it and at its end
abbrev rows-by : ℕ → List (List ℕ) → List (List ℕ) → Sampling → List Channel → Rows
rows-by time before now s channels =
    and_then (reset_rows time (is_reset_due before now s.watched s.resets))
    (rows_of (dues_of before now s.watched) time before channels)

rows-at : (wave : Wave) (time : ℕ) (past : List ValueChange) (s : Sampling) → IsSampler wave (Some time) past s
    → values_until wave time ≡ values_after wave past
    → rows_when (Some time) s ≡ rows-by time (values_before wave time) (values_until wave time) s wave.probes.channels
rows-at wave time past s is until =
    ap (λ (cs : List Channel). rows-by time s.before s.now s cs) is.channels
    ∙ ap (λ (vs : List (List ℕ)). rows-by time vs s.now s wave.probes.channels) is.before
    ∙ ap (λ (vs : List (List ℕ)). rows-by time (values_before wave time) vs s wave.probes.channels) (is.now ∙ sym until)

-- the edges below the next time
watched-at : (wave : Wave) (time : ℕ) (next : Option ℕ) (ends : Ends wave (Some time) next) (s : Sampling)
    → IsSampler wave (Some time) ends.past s → StandsBelow next time → values_until wave time ≡ values_after wave ends.past
    → AllWatched wave next 0 wave.probes.domains (watched_when (Some time) s)
watched-at wave time next ends s is below until =
    subst (λ (ws : List Watched). AllWatched wave next 0 wave.probes.domains ws) (sym same)
    (all-more wave time next ends below 0 wave.probes.domains s.watched is.watched)
  where
    same : watched_when (Some time) s
        ≡ watched_from 0 (values_before wave time) (values_until wave time) wave.probes.channels s.watched
    same =
        ap (λ (cs : List Channel). watched_from 0 s.before s.now cs s.watched) is.channels
        ∙ ap (λ (vs : List (List ℕ)). watched_from 0 vs s.now wave.probes.channels s.watched) is.before
        ∙ ap (λ (vs : List (List ℕ)). watched_from 0 (values_before wave time) vs wave.probes.channels s.watched)
        (is.now ∙ sym until)

until-now : (wave : Wave) (time : ℕ) (next : Option ℕ) (ends : Ends wave (Some time) next) → StandsBelow next time
    → values_until wave time ≡ values_after wave ends.past
until-now wave time next ends below =
    until-is wave (Some time) next ends time
    (each-weaker (IsUpTo (Some time)) (λ at. is_until time at ≡ true) ends.past (λ at. up-to-until time at) ends.until) below

watched-when : (wave : Wave) (time next : Option ℕ) (ends : Ends wave time next) (s : Sampling)
    → IsSampler wave time ends.past s → NowIsBelow time next
    → AllWatched wave next 0 wave.probes.domains (watched_when time s)
watched-when wave None next ends s is below =
    subst (λ (ws : List Watched). AllWatched wave next 0 wave.probes.domains ws) (sym is.watched)
    (all-none wave next ends 0 wave.probes.domains)
watched-when wave (Some time) next ends s is below =
    watched-at wave time next ends s is below (until-now wave time next ends below)

watched-next : (wave : Wave) (time next : Option ℕ) (ends : Ends wave time next) (s : Sampling)
    → IsSampler wave time ends.past s → NowIsBelow time next
    → AllWatched wave next 0 wave.probes.domains (watched_now s)
watched-next wave time next ends s is below =
    subst (λ (at : Option ℕ). AllWatched wave next 0 wave.probes.domains (watched_when at s)) (sym is.present)
    (watched-when wave time next ends s is below)

-- the same of the system's reset
resets-at : (wave : Wave) (time : ℕ) (next : Option ℕ) (ends : Ends wave (Some time) next) (s : Sampling)
    → IsSampler wave (Some time) ends.past s → StandsBelow next time → values_until wave time ≡ values_after wave ends.past
    → ResetIs wave next wave.probes.resets (resets_when (Some time) s)
resets-at wave time next ends s is below until =
    subst (λ (r : Option WatchedReset). ResetIs wave next wave.probes.resets r) (sym same)
    (reset-more wave time next ends below wave.probes.resets s.resets is.resets)
  where
    same : resets_when (Some time) s
        ≡ option_map (watched_reset (values_before wave time) (values_until wave time)) s.resets
    same =
        ap (λ (vs : List (List ℕ)). option_map (watched_reset vs s.now) s.resets) is.before
        ∙ ap (λ (vs : List (List ℕ)). option_map (watched_reset (values_before wave time) vs) s.resets) (is.now ∙ sym until)

resets-when : (wave : Wave) (time next : Option ℕ) (ends : Ends wave time next) (s : Sampling)
    → IsSampler wave time ends.past s → NowIsBelow time next
    → ResetIs wave next wave.probes.resets (resets_when time s)
resets-when wave None next ends s is below =
    subst (λ (r : Option WatchedReset). ResetIs wave next wave.probes.resets r) (sym is.resets)
    (reset-none wave next ends wave.probes.resets)
resets-when wave (Some time) next ends s is below =
    resets-at wave time next ends s is below (until-now wave time next ends below)

resets-next : (wave : Wave) (time next : Option ℕ) (ends : Ends wave time next) (s : Sampling)
    → IsSampler wave time ends.past s → NowIsBelow time next
    → ResetIs wave next wave.probes.resets (resets_now s)
resets-next wave time next ends s is below =
    subst (λ (at : Option ℕ). ResetIs wave next wave.probes.resets (resets_when at s)) (sym is.present)
    (resets-when wave time next ends s is below)

ended-at : (wave : Wave) (time next : Option ℕ) (ends : Ends wave time next) (s : Sampling)
    → IsSampler wave time ends.past s → NowIsBelow time next → HasSampled wave time next (rows_when time s)
ended-at wave None next ends s is below =
    no-rows-there wave None next (λ row within. quiet wave None next ends row tt within.before within.is)
ended-at wave (Some time) next ends s is below =
    subst (λ (r : Rows). HasSampled wave (Some time) next r)
    (sym (rows-at wave time ends.past s is (until-now wave time next ends below)))
    (time-rows wave time next ends below (dues_of (values_before wave time) (values_until wave time) s.watched)
    (dues-are wave time s.watched is.watched)
    (is_reset_due (values_before wave time) (values_until wave time) s.watched s.resets)
    (due-is wave time s.watched is.watched s.resets is.resets (ends.joined time below) (ends.whole time below)))

ended : (wave : Wave) (time next : Option ℕ) (ends : Ends wave time next) (s : Sampling)
    → IsSampler wave time ends.past s → NowIsBelow time next → HasSampled wave time next (rows_now s)
ended wave time next ends s is below =
    subst (λ (at : Option ℕ). HasSampled wave time next (rows_when at s)) (sym is.present)
    (ended-at wave time next ends s is below)

-- ---- all times

-- a sampler after some of what happens in a dump, before the rest
record Runs (wave : Wave) (time : Option ℕ) (rest : List Happens) (s : Sampling) : Type 0 where
  past : List ValueChange
  sampler : IsSampler wave time past s
  changes : wave.changes ≡ past ++ changes_after time rest
  cut : wave.cut ≡ cut_after time rest
  gone : List (Option ℕ)
  gaps : wave.gaps ≡ gone ++ gaps_after time rest
  joined : (gap : Option ℕ) → Contains gone gap → MayLose wave gap → ⊥
  until : EachTime (IsUpTo time) past
  rises : NeverFalls time rest

now-below-none : (time : Option ℕ) → NowIsBelow time None
now-below-none None = tt
now-below-none (Some time) = tt

now-below : (time : Option ℕ) (next : ℕ) → IsLess time next → NowIsBelow time (Some next)
now-below None next less = tt
now-below (Some time) next less = less

-- nothing is left to happen
last-ends : (wave : Wave) (time : Option ℕ) (s : Sampling) → Runs wave time [] s → Ends wave time None
last-ends wave time s runs = record {
  past = runs.past;
  later = [];
  changes = runs.changes;
  until = runs.until;
  gap = λ early below. tt;
  joined = λ early below gap has until is. go gap (Contains-append_cases runs.gone [] gap
      (subst (λ (gs : List (Option ℕ)). Contains gs gap) runs.gaps has)) is;
  whole = λ early below. ap (λ (cut : Option (Option ℕ)). is_whole cut early) runs.cut;
}
  where
    go : (gap : Option ℕ) → Contains runs.gone gap ⊎ Contains [] gap → MayLose wave gap → ⊥
    go gap (inl past) is = runs.joined gap past is
    go gap (inr none) is = omega (arith, none.1)

runs-out : (wave : Wave) (time : Option ℕ) (s : Sampling) → Runs wave time [] s → HasSampled wave time None (rows_now s)
unfolding last-ends
runs-out wave time s runs = ended wave time None (last-ends wave time s runs) s runs.sampler (now-below-none time)

-- up to the end of a row's time no line is wrong, and there is no gap
row-whole : (wave : Wave) (row : SampledRow) → IsSampled wave row → is_whole wave.cut (time_of_sampled row) ≡ true
row-whole wave (OfBeat beat) is = is.whole
row-whole wave (OfReset time) is = is.whole

row-joined : (wave : Wave) (row : SampledRow) → IsSampled wave row → IsJoinedUntil wave (time_of_sampled row)
row-joined wave (OfBeat beat) is = is.joined
row-joined wave (OfReset time) is = is.joined

-- a line is wrong
runs-cut : (wave : Wave) (time : Option ℕ) → wave.cut ≡ Some time → HasSampled wave time None no_rows
runs-cut wave time cut = no-rows-there wave time None (λ row within. go time cut row within)
  where
    go : (at : Option ℕ) → wave.cut ≡ Some at → (row : SampledRow) → IsWithin wave at None row → ⊥
    go None is row within =
        let whole : false ≡ true =
        subst (λ (c : Option (Option ℕ)). is_whole c (time_of_sampled row) ≡ true) is (row-whole wave row within.is) in
        both_ways false refl whole
    go (Some at) is row within =
        let here = time_of_sampled row in
        let whole : not (nat_le at here) ≡ true =
        subst (λ (c : Option (Option ℕ)). is_whole c here ≡ true) is (row-whole wave row within.is) in
        both_ways (nat_le at here) (not-true (nat_le at here) whole) (le-leb at here within.since)

-- a later time begins
module _ (wave : Wave) (time : Option ℕ) (next : ℕ) (happens : List Happens) (s : Sampling)
    (runs : Runs wave time (At next ∷ happens) s) (less : IsLess time next) where
  later-joined : (early : ℕ) → early < next → IsJoinedUntil wave early
  later-joined early less gap has until is =
      go (Contains-append_cases runs.gone (gaps_after (Some next) happens) gap
      (subst (λ (gs : List (Option ℕ)). Contains gs gap) runs.gaps has))
    where
      go : Contains runs.gone gap ⊎ Contains (gaps_after (Some next) happens) gap → ⊥
      go (inl past) = runs.joined gap past is
      go (inr later) =
          both_ways (is_until early gap) (from-until early next gap less (gaps-from next happens runs.rises.1 gap later)) until

  later-ends : Ends wave time (Some next)
  later-ends = record {
    past = runs.past;
    later = changes_after (Some next) happens;
    changes = runs.changes;
    until = runs.until;
    gap = λ early below. each-weaker (IsFrom next) (λ at. is_until early at ≡ false)
        (changes_after (Some next) happens) (λ at from. from-until early next at below from)
        (changes-from next happens runs.rises.1);
    joined = later-joined;
    whole = λ early below. ap (λ (cut : Option (Option ℕ)). is_whole cut early) runs.cut
        ∙ whole-before next happens early runs.rises.1 below;
  }

  later-watched : AllWatched wave (Some next) 0 wave.probes.domains (watched_now s)
  unfolding later-ends
  later-watched = watched-next wave time (Some next) later-ends s runs.sampler (now-below time next less)

  later-resets : ResetIs wave (Some next) wave.probes.resets (resets_now s)
  unfolding later-ends
  later-resets = resets-next wave time (Some next) later-ends s runs.sampler (now-below time next less)

  later-runs : Runs wave (Some next) happens (begun s next)
  later-runs = record {
    past = runs.past;
    sampler = record {
      present = refl;
      joins = runs.sampler.joins;
      channels = runs.sampler.channels;
      widths = runs.sampler.widths;
      now = runs.sampler.now;
      before = ap (λ (parts : List Tap). with_joined parts s.now) runs.sampler.joins
          ∙ ap (λ (vs : List (List ℕ)). with_joined wave.probes.joins vs) runs.sampler.now
          ∙ sym (before-past wave runs.past (changes_after (Some next) happens) next runs.changes
          (each-weaker (IsUpTo time) (λ at. is_before next at ≡ true) runs.past
          (λ at up. up-to-before time next at less up) runs.until)
          (each-weaker (IsFrom next) (λ at. is_before next at ≡ false) (changes_after (Some next) happens)
          (λ at from. from-before next at from) (changes-from next happens runs.rises.1)));
      watched = later-watched;
      resets = later-resets;
    };
    changes = runs.changes;
    cut = runs.cut;
    gone = runs.gone;
    gaps = runs.gaps;
    joined = runs.joined;
    until = each-weaker (IsUpTo time) (IsUpTo (Some next)) runs.past
        (λ at up. up-to-next time next at less up) runs.until;
    rises = runs.rises.1;
  }

-- the present time begins again
same-runs : (wave : Wave) (time next : ℕ) (happens : List Happens) (s : Sampling)
    → Runs wave (Some time) (At next ∷ happens) s → next ≡ time → Runs wave (Some time) happens s
same-runs wave time next happens s runs same = record {
  past = runs.past;
  sampler = runs.sampler;
  changes = runs.changes ∙ ap (λ (n : ℕ). runs.past ++ changes_after (Some n) happens) same;
  cut = runs.cut ∙ ap (λ (n : ℕ). cut_after (Some n) happens) same;
  gone = runs.gone;
  gaps = runs.gaps ∙ ap (λ (n : ℕ). runs.gone ++ gaps_after (Some n) happens) same;
  joined = runs.joined;
  until = runs.until;
  rises = subst (λ (n : ℕ). NeverFalls (Some n) happens) same runs.rises.1;
}

-- a value changes
value-before : (wave : Wave) (time : Option ℕ) (values other : List (List ℕ)) → other ≡ values
    → BeforeIs wave time values → BeforeIs wave time other
value-before wave None values other same before = tt
value-before wave (Some time) values other same before = same ∙ before

value-runs : (wave : Wave) (time : Option ℕ) (slot : ℕ) (digits : List ℕ) (happens : List Happens) (s : Sampling)
    → Runs wave time (Sets slot digits ∷ happens) s → Runs wave time happens (with_value s slot digits)
value-runs wave time slot digits happens s runs =
    let kept = value-kept s slot digits in
    let change : ValueChange = record { time = time; slot = slot; digits = digits } in
    record {
      past = runs.past ++ (record { time = time; slot = slot; digits = digits } ∷ []);
      sampler = record {
        present = kept.time ∙ runs.sampler.present;
        joins = kept.joins ∙ runs.sampler.joins;
        channels = kept.channels ∙ runs.sampler.channels;
        widths = kept.widths ∙ runs.sampler.widths;
        now = now-push wave runs.past s change runs.sampler.now runs.sampler.widths;
        before = value-before wave time s.before (with_value s slot digits).before kept.earlier runs.sampler.before;
        watched = subst (λ (ws : List Watched). WatchedSoFar wave time ws) (sym kept.watched) runs.sampler.watched;
        resets = subst (λ (r : Option WatchedReset). ResetSoFar wave time r) (sym kept.resets) runs.sampler.resets;
      };
      changes = runs.changes ∙ sym (append_assoc runs.past (change ∷ []) (changes_after time happens));
      cut = runs.cut;
      gone = runs.gone;
      gaps = runs.gaps;
      joined = runs.joined;
      until = each-push (IsUpTo time) runs.past change runs.until (up-to-self time);
      rises = runs.rises;
    }

-- changes are told again: there is a gap, and so no row behind it
module _ (wave : Wave) (time : Option ℕ) (line : ℕ) (happens : List Happens) (s : Sampling)
    (runs : Runs wave time (Resumes line ∷ happens) s) where
  gap-has : Contains wave.gaps time
  gap-has =
      subst (λ (gs : List (Option ℕ)). Contains gs time) (sym runs.gaps)
      (Contains-append_right runs.gone (time ∷ gaps_after time happens) time (0, omega arith, refl))

  runs-apart : some_crossed s.watched ≡ true → HasSampled wave time None no_rows
  runs-apart crossed = no-rows-there wave time None (λ row within. go time gap-has gap-is row within)
    where
      gap-is : MayLose wave time
      gap-is = crossed-gap wave time s.watched runs.sampler.watched crossed

      go : (at : Option ℕ) → Contains wave.gaps at → MayLose wave at → (row : SampledRow)
          → IsWithin wave at None row → ⊥
      go None has is row within = is
      go (Some at) has is row within =
          row-joined wave row within.is (Some at) has (le-leb at (time_of_sampled row) within.since) is

  runs-on : some_crossed s.watched ≡ false → Runs wave time happens s
  runs-on none = record {
    past = runs.past;
    sampler = runs.sampler;
    changes = runs.changes;
    cut = runs.cut;
    gone = runs.gone ++ (time ∷ []);
    gaps = runs.gaps ∙ sym (append_assoc runs.gone (time ∷ []) (gaps_after time happens));
    joined = λ gap has is. go gap (Contains-append_cases runs.gone (time ∷ []) gap has) is;
    until = runs.until;
    rises = runs.rises;
  }
    where
      one : (gap : Option ℕ) (k : ℕ) → k < length (time ∷ []) → get_or (time ∷ []) k gap ≡ gap → time ≡ gap
      one gap zero inside is = is
      one gap (suc k) inside is = absurd (omega (arith, inside))

      go : (gap : Option ℕ) → Contains runs.gone gap ⊎ Contains (time ∷ []) gap → MayLose wave gap → ⊥
      go gap (inl past) is = runs.joined gap past is
      go gap (inr self) is =
          let here : MayLose wave time =
          subst (λ (g : Option ℕ). MayLose wave g) (sym (one gap self.0 self.1 self.2)) is in
          both_ways (some_crossed s.watched) none (gap-crossed wave time s.watched runs.sampler.watched here)

same-rows : (s : Sampling) (next : ℕ) (happens : List Happens) → is_at s next ≡ true
    → rows_from (At next ∷ happens) s ≡ rows_from happens s
unfolding rows_from
same-rows s next happens same =
    cond-true (is_at s next) (rows_from happens s) (and_then (rows_now s) (rows_from happens (at_time s next))) same

later-rows : (s : Sampling) (next : ℕ) (happens : List Happens) → is_at s next ≡ false
    → rows_from (At next ∷ happens) s
    ≡ and_then (rows_now s) (rows_from happens (begun s next))
unfolding rows_from
later-rows s next happens other =
    cond-false (is_at s next) (rows_from happens s) (and_then (rows_now s) (rows_from happens (at_time s next))) other
    ∙ ap (λ (new : Sampling). and_then (rows_now s) (rows_from happens new))
    (cond-false (is_at s next) s (begun s next) other)

-- the rows of the rest, wherever it begins
abbrev Continues : Wave → List Happens → Type 0
Continues wave happens = (time : Option ℕ) (s : Sampling) → Runs wave time happens s
    → HasSampled wave time None (rows_from happens s)

later-has : (wave : Wave) (time : Option ℕ) (next : ℕ) (happens : List Happens) (s : Sampling)
    → Runs wave time (At next ∷ happens) s → IsLess time next → is_at s next ≡ false → Continues wave happens
    → HasSampled wave time None (rows_from (At next ∷ happens) s)
unfolding later-ends
later-has wave time next happens s runs less other more =
    subst (λ (r : Rows). HasSampled wave time None r) (sym (later-rows s next happens other))
    (join wave time next (rows_now s) (rows_from happens (begun s next)) less
    (ended wave time (Some next) (later-ends wave time next happens s runs less) s runs.sampler
    (now-below time next less))
    (more (Some next) (begun s next) (later-runs wave time next happens s runs less)))

time-on : (wave : Wave) (time : Option ℕ) (next : ℕ) (happens : List Happens) (s : Sampling)
    → Runs wave time (At next ∷ happens) s → Continues wave happens
    → HasSampled wave time None (rows_from (At next ∷ happens) s)
time-on wave None next happens s runs more =
    later-has wave None next happens s runs tt
    (ap (λ (at : Option ℕ). is_time at next) runs.sampler.present) more
time-on wave (Some time) next happens s runs more = go (cases_lt time next)
  where
    test : is_at s next ≡ (time == next)
    test = ap (λ (now : Option ℕ). is_time now next) runs.sampler.present

    go : (time < next) ⊎ (next ≤ time) → HasSampled wave (Some time) None (rows_from (At next ∷ happens) s)
    go (inl less) =
        later-has wave (Some time) next happens s runs less
        (test ∙ ne_eqb time next (λ same. omega (arith, less, same))) more
    go (inr order) =
        let same : next ≡ time = omega (arith, order, leb-true time next runs.rises.0) in
        subst (λ (r : Rows). HasSampled wave (Some time) None r)
        (sym (same-rows s next happens (test ∙ eq-eqb time next (sym same))))
        (more (Some time) s (same-runs wave time next happens s runs same))

resume-on : (wave : Wave) (time : Option ℕ) (line : ℕ) (happens : List Happens) (s : Sampling)
    → Runs wave time (Resumes line ∷ happens) s → Continues wave happens
    → HasSampled wave time None (cond (some_crossed s.watched) no_rows (rows_from happens s))
resume-on wave time line happens s runs more = go (some_crossed s.watched) refl
  where
    go : (t : Bool) → some_crossed s.watched ≡ t → HasSampled wave time None (cond t no_rows (rows_from happens s))
    go true crossed = runs-apart wave time line happens s runs crossed
    go false none = more time s (runs-on wave time line happens s runs none)

from-has : (wave : Wave) (happens : List Happens) (time : Option ℕ) (s : Sampling) → Runs wave time happens s
    → HasSampled wave time None (rows_from happens s)
unfolding rows_from
from-has wave [] time s runs = runs-out wave time s runs
from-has wave (At next ∷ happens) time s runs = time-on wave time next happens s runs (from-has wave happens)
from-has wave (Sets slot digits ∷ happens) time s runs =
    from-has wave happens time (with_value s slot digits) (value-runs wave time slot digits happens s runs)
from-has wave (Resumes line ∷ happens) time s runs = resume-on wave time line happens s runs (from-has wave happens)
from-has wave (Wrong line mistake ∷ happens) time s runs = runs-cut wave time runs.cut

-- before anything has happened
first-runs : (happens : List Happens) (probes : Probes) (before now : List (List ℕ)) (widths : List ℕ)
    → NeverFalls None happens
    → Runs (wave_of probes now widths happens) None happens (sampling_by probes before now widths)
first-runs happens probes before now widths rises =
    let wave = wave_of probes now widths happens in
    record {
      past = [];
      sampler = record {
        present = refl;
        joins = refl;
        channels = refl;
        widths = refl;
        now = values-none wave;
        before = tt;
        watched = refl;
        resets = refl;
      };
      changes = refl;
      cut = refl;
      gone = [];
      gaps = refl;
      joined = λ gap has. absurd (omega (arith, has.1));
      until = tt;
      rises = rises;
    }

-- the rows of a whole dump, by a sampler that has taken nothing
pub sampled : (happens : List Happens) (probes : Probes) (before now : List (List ℕ)) (widths : List ℕ)
    → NeverFalls None happens
    → AreSampled (wave_of probes now widths happens) (rows_from happens (sampling_by probes before now widths))
sampled happens probes before now widths rises =
    let wave = wave_of probes now widths happens in
    let has = from-has wave happens None (sampling_by probes before now widths)
    (first-runs happens probes before now widths rises) in
    record {
      sampled = has.sampled;
      each = λ row. (
        λ one. (has.each row one).is,
        λ is. has.all row (record { is = is; since = tt; before = tt }),
      );
      order = has.order;
      are = has.are;
    }

-- ---- how a whole dump ends

at-same : (s : Sampling) (next : ℕ) → is_at s next ≡ true → at_time s next ≡ s
at-same s next same = cond-true (is_at s next) s (begun s next) same

at-later : (s : Sampling) (next : ℕ) → is_at s next ≡ false
    → at_time s next ≡ begun s next
at-later s next other =
    cond-false (is_at s next) s (begun s next) other

abbrev Concludes : Wave → List Happens → Type 0
Concludes wave happens = (time : Option ℕ) (s : Sampling) → Runs wave time happens s
    → EndsSampled wave (end_in happens s)

time-ends : (wave : Wave) (time : Option ℕ) (next : ℕ) (happens : List Happens) (s : Sampling)
    → Runs wave time (At next ∷ happens) s → Concludes wave happens → EndsSampled wave (end_in happens (at_time s next))
time-ends wave None next happens s runs more =
    subst (λ (new : Sampling). EndsSampled wave (end_in happens new))
    (sym (at-later s next (ap (λ (at : Option ℕ). is_time at next) runs.sampler.present)))
    (more (Some next) (begun s next)
    (later-runs wave None next happens s runs tt))
time-ends wave (Some time) next happens s runs more = go (cases_lt time next)
  where
    test : is_at s next ≡ (time == next)
    test = ap (λ (now : Option ℕ). is_time now next) runs.sampler.present

    go : (time < next) ⊎ (next ≤ time) → EndsSampled wave (end_in happens (at_time s next))
    go (inl less) =
        subst (λ (new : Sampling). EndsSampled wave (end_in happens new))
        (sym (at-later s next (test ∙ ne_eqb time next (λ same. omega (arith, less, same)))))
        (more (Some next) (begun s next)
        (later-runs wave (Some time) next happens s runs less))
    go (inr order) =
        let same : next ≡ time = omega (arith, order, leb-true time next runs.rises.0) in
        subst (λ (new : Sampling). EndsSampled wave (end_in happens new))
        (sym (at-same s next (test ∙ eq-eqb time next (sym same))))
        (more (Some time) s (same-runs wave time next happens s runs same))

resume-ends : (wave : Wave) (time : Option ℕ) (line : ℕ) (happens : List Happens) (s : Sampling) → HasNoGap wave
    → Runs wave time (Resumes line ∷ happens) s → Concludes wave happens
    → EndsSampled wave (cond (some_crossed s.watched) (BeforeLine line Gap) (end_in happens s))
resume-ends wave time line happens s joined runs more = go (some_crossed s.watched) refl
  where
    go : (t : Bool) → some_crossed s.watched ≡ t → EndsSampled wave (cond t (BeforeLine line Gap) (end_in happens s))
    go true crossed =
        absurd (joined time (gap-has wave time line happens s runs)
        (crossed-gap wave time s.watched runs.sampler.watched crossed))
    go false none = more time s (runs-on wave time line happens s runs none)

from-ends : (wave : Wave) (happens : List Happens) → wave.cut ≡ None → HasNoGap wave → Concludes wave happens
unfolding end_in last-ends
from-ends wave [] whole joined time s runs = record {
  watched = watched_now s;
  are = watched-next wave time None (last-ends wave time s runs) s runs.sampler (now-below-none time);
  is = refl;
}
from-ends wave (At next ∷ happens) whole joined time s runs =
    time-ends wave time next happens s runs (from-ends wave happens whole joined)
from-ends wave (Sets slot digits ∷ happens) whole joined time s runs =
    from-ends wave happens whole joined time (with_value s slot digits) (value-runs wave time slot digits happens s runs)
from-ends wave (Resumes line ∷ happens) whole joined time s runs =
    resume-ends wave time line happens s joined runs (from-ends wave happens whole joined)
from-ends wave (Wrong line mistake ∷ happens) whole joined time s runs =
    let both : ◌≡◌ {A = Option (Option ℕ)} None (Some time) = sym whole ∙ runs.cut in absurd (cc)

pub ends-sampled : (happens : List Happens) (probes : Probes) (before now : List (List ℕ)) (widths : List ℕ)
    → NeverFalls None happens → cut_after None happens ≡ None → HasNoGap (wave_of probes now widths happens)
    → EndsSampled (wave_of probes now widths happens) (end_in happens (sampling_by probes before now widths))
ends-sampled happens probes before now widths rises whole joined =
    from-ends (wave_of probes now widths happens) happens whole joined None (sampling_by probes before now widths)
    (first-runs happens probes before now widths rises)
