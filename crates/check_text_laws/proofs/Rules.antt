-- What lawful verdicts say of rows.
use Rattle.std.proofs.Common.{◌≡◌, ◌∙◌, ℕ, ◌<◌, ◌≤◌, ◌⊎◌, inl, inr, Option, Some, None, IsTrue, Bool, if◌then◌else◌, true, false, List, [], ◌∷◌, ◌++◌, map, filter, refl, sym, ap, ltb→lt, T, subst, arith}
use Rattle.std.specs.Prelude.{◌&&◌, nat_lt, length, option_to_list}
use Rattle.std.specs.List.{AllByRecursion}
use Rattle.std.specs.List.Sorted.{IsPermutation}
use Rattle.std.proofs.lemmas.Bool.{true≢false}
use Rattle.std.proofs.lemmas.List.Elements.{All-from_recursion, recursion_from_All}
use Rattle.std.proofs.lemmas.List.Sorted.{All-permutation}
use Rattle.check_flight.specs.Side.{bus_at}
use Rattle.check_watch.specs.declared.beat.Link.{Link}
use Rattle.check_watch.specs.declared.beat.Link.TheVariants.{Master, Port}
use Rattle.check_watch.specs.declared.links.Links.{Links}
use Rattle.check_watch.specs.declared.links.Links.TheVariants.{Both, Masters, Ports, Each}
use Rattle.check_sides.specs.Plan.{Layout, IsPlan, HasLink, IsWatched, bus_of}
use Rattle.check_rows.specs.Buses.{bus_of_link as row_bus}
use Rattle.check_rows.specs.Row.{SeenRow}
use Rattle.check_review.specs.Verdict.{SystemPlan, IsBreach, IsLateAfter, IsLawfulFile, IsFirstUnlawful, IsUnlawfulAfter, VerdictCounts}
use Rattle.check_review.specs.Stretches.{IsLawfulStretch, Stretch, sightings_in, stretches}
use Rattle.check_turns.specs.Lawful.{IsLawfulInOrder}
use Rattle.check_turns.specs.Turns.{AreInTurn}
use Rattle.check_review.proofs.Watched.{lawful_rest}
use Rattle.check_review.specs.Order.{are_masters_watched, are_ports_watched, is_watched, sightings_of}
use Rattle.check_rows.specs.declared.request.Left.{Left}
use Rattle.check_review.specs.declared.stop.Unlawful.{Unlawful}
use Rattle.check_records.specs.Text.{TextPlace, RecordRow as Record}
use Rattle.check_text.specs.Buses.{HasBuses, LinkBuses}
use Rattle.check_text.specs.Capture.{IsVerdict}
use Rattle.check_text.specs.Rows.{HasRows, SpellAll}
use Rattle.check_text.specs.declared.fault.Verdict.TheVariants.{Incomplete, Lawful, Unlawful as Not}
use Rattle.check_text_laws.specs.Groups.{AreAllCompliant, AreAllWatched, EachGroupKeepsRules}
use Rattle.check_text_laws.proofs.Across.{Fits, each_fits, ended_lawful}
use Rattle.check_text_laws.proofs.GroupRules.{always_keeps, rules_make_lawful, all_compliant}
use Rattle.check_text_laws.proofs.Lanes.{lanes_of_judged_are}
use Rattle.check_text_laws.specs.Rules.{FileKeepsRules, BreaksRules, CaptureKeepsRules, CaptureBreaksRules, CaptureLeaves, HaveLanes, IsBroken, IsBrokenBy, StretchKeepsRules}

less : (m n : ℕ) → nat_lt m n ≡ true → m < n
less m n is = ltb→lt m n (subst (λ b. T b) (sym is) tt)

both_true : (a b : Bool) → (a && b) ≡ true → (a ≡ true) × (b ≡ true)
both_true true b is = (refl, is)
both_true false b is = cc

masters_watched : (links : Links) (m : ℕ) → are_masters_watched links ≡ true → IsWatched links (Master m)
masters_watched Both m is = tt
masters_watched Masters m is = tt
masters_watched Ports m is = cc
masters_watched Each m is = tt

ports_watched : (links : Links) (p : ℕ) → are_ports_watched links ≡ true → IsWatched links (Port p)
ports_watched Both p is = tt
ports_watched Masters p is = cc
ports_watched Ports p is = tt
ports_watched Each p is = tt

watched_link : (layout : Layout) (link : Link) → is_watched layout link ≡ true → HasLink layout link
    × IsWatched layout.links link
watched_link layout (Master m) is =
    let both = both_true (are_masters_watched layout.links) (nat_lt m (length layout.owners)) is in
    (less m (length layout.owners) both.1, masters_watched layout.links m both.0)
watched_link layout (Port p) is =
    let both = both_true (are_ports_watched layout.links) (nat_lt p (length layout.ports)) is in
    (less p (length layout.ports) both.1, ports_watched layout.links p both.0)

-- what is seen of rows with their lanes is at links that are watched
seen_watched : (layout : Layout) (crossed : List SeenRow)
    → AllByRecursion (λ (r : SeenRow). bus_of layout r.sighting.link ≤ length r.sighting.lanes) crossed
    → AreAllWatched layout (sightings_of layout crossed)
seen_watched layout [] have = tt
seen_watched layout (row ∷ crossed) have =
    go (seen_watched layout crossed have.1) (is_watched layout row.sighting.link) refl
  where
    go : AreAllWatched layout (sightings_of layout crossed) → (watched : Bool) → is_watched layout row.sighting.link ≡ watched
        → AreAllWatched layout (map (λ (r : SeenRow). r.sighting)
        (if watched then row ∷ filter (λ (r : SeenRow). is_watched layout r.sighting.link) crossed else filter
        (λ (r : SeenRow). is_watched layout r.sighting.link) crossed))
    go before true is =
        let link = watched_link layout row.sighting.link is in
        (record { link = link.0; watched = link.1; lanes = have.0 }, before)
    go before false is = before

-- the same of a stretch
stretch_watched : (layout : Layout) (stretch : Stretch) → Fits layout stretch
    → AreAllWatched stretch.plan.layout (sightings_in stretch)
stretch_watched layout stretch fits =
    subst (λ l. AreAllWatched l (sightings_of l stretch.rows)) (sym fits.layout_is)
    (seen_watched layout stretch.rows fits.lanes)

-- the rows of a file have their lanes in whatever order they cross
have_crossed : (layout : Layout) (file crossed : List SeenRow) → HaveLanes layout file → IsPermutation file crossed
    → HaveLanes layout crossed
have_crossed layout file crossed have same =
    let P : SeenRow → Type 0 =
    λ row. row.is_reset ≡ false → bus_of layout row.sighting.link ≤ length row.sighting.lanes in
    recursion_from_All P crossed (All-permutation P file crossed same (All-from_recursion P file have))

-- lawful stretches keep the rules
each_keeps : (layout : Layout) (all : List Stretch) → AllByRecursion (Fits layout) all → AllByRecursion IsLawfulStretch all
    → AllByRecursion StretchKeepsRules all
each_keeps layout [] fit lawful = tt
each_keeps layout (stretch ∷ ended) fit lawful = (
  record {
    keeps = always_keeps stretch.plan (sightings_in stretch) fit.0.plan_is (stretch_watched layout stretch fit.0) lawful.0.beats;
    whole = all_compliant stretch.plan (sightings_in stretch) lawful.0.beats;
    turns = lawful.0.turns;
  },
  each_keeps layout ended fit.1 lawful.1,
)

pub file_keeps : (plan : SystemPlan) (file : List SeenRow) → IsPlan plan.begins → HaveLanes plan.begins.layout file
    → IsLawfulFile plan file → FileKeepsRules plan file
file_keeps plan file is have lawful =
    let course = lawful.course in
    let lanes = have_crossed plan.begins.layout file lawful.crossed have lawful.crossing.same in
    record {
      crossed = lawful.crossed;
      crossing = lawful.crossing;
      course = course;
      each = each_keeps plan.begins.layout (stretches course)
          (each_fits plan lawful.crossed course.now course.ended is lanes course.are)
          (lawful.lawful, ended_lawful plan lawful.crossed course.now course.ended course.are);
      in_time = lawful.in_time;
    }

pub rules_make_lawful_file : (plan : SystemPlan) (file : List SeenRow) → IsPlan plan.begins
    → HaveLanes plan.begins.layout file → FileKeepsRules plan file → IsLawfulFile plan file
rules_make_lawful_file plan file is have rules =
    let course = rules.course in
    let lanes = have_crossed plan.begins.layout file rules.crossed have rules.crossing.same in
    let fit = each_fits plan rules.crossed course.now course.ended is lanes course.are in
    record {
      crossed = rules.crossed;
      crossing = rules.crossing;
      course = course;
      lawful = record {
        beats = rules_make_lawful course.now.plan (sightings_in course.now) fit.0.plan_is
            (stretch_watched plan.begins.layout course.now fit.0) rules.each.0.whole rules.each.0.keeps;
        turns = rules.each.0.turns;
      };
      in_time = rules.in_time;
    }

-- what stands after some of a list
rest_have : (layout : Layout) (after before : List SeenRow) → HaveLanes layout (after ++ before) → HaveLanes layout before
rest_have layout [] before have = have
rest_have layout (row ∷ after) before have = rest_have layout after before have.1

-- the rows before one that breaks the rules are lawful
lawful_so : (within : Option ℕ) (stretch : Stretch) (row : SeenRow) (found : Unlawful)
    → IsUnlawfulAfter stretch row found ⊎ IsLateAfter within stretch row found → IsLawfulStretch stretch
lawful_so within stretch row found (inl is) = is.lawful
lawful_so within stretch row found (inr is) = lawful_rest stretch.plan (row ∷ []) stretch.rows is.lawful

-- how a row after a stretch breaks the rules
module _ (plan : SystemPlan) (stretch : Stretch) (row : SeenRow) (found : Unlawful) (fit : Fits plan.begins.layout stretch)
    (have : bus_of plan.begins.layout row.sighting.link ≤ length row.sighting.lanes) where
  -- the beat is lawful if the rules are kept
  beat_lawful : IsTrue (is_watched stretch.plan.layout row.sighting.link)
      → AreAllCompliant stretch.plan (row.sighting ∷ sightings_in stretch)
      → EachGroupKeepsRules stretch.plan (row.sighting ∷ sightings_in stretch)
      → AreInTurn stretch.plan (row.sighting ∷ sightings_in stretch)
      → IsLawfulInOrder stretch.plan (row.sighting ∷ sightings_in stretch)
  beat_lawful watched whole keeps turns =
      let link = watched_link stretch.plan.layout row.sighting.link watched in
      record {
        beats = rules_make_lawful stretch.plan (row.sighting ∷ sightings_in stretch) fit.plan_is (
          record {
            link = link.0;
            watched = link.1;
            lanes = subst (λ l. bus_of l row.sighting.link ≤ length row.sighting.lanes) (sym fit.layout_is) have;
          },
          stretch_watched plan.begins.layout stretch fit,
        ) whole keeps;
        turns = turns;
      }

  broken_by : IsUnlawfulAfter stretch row found ⊎ IsLateAfter plan.within stretch row found
      → IsBrokenBy plan.within stretch row found.row
  broken_by (inl is) = record {
    is = is.named;
    broken = λ whole keeps turns times. is.unlawful (beat_lawful is.watched whole keeps turns);
  }
  broken_by (inr is) = record {
    is = is.named;
    broken = λ whole keeps turns times. true≢false (sym is.late ∙ times is.limit is.asked);
  }

-- how what makes a file unlawful breaks the rules
broken_so : (plan : SystemPlan) (now : Stretch) (before : List SeenRow) (time : ℕ) (found : Unlawful)
    → Fits plan.begins.layout now → (next : Option SeenRow)
    → HaveLanes plan.begins.layout (option_to_list next ++ before) → IsBreach plan.within time now next found
    → IsBroken plan.within time now next found.row × IsLawfulStretch now
broken_so plan now before time found fit None lanes breach = (
  record {
    row = breach.row;
    before = breach.before;
    are = breach.are;
    now = breach.now;
    limit = breach.limit;
    asked = breach.asked;
    first = breach.first;
    late = breach.late;
    is = breach.named;
  },
  breach.lawful,
)
broken_so plan now before time found fit (Some row) lanes breach = (
  (breach.0, broken_by plan now row found fit (lanes.0 breach.1) breach.2),
  lawful_so plan.within now row found breach.2,
)

-- what makes a file unlawful breaks the rules, and nothing before it does
pub unlawful_breaks : (plan : SystemPlan) (file : List SeenRow) (found : Unlawful) → IsPlan plan.begins
    → HaveLanes plan.begins.layout file → IsFirstUnlawful plan file found → BreaksRules plan file found.row
unlawful_breaks plan file found is have first =
    let course = first.course in
    let now = course.now in
    let there : HaveLanes plan.begins.layout (option_to_list first.next ++ first.before) =
    rest_have plan.begins.layout first.after (option_to_list first.next ++ first.before)
    (have_crossed plan.begins.layout file (first.after ++ (option_to_list first.next ++ first.before)) have
    first.crossing.same) in
    let here : HaveLanes plan.begins.layout first.before =
    rest_have plan.begins.layout (option_to_list first.next) first.before there in
    let fit = each_fits plan first.before now course.ended is here course.are in
    let both = broken_so plan now first.before first.time found fit.0 first.next there first.is in
    record {
      next = first.next;
      time = first.time;
      after = first.after;
      before = first.before;
      crossing = first.crossing;
      course = course;
      each = each_keeps plan.begins.layout (stretches course) fit
          (both.1, ended_lawful plan first.before now course.ended course.are);
      in_time = first.in_time;
      broken = both.0;
      last = first.last;
    }

-- ---- the rows of a text have the lanes that its system's buses give them

bus_same : (layout : Layout) (buses : LinkBuses) (link : Link) → HasBuses layout buses
    → bus_of layout link ≡ row_bus buses.masters buses.ports link
bus_same layout buses (Master number) same = ap (λ all. bus_at all number) same.masters
bus_same layout buses (Port number) same = ap (λ all. bus_at all number) same.ports

all_have : (layout : Layout) (buses : LinkBuses) (records : List Record) (rows : List SeenRow) → HasBuses layout buses
    → SpellAll buses records rows → HaveLanes layout rows
all_have layout buses [] [] same spell = tt
all_have layout buses [] (row ∷ rows) same spell = absurd spell
all_have layout buses (r ∷ records) [] same spell = absurd spell
all_have layout buses (r ∷ records) (row ∷ rows) same spell =
    let bus = bus_same layout buses row.sighting.link same in (
      λ beat.
          let lanes = lanes_of_judged_are buses r.line r.fields row spell.0 beat in
          omega (arith, lanes, bus),
      all_have layout buses records rows same spell.1,
    )

pub rows_have : (layout : Layout) (buses : LinkBuses) (rows : List SeenRow) (from at : TextPlace) → HasBuses layout buses
    → HasRows buses rows from at → HaveLanes layout rows
rows_have layout buses rows from at same has = all_have layout buses has.records rows same has.spell

pub capture_keeps : (asked : Bool) (plan : SystemPlan) (buses : LinkBuses) (from : TextPlace) (counts : VerdictCounts) → IsPlan plan.begins
    → HasBuses plan.begins.layout buses → IsVerdict asked plan buses from (Lawful counts)
    → CaptureKeepsRules asked plan buses from counts
capture_keeps asked plan buses from counts is same verdict =
    let begins = verdict.1.begins in
    record {
      rows = verdict.0;
      is = verdict.1;
      keeps = file_keeps plan verdict.0 is (rows_have plan.begins.layout buses verdict.0 _ _ same begins.has) verdict.2;
      counted = verdict.3;
      complete = verdict.4;
    }

pub capture_leaves : (asked : Bool) (plan : SystemPlan) (buses : LinkBuses) (from : TextPlace) (over : Left) → IsPlan plan.begins
    → HasBuses plan.begins.layout buses → IsVerdict asked plan buses from (Incomplete over)
    → CaptureLeaves asked plan buses from over
capture_leaves asked plan buses from over is same verdict =
    let begins = verdict.1.begins in
    record {
      rows = verdict.0;
      is = verdict.1;
      keeps = file_keeps plan verdict.0 is (rows_have plan.begins.layout buses verdict.0 _ _ same begins.has) verdict.2;
      left = verdict.3;
    }

pub capture_breaks : (asked : Bool) (plan : SystemPlan) (buses : LinkBuses) (from : TextPlace) (found : Unlawful) → IsPlan plan.begins
    → HasBuses plan.begins.layout buses → IsVerdict asked plan buses from (Not found)
    → CaptureBreaksRules plan buses from found
capture_breaks asked plan buses from found is same verdict = record {
  rows = verdict.0;
  place = verdict.1;
  begins = verdict.2;
  over = verdict.3;
  breaks = unlawful_breaks plan verdict.0 found is
      (rows_have plan.begins.layout buses verdict.0 _ _ same verdict.2.has) verdict.4;
}
