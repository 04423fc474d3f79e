-- The counts of requests and of replies in a text of what was covered are those of the verdict.
use Rattle.std.proofs.Common.{◌≡◌, ◌∙◌, ℕ, ◌+◌, ◌≤◌, ◌<◌, ◌%◌, ◌^◌, Bool, true, false, if◌then◌else◌, List, [], ◌∷◌, length, ap, sym, arith}
use Rattle.std.specs.List.{AllByRecursion}
use Rattle.std.proofs.lemmas.List.Sorted.{length_permutation}
use Rattle.check_sides.specs.Plan.{Layout}
use Rattle.check_rows.specs.Row.{SeenRow}
use Rattle.check_bins.specs.declared.bin.Bin.{Bin}
use Rattle.check_coverage.specs.Bins.{bins}
use Rattle.check_bins.specs.Text.{TellsCoverage}
use Rattle.check_review.specs.Verdict.{VerdictCounts, SystemPlan, HasCounts}
use Rattle.check_review.specs.Count.{answered_in, answered_in_past, asked_in, asked_in_past}
use Rattle.check_review.specs.Order.{is_watched, watched}
use Rattle.check_review.specs.Stretches.{IsLawfulStretch, Stretch, bins_in, sightings_in, stretches, watched_in}
use Rattle.check_text_laws.specs.Sums.{is_answered, is_asked, sum_of}
use Rattle.check_text_laws.proofs.Across.{ended_lawful, rows_at_most, rows_in}
use Rattle.check_text_laws.proofs.Numbers.{answered_at_most, answered_is, asked_at_most, asked_is, how_many, how_many-append}
use Rattle.check_text_laws.proofs.Sums.{often_at_most, sum_is}

-- few enough bins of a kind are all counted
told : (ports : ℕ) (all : List Bin) (old new : List ℕ) (tells : TellsCoverage ports all old new) (is_one : Bin → Bool)
    → how_many is_one all < 2 ^ 64 → sum_of is_one tells.entries ≡ how_many is_one all
told ports all old new tells is_one few =
    sum_is is_one tells.entries all tells.sorted (λ bin is.
    let most = often_at_most is_one bin all is in
    let counts = tells.counts bin in
    omega (arith, most, few, counts))

watched_at_most : (layout : Layout) (rows : List SeenRow) → length (watched layout rows) ≤ length rows
watched_at_most layout [] = omega arith
watched_at_most layout (row ∷ rows) = go (is_watched layout row.sighting.link) (watched_at_most layout rows)
  where
    go : (b : Bool) → length (watched layout rows) ≤ length rows
        → length (if b then row ∷ watched layout rows else watched layout rows) ≤ length (row ∷ rows)
    go true rest = omega (arith, rest)
    go false rest = omega (arith, rest)

-- ---- stretches

all_asked : (all : List Stretch) → how_many is_asked (bins_in all) % 2 ^ 64 ≡ asked_in all
all_asked [] = omega arith
all_asked (stretch ∷ ended) =
    let here = how_many is_asked (bins stretch.plan (watched_in stretch)) in
    let before = how_many is_asked (bins_in ended) in
    let sum = how_many-append is_asked (bins stretch.plan (watched_in stretch)) (bins_in ended) in
    let turned : how_many is_asked (bins_in (stretch ∷ ended)) % 2 ^ 64 ≡ (before + here) % 2 ^ 64 =
    ap (λ n. n % 2 ^ 64) (omega (arith, sum)) in
    turned ∙ asked_is before stretch.plan (watched_in stretch)
    ∙ ap (λ n. asked_in_past n stretch.plan (sightings_in stretch)) (all_asked ended)

few_asked : (all : List Stretch) → how_many is_asked (bins_in all) ≤ rows_in all
few_asked [] = omega arith
few_asked (stretch ∷ ended) =
    let sum = how_many-append is_asked (bins stretch.plan (watched_in stretch)) (bins_in ended) in
    let here = asked_at_most stretch.plan (watched_in stretch) in
    let few = watched_at_most stretch.plan.layout stretch.rows in
    let rest = few_asked ended in
    omega (arith, sum, here, few, rest)

all_answered : (all : List Stretch) → AllByRecursion IsLawfulStretch all
    → how_many is_answered (bins_in all) % 2 ^ 64 ≡ answered_in all
all_answered [] lawful = omega arith
all_answered (stretch ∷ ended) lawful =
    let here = how_many is_answered (bins stretch.plan (watched_in stretch)) in
    let before = how_many is_answered (bins_in ended) in
    let sum = how_many-append is_answered (bins stretch.plan (watched_in stretch)) (bins_in ended) in
    let turned : how_many is_answered (bins_in (stretch ∷ ended)) % 2 ^ 64 ≡ (before + here) % 2 ^ 64 =
    ap (λ n. n % 2 ^ 64) (omega (arith, sum)) in
    turned ∙ answered_is before stretch.plan (watched_in stretch) lawful.0.beats
    ∙ ap (λ n. answered_in_past n stretch.plan (sightings_in stretch)) (all_answered ended lawful.1)

few_answered : (all : List Stretch) → AllByRecursion IsLawfulStretch all → how_many is_answered (bins_in all) ≤ rows_in all
few_answered [] lawful = omega arith
few_answered (stretch ∷ ended) lawful =
    let sum = how_many-append is_answered (bins stretch.plan (watched_in stretch)) (bins_in ended) in
    let here = answered_at_most stretch.plan (watched_in stretch) lawful.0.beats in
    let few = watched_at_most stretch.plan.layout stretch.rows in
    let rest = few_answered ended lawful.1 in
    omega (arith, sum, here, few, rest)

-- ---- the text

module _ (plan : SystemPlan) (file : List SeenRow) (counts : VerdictCounts) (old new : List ℕ)
    (has : HasCounts plan file counts) (few : length file < 2 ^ 64)
    (tells : TellsCoverage (length plan.begins.layout.ports) (bins_in (stretches has.course)) old new) where
  abbrev all : List Stretch
  all = stretches has.course

  few_rows : rows_in all < 2 ^ 64
  few_rows =
      let same : length has.crossed ≡ length file = length_permutation file has.crossed has.crossing.same in
      let most = rows_at_most plan has.crossed has.course.now has.course.ended has.course.are in
      omega (arith, same, most, few)

  pub asked_add_up : sum_of is_asked tells.entries ≡ counts.requests
  asked_add_up =
      let most = few_asked all in
      let few_bins : how_many is_asked (bins_in all) < 2 ^ 64 = omega (arith, most, few_rows) in
      let whole : how_many is_asked (bins_in all) ≡ how_many is_asked (bins_in all) % 2 ^ 64 = omega (arith, few_bins) in
      told (length plan.begins.layout.ports) (bins_in all) old new tells is_asked few_bins ∙ whole ∙ all_asked all
      ∙ sym has.requests

  pub answered_add_up : IsLawfulStretch has.course.now → sum_of is_answered tells.entries ≡ counts.answered
  answered_add_up lawful =
      let are : AllByRecursion IsLawfulStretch all =
      (lawful, ended_lawful plan has.crossed has.course.now has.course.ended has.course.are) in
      let most = few_answered all are in
      let few_bins : how_many is_answered (bins_in all) < 2 ^ 64 = omega (arith, most, few_rows) in
      let whole : how_many is_answered (bins_in all) ≡ how_many is_answered (bins_in all) % 2 ^ 64 = omega (arith, few_bins) in
      told (length plan.begins.layout.ports) (bins_in all) old new tells is_answered few_bins ∙ whole ∙ all_answered all are
      ∙ sym has.answered
