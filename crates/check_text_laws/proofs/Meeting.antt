-- If no contested request is counted at a port, no two whole requests of it that are in flight meet.
use Rattle.std.proofs.Common.{◌≡◌, ◌∙◌, ℕ, ◌+◌, ◌^◌, Bool, true, false, not, ◌&&◌, ◌||◌, cond, if◌then◌else◌, List, [], ◌∷◌, ◌++◌, Option, Some, None, refl, ap, sym, subst, arith, eqb-true}
use Rattle.std.specs.Prelude.{◌==◌, nat_lt}
use Rattle.std.specs.List.{list_any}
use Rattle.std.specs.Ordering.{is_eq}
use Rattle.std.proofs.lemmas.Bool.{eq-eqb, eqb-false}
use Rattle.check_beats.specs.Message.{ask_beats}
use Rattle.check_beats.specs.declared.beat.AskHead.{AskHead}
use Rattle.check_beats.specs.declared.beat.ReplyHead.{ReplyHead}
use Rattle.check_watch.specs.declared.beat.Beat.{Beat}
use Rattle.check_watch.specs.declared.beat.Beat.TheVariants.{A, D}
use Rattle.check_watch.specs.declared.seen.Ended.{Ended}
use Rattle.check_sides.specs.Plan.{Plan, bus_of}
use Rattle.check_rows.specs.Row.{SeenRow}
use Rattle.check_bins.specs.declared.bin.Bin.{Bin}
use Rattle.check_bins.specs.declared.bin.Bin.TheVariants as bin
use Rattle.check_bins.specs.declared.bin.CountedChannel.TheVariants as channel
use Rattle.check_coverage.specs.Bins.{after_bins, ask_bins, ask_part_bins, bins, bins_by, bins_of, contested_bins, contests, first_bins, is_of_port, lane_bins, last_bins, mask_bins, meets, of_found, operation_of, bin_pair, place_bins, writes}
use Rattle.check_coverage.specs.Flights.{InFlight, end_of, flights_after, in_flight, is_counted, is_of, is_unaligned, ends_an_ask, ends_a_reply, wide_at}
use Rattle.check_coverage.specs.Latest.{is_last_ask, latest_at}
use Rattle.check_coverage.specs.Times.{times_at}
use Rattle.check_coverage.specs.declared.times.Times.{Times}
use Rattle.check_coverage.specs.Mirrors.{MirrorsView, mirrors_at, place_of}
use Rattle.check_bins.specs.Counting.{bin_cmp, how_often}
use Rattle.check_bins.proofs.Counted.{how_often-append}
use Rattle.check_bins.proofs.Exact.{same}
use Rattle.check_text_laws.proofs.Finding.{found, found_of, left, other_left, other_stays, own_found, own_left}

-- two whole requests of the port, of different sources, do not meet
abbrev pub ApartAt : Plan → ℕ → List InFlight → Type 0
ApartAt plan port flights =
    (wide other : ℕ) (one two : InFlight) → (wide == other) ≡ false → found wide flights ≡ Some one
    → found other flights ≡ Some two → one.is_whole ≡ true → two.is_whole ≡ true → one.port ≡ port → two.port ≡ port
    → meets (mirrors_at plan port) one.first two.first ≡ false

-- ---- counts

never_more : (bin x : Bin) (xs : List Bin) → how_often bin (x ∷ xs) ≡ 0 → how_often bin xs ≡ 0
never_more bin x xs none = by (is_eq (bin_cmp x bin)) none
  where
    by : (b : Bool) → (if b then how_often bin xs + 1 else how_often bin xs) ≡ 0 → how_often bin xs ≡ 0
    by true so = absurd (omega (arith, so))
    by false so = so

never_first : (bin : Bin) (xs ys : List Bin) → how_often bin (xs ++ ys) ≡ 0 → how_often bin xs ≡ 0
never_first bin xs ys none = let sum = how_often-append bin xs ys in omega (arith, sum, none)

never_last : (bin : Bin) (xs ys : List Bin) → how_often bin (xs ++ ys) ≡ 0 → how_often bin ys ≡ 0
never_last bin xs ys none = let sum = how_often-append bin xs ys in omega (arith, sum, none)

-- ---- one request and the others

-- a request that none contests is contested by none that is found
found_fails : (test : InFlight → Bool) (wide : ℕ) (flights : List InFlight) (two : InFlight)
    → list_any test flights ≡ false → found wide flights ≡ Some two → test two ≡ false
found_fails test wide [] two none is = cc
found_fails test wide (x ∷ xs) two none is =
    go (is_of wide x) (test x) refl none is (found_fails test wide xs two)
  where
    go : (b t : Bool) → test x ≡ t → (t || list_any test xs) ≡ false → cond b (Some x) (found wide xs) ≡ Some two
        → (list_any test xs ≡ false → found wide xs ≡ Some two → test two ≡ false) → test two ≡ false
    go b true is_t fails so rest = absurd (cc)
    go true false is_t fails so rest = let there : x ≡ two = cc in subst (λ f. test f ≡ false) there is_t
    go false false is_t fails so rest = rest fails so

last_of_four : (a b c m : Bool) → ((a && b) && (c && m)) ≡ false → a ≡ true → b ≡ true → c ≡ true → m ≡ false
last_of_four true true true m fails is_a is_b is_c = fails
last_of_four true true false m fails is_a is_b is_c = absurd (cc)
last_of_four true false c m fails is_a is_b is_c = absurd (cc)
last_of_four false b c m fails is_a is_b is_c = absurd (cc)

not_contests : (mirrors : MirrorsView) (one two : InFlight) → contests mirrors one two ≡ false → is_of one.wide two ≡ false
    → two.port ≡ one.port → two.is_whole ≡ true → meets mirrors one.first two.first ≡ false
not_contests mirrors one two fails apart port whole =
    last_of_four (not (is_of one.wide two)) (is_of_port one.port two) two.is_whole (meets mirrors one.first two.first) fails
    (ap not apart) (eq-eqb two.port one.port port) whole

-- requests meet each other
meets_turned : (mirrors : MirrorsView) (one two : AskHead) → meets mirrors one two ≡ meets mirrors two one
meets_turned mirrors one two =
    go (nat_lt (place_of mirrors one) (place_of mirrors two + 2 ^ two.size))
    (nat_lt (place_of mirrors two) (place_of mirrors one + 2 ^ one.size)) (writes one) (writes two)
  where
    go : (a b c d : Bool) → ((a && b) && (c || d)) ≡ ((b && a) && (d || c))
    go true true true true = refl
    go true true true false = refl
    go true true false true = refl
    go true true false false = refl
    go true false c d = refl
    go false true c d = refl
    go false false c d = refl

apart_turned : (wide other : ℕ) → (wide == other) ≡ false → (other == wide) ≡ false
apart_turned wide other apart = go (other == wide) refl
  where
    go : (b : Bool) → (other == wide) ≡ b → b ≡ false
    go true is = absurd (eqb-false wide other apart (sym (eqb-true other wide is)))
    go false is = refl

-- the request that is found of one source is not of another
found_apart : (wide other : ℕ) (flights : List InFlight) (one two : InFlight) → (wide == other) ≡ false
    → found wide flights ≡ Some one → found other flights ≡ Some two → is_of one.wide two ≡ false
found_apart wide other flights one two apart here there =
    let mine : one.wide ≡ wide = eqb-true one.wide wide (found_of wide flights one here) in
    let its : two.wide ≡ other = eqb-true two.wide other (found_of other flights two there) in
    (λ i. its i == mine i) ∙ apart_turned wide other apart

some_same : (x y : InFlight) → Some x ≡ Some y → x ≡ y
some_same x y is = cc

-- ---- one beat more

module _ (plan : Plan) (port bus own : ℕ) (flights : List InFlight) (time : ℕ) (times : Times) (end : Ended)
    (before : ApartAt plan port flights) where
  abbrev contested : Bin
  contested = bin.Contested port

  module _ (beat : AskHead)
      (none : how_often (bin.Contested port) (bins_by plan bus own flights time times (A beat) end) ≡ 0) where
    abbrev next : List InFlight
    next = flights_after plan bus own flights (A beat) end

    -- a request of the port that ends with this beat is contested by none
    uncontested : (one : InFlight) → found own next ≡ Some one → ends_an_ask end ≡ true → one.port ≡ port
        → list_any (contests (mirrors_at plan one.port) one) next ≡ false
    uncontested one here whole is_port = by (list_any (contests (mirrors_at plan one.port) one) next) refl
      where
        last : how_often contested (last_bins plan bus own next beat end) ≡ 0
        last =
            let parts = of_found (found own next) (ask_part_bins plan.layout.rules time times.asked beat.corrupt) in
            never_first contested (last_bins plan bus own next beat end) parts
            (never_last contested (first_bins plan own flights time times.answered beat)
            (last_bins plan bus own next beat end ++ parts) none)

        all : how_often contested (ask_bins plan bus next beat one) ≡ 0
        all =
            let same_bins : last_bins plan bus own next beat end ≡ ask_bins plan bus next beat one =
            λ i. if whole i then of_found (here i) (ask_bins plan bus next beat) else [] in
            sym (ap (λ l. how_often contested l) same_bins) ∙ last

        mine : how_often contested (contested_bins plan next one) ≡ 0
        mine =
            let pair = bin.Asked (bin_pair one) (operation_of one) (is_unaligned one.first) in
            let beats = bin.Beats (bin_pair one) channel.A (ask_beats bus beat) in
            let rest = place_bins one.port one.place ++ lane_bins bus one in
            let tail = mask_bins one ++ (contested_bins plan next one ++ rest) in
            never_first contested (contested_bins plan next one) rest
            (never_last contested (mask_bins one) (contested_bins plan next one ++ rest)
            (never_more contested beats tail (never_more contested pair (beats ∷ tail) all)))

        by : (b : Bool) → list_any (contests (mirrors_at plan one.port) one) next ≡ b → b ≡ false
        by true is =
            let once : how_often contested (bin.Contested one.port ∷ []) ≡ 0 =
            sym (ap (λ b. how_often contested (if b then bin.Contested one.port ∷ [] else [])) is) ∙ mine in
            let counted : how_often contested (bin.Contested one.port ∷ []) ≡ 1 =
            ap (λ t. if t then 0 + 1 else 0) (same (bin.Contested one.port) contested (ap (λ n. bin.Contested n) is_port)) in
            absurd (omega (arith, once, counted))
        by false is = refl

    -- it meets none of the port
    own_apart : (other : ℕ) (one two : InFlight) → (own == other) ≡ false → found own next ≡ Some one
        → found other next ≡ Some two → one.is_whole ≡ true → two.is_whole ≡ true → one.port ≡ port → two.port ≡ port
        → meets (mirrors_at plan port) one.first two.first ≡ false
    own_apart other one two apart here there whole its_whole is_port its_port =
        let mine = own_found plan own beat flights bus end in
        let same_one : mine.0 ≡ one = some_same mine.0 one (sym mine.1 ∙ here) in
        let ends : ends_an_ask end ≡ true = sym mine.2 ∙ ap (λ (f : InFlight). f.is_whole) same_one ∙ whole in
        let there_none = found_fails (contests (mirrors_at plan one.port) one) other next two
        (uncontested one here ends is_port) there in
        ap (λ p. meets (mirrors_at plan p) one.first two.first) (sym is_port)
        ∙ not_contests (mirrors_at plan one.port) one two there_none
        (found_apart own other next one two apart here there) (its_port ∙ sym is_port) its_whole

    pub ask_apart : ApartAt plan port (flights_after plan bus own flights (A beat) end)
    ask_apart wide other one two apart here there whole its_whole is_port its_port =
        go (own == wide) refl (own == other) refl
      where
        go : (a : Bool) → (own == wide) ≡ a → (b : Bool) → (own == other) ≡ b
            → meets (mirrors_at plan port) one.first two.first ≡ false
        go true is b so =
            let mine : own ≡ wide = eqb-true own wide is in
            own_apart other one two (ap (λ w. w == other) mine ∙ apart)
            (ap (λ w. found w next) mine ∙ here) there whole its_whole is_port its_port
        go false is true so =
            let mine : own ≡ other = eqb-true own other so in
            meets_turned (mirrors_at plan port) one.first two.first
            ∙ own_apart wide two one is (ap (λ w. found w next) mine ∙ there) here its_whole whole its_port is_port
        go false is false so =
            before wide other one two apart (sym (other_stays plan own beat flights bus end wide is) ∙ here)
            (sym (other_stays plan own beat flights bus end other so) ∙ there) whole its_whole is_port its_port

  -- the requests that are left after a reply were there before
  still : (wide : ℕ) (one : InFlight) → found wide (left own flights) ≡ Some one → found wide flights ≡ Some one
  still wide one is = go (own == wide) refl
    where
      go : (b : Bool) → (own == wide) ≡ b → found wide flights ≡ Some one
      go true so =
          let none : None ≡ Some one =
          sym (own_left own flights) ∙ ap (λ w. found w (left own flights)) (eqb-true own wide so) ∙ is in
          absurd (cc)
      go false so = sym (other_left own wide so flights) ∙ is

  pub reply_apart : (beat : ReplyHead) → ApartAt plan port (flights_after plan bus own flights (D beat) end)
  reply_apart beat = go (ends_a_reply end)
    where
      go : (b : Bool) → ApartAt plan port (if b then left own flights else flights)
      go true = λ wide other one two apart here there.
          before wide other one two apart (still wide one here) (still other two there)
      go false = before

  beat_apart : (beat : Beat) → how_often (bin.Contested port) (bins_by plan bus own flights time times beat end) ≡ 0
      → ApartAt plan port (flights_after plan bus own flights beat end)
  beat_apart (A beat) none = ask_apart beat none
  beat_apart (D beat) none = reply_apart beat

-- ---- all rows

none_apart : (plan : Plan) (port : ℕ) → ApartAt plan port []
none_apart plan port wide other one two apart here there whole its_whole is_port its_port =
    let impossible : None ≡ Some one = here in absurd (cc)

pub all_apart : (plan : Plan) (port : ℕ) (rows : List SeenRow) → how_often (bin.Contested port) (bins plan rows) ≡ 0
    → ApartAt plan port (in_flight plan rows)
all_apart plan port [] none = none_apart plan port
all_apart plan port (row ∷ before) none =
    go (is_counted plan.layout.links row.sighting.link) (never_first (bin.Contested port) (bins_of plan before row)
    (bins plan before) none)
    (all_apart plan port before (never_last (bin.Contested port) (bins_of plan before row) (bins plan before) none))
  where
    beside : List Bin
    beside = after_bins plan (wide_at plan row.sighting) (is_last_ask row.sighting.beat (end_of plan before row))
        (flights_after plan (bus_of plan.layout row.sighting.link) (wide_at plan row.sighting) (in_flight plan before)
        row.sighting.beat (end_of plan before row)) (λ other. latest_at plan before other)

    go : (counted : Bool) → how_often (bin.Contested port)
        (if counted
        then bins_by plan (bus_of plan.layout row.sighting.link) (wide_at plan row.sighting) (in_flight plan before) row.time
        (times_at plan before (wide_at plan row.sighting)) row.sighting.beat (end_of plan before row) ++ beside
        else []) ≡ 0
        → ApartAt plan port (in_flight plan before)
        → ApartAt plan port (if counted
        then flights_after plan (bus_of plan.layout row.sighting.link) (wide_at plan row.sighting) (in_flight plan before)
        row.sighting.beat (end_of plan before row)
        else in_flight plan before)
    go true here apart =
        beat_apart plan port (bus_of plan.layout row.sighting.link) (wide_at plan row.sighting) (in_flight plan before)
        row.time (times_at plan before (wide_at plan row.sighting)) (end_of plan before row) apart row.sighting.beat
        (never_first (bin.Contested port) (bins_by plan (bus_of plan.layout row.sighting.link) (wide_at plan row.sighting)
        (in_flight plan before) row.time (times_at plan before (wide_at plan row.sighting)) row.sighting.beat
        (end_of plan before row)) beside here)
    go false here apart = apart
