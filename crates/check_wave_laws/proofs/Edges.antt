-- The beats of one edge, and their rows.
use Rattle.std.proofs.Common.{◌≡◌, ◌∙◌, ℕ, zero, suc, ◌+◌, ◌<◌, ◌⊎◌, inl, inr, Bool, true, false, ◌&&◌, ◌||◌, cond, not, List, [], ◌∷◌, ◌++◌, length, get_or, map, slice_get, codes, Contains, Option, None, Some, is_some, ap, arith, append_assoc, refl, subst, sym}
use Rattle.std.proofs.lemmas.Bool.{and_from, and_parts, both_ways, not-true, not_from_false}
use Rattle.std.proofs.lemmas.List.Elements.{Contains-append_cases}
use Rattle.std.proofs.lemmas.Option.{same_Some}
use Rattle.std.proofs.lemmas.Slice.Eq.{bytes_eq-Decides}
use Rattle.check_samples.specs.Digits.{bits_of, joined_of, part_if_any, with_joined}
use Rattle.check_samples.specs.Rows.{Dues, Rows, and_then, crosses, due_at, followed_by, hand_alone, has_edge, is_active, is_early, is_late, is_one, is_unsure, is_zero, no_rows, ready_of, row_alone, row_at, rows_due, rows_of, ticks, unknown_hand, valid_of}
use Rattle.check_samples.specs.Domain.{Domain}
use Rattle.check_samples.specs.declared.channel.Channel.{Channel}
use Rattle.check_samples.specs.declared.channel.UnknownBit.{UnknownBit}
use Rattle.check_samples.specs.declared.clock.Clock.{Clock}
use Rattle.check_samples.specs.declared.clock.Edge.{Edge}
use Rattle.check_samples.specs.declared.clock.Edge.TheVariants.{Rising, Falling}
use Rattle.check_samples.specs.declared.edges.Needs.{Needs}
use Rattle.check_samples.specs.declared.signal.Signal.{Signal}
use Rattle.check_samples.specs.declared.tap.Tap.{Tap}
use Rattle.check_wave_laws.specs.Sampled.{AreInOrder, HasEdge, HidesReady, HidesValid, IsJoinedUntil, IsSampled, IsSampledBeat, IsSampledReset, Meets, OfBeat, OfReset, Precedes, SampledBeat, SampledRow, WasReset, Wave, hidden_hand, is_whole, sampled_row, sampled_rows, shown_row, time_of_sampled, values_before, values_until}

-- ---- rows, one after the other

abbrev rows-with : List ℕ → Option UnknownBit → Rows
rows-with text fault = record { text = text; fault = fault }

followed-twice : (fault other : Option UnknownBit) (text more : List ℕ) (rest : Rows)
    → and_then (followed_by fault text (rows-with more other)) rest
    ≡ followed_by fault text (followed_by other more rest)
followed-twice None None text more rest =
    ap (λ (t : List ℕ). rows-with t rest.fault) (append_assoc text more rest.text)
followed-twice None (Some unknown) text more rest = refl
followed-twice (Some unknown) other text more rest = refl

and-then-twice : (one two rest : Rows) → and_then (and_then one two) rest ≡ and_then one (and_then two rest)
and-then-twice one two rest = followed-twice one.fault two.fault one.text two.text rest

pub rows-append : (wave : Wave) (some more : List SampledRow)
    → sampled_rows wave (some ++ more) ≡ and_then (sampled_rows wave some) (sampled_rows wave more)
rows-append wave [] more = refl
rows-append wave (one ∷ some) more =
    ap (λ (r : Rows). and_then (sampled_row wave one) r) (rows-append wave some more)
    ∙ sym (and-then-twice (sampled_row wave one) (sampled_rows wave some) (sampled_rows wave more))

-- ---- lists

module _ {A : Type 0} where
  pub here : (x : A) (xs : List A) → Contains (x ∷ xs) x
  here x xs = (0, omega arith, refl)

  pub there : (x other : A) (xs : List A) → Contains xs other → Contains (x ∷ xs) other
  there x other xs has = (suc has.0, omega (arith, has.1), has.2)

  pub here-or-there : (x other : A) (xs : List A) → Contains (x ∷ xs) other → (x ≡ other) ⊎ Contains xs other
  here-or-there x other xs has = go has.0 has.1 has.2
    where
      go : (k : ℕ) → k < length (x ∷ xs) → get_or (x ∷ xs) k other ≡ other → (x ≡ other) ⊎ Contains xs other
      go zero inside is = inl is
      go (suc k) inside is = inr (k, omega (arith, inside), is)

  pub none-there : (x : A) → Contains [] x → ⊥
  none-there x has = omega (arith, has.1)

pub order-append : (some more : List SampledRow) → AreInOrder some → AreInOrder more
    → ((one later : SampledRow) → Contains some one → Contains more later → Precedes one later)
    → AreInOrder (some ++ more)
order-append [] more first second across = second
order-append (one ∷ some) more first second across = (
  λ later has. by later (Contains-append_cases some more later has),
  order-append some more first.1 second (λ other later has after. across other later (there one other some has) after),
)
  where
    by : (later : SampledRow) → Contains some later ⊎ Contains more later → Precedes one later
    by later (inl near) = first.0 later near
    by later (inr far) = across one later (here one some) far

-- beats as rows
abbrev pub of-beats : List SampledBeat → List SampledRow
of-beats beats = map OfBeat beats

pub of-beats-each : (beats : List SampledBeat) (row : SampledRow) → Contains (of-beats beats) row
    → (beat : SampledBeat) × (row ≡ OfBeat beat) × Contains beats beat
of-beats-each [] row has = absurd (none-there row has)
of-beats-each (first ∷ beats) row has =
    go (of-beats-each beats row) (here-or-there (OfBeat first) row (of-beats beats) has)
  where
    go : (Contains (of-beats beats) row → (beat : SampledBeat) × (row ≡ OfBeat beat) × Contains beats beat)
        → (OfBeat first ≡ row) ⊎ Contains (of-beats beats) row
        → (beat : SampledBeat) × (row ≡ OfBeat beat) × Contains (first ∷ beats) beat
    go rest (inl same) = (first, sym same, here first beats)
    go rest (inr far) = let more = rest far in (more.0, more.1, there first more.0 beats more.2)

pub of-beats-has : (beats : List SampledBeat) (beat : SampledBeat) → Contains beats beat
    → Contains (of-beats beats) (OfBeat beat)
of-beats-has [] beat has = absurd (none-there beat has)
of-beats-has (first ∷ beats) beat has = go (of-beats-has beats beat) (here-or-there first beat beats has)
  where
    go : (Contains beats beat → Contains (of-beats beats) (OfBeat beat)) → (first ≡ beat) ⊎ Contains beats beat
        → Contains (of-beats (first ∷ beats)) (OfBeat beat)
    go rest (inl same) =
        subst (λ (b : SampledBeat). Contains (of-beats (first ∷ beats)) (OfBeat b)) same
        (here (OfBeat first) (of-beats beats))
    go rest (inr far) = there (OfBeat first) (OfBeat beat) (of-beats beats) (rest far)

-- ---- one edge

-- a beat crosses at a channel whose clock has an edge outside of reset, or its handshake is not known
abbrev pub tells-by : Option Needs → List (List ℕ) → Channel → Bool
tells-by None values channel = false
tells-by (Some needs) values channel = crosses values channel || is_some (unknown_hand needs values channel)

abbrev pub tells : Dues → List (List ℕ) → Channel → Bool
tells dues values channel = tells-by (due_at dues channel.domain) values channel

-- at a channel that tells nothing there are no rows
silent-by : (due : Option Needs) (time : ℕ) (values : List (List ℕ)) (channel : Channel)
    → tells-by due values channel ≡ false → rows_due due time values channel ≡ no_rows
silent-by None time values channel is = refl
silent-by (Some needs) time values channel is = go (crosses values channel) (unknown_hand needs values channel) is
  where
    go : (c : Bool) (unknown : Option Signal) → (c || is_some unknown) ≡ false
        → cond c (row_alone time channel (row_at time values channel)) (hand_alone time channel unknown) ≡ no_rows
    go true unknown e = absurd (cc)
    go false None e = refl
    go false (Some which) e = absurd (cc)

rows-silent : (dues : Dues) (time : ℕ) (values : List (List ℕ)) (channel : Channel) → tells dues values channel ≡ false
    → rows_due (due_at dues channel.domain) time values channel ≡ no_rows
rows-silent dues time values channel is = silent-by (due_at dues channel.domain) time values channel is

-- what is unknown is what is hidden
hand-is : (needs : Needs) (values : List (List ℕ)) (channel : Channel) (which : Signal)
    → unknown_hand needs values channel ≡ Some which → which ≡ hidden_hand values channel
hand-is needs values channel which is =
    go (needs.valid && is_unsure valid) (needs.ready && (is_one valid && is_unsure ready)) (is_one valid)
    (λ both. not-true (is_one valid) (and_parts (not (is_zero valid)) (not (is_one valid))
    (and_parts needs.valid (is_unsure valid) both).1).1)
    (λ both. (and_parts (is_one valid) (is_unsure ready)
    (and_parts needs.ready (is_one valid && is_unsure ready) both).1).0) is
  where
    valid : List ℕ
    valid = bits_of values channel.valid

    ready : List ℕ
    ready = bits_of values channel.ready

    go : (a b one : Bool) → (a ≡ true → one ≡ false) → (b ≡ true → one ≡ true)
        → cond a (Some (valid_of channel.beat)) (cond b (Some (ready_of channel.beat)) None) ≡ Some which
        → which ≡ cond one (ready_of channel.beat) (valid_of channel.beat)
    go true b true off on e = absurd (both_ways true (off refl) refl)
    go true b false off on e = let same : valid_of channel.beat ≡ which = cc in sym same
    go false true true off on e = let same : ready_of channel.beat ≡ which = cc in sym same
    go false true false off on e = absurd (both_ways false refl (on refl))
    go false false one off on e = absurd (cc)

-- at one that tells something they are what it shows
told-at : (due : Option Needs) (time : ℕ) (values : List (List ℕ)) (channel : Channel)
    → tells-by due values channel ≡ true → rows_due due time values channel ≡ shown_row time values channel
told-at None time values channel is = absurd (cc)
told-at (Some needs) time values channel is =
    go (crosses values channel) (unknown_hand needs values channel) refl is
  where
    go : (c : Bool) (unknown : Option Signal) → unknown_hand needs values channel ≡ unknown
        → (c || is_some unknown) ≡ true
        → cond c (row_alone time channel (row_at time values channel)) (hand_alone time channel unknown)
        ≡ cond c (row_alone time channel (row_at time values channel))
        (hand_alone time channel (Some (hidden_hand values channel)))
    go true unknown at e = refl
    go false None at e = absurd (cc)
    go false (Some which) at e =
        ap (λ (w : Signal). hand_alone time channel (Some w)) (hand-is needs values channel which at)

rows-told : (dues : Dues) (time : ℕ) (values : List (List ℕ)) (channel : Channel) → tells dues values channel ≡ true
    → rows_due (due_at dues channel.domain) time values channel ≡ shown_row time values channel
rows-told dues time values channel is = told-at (due_at dues channel.domain) time values channel is

abbrev pub beat-of : ℕ → ℕ → Channel → SampledBeat
beat-of time place channel = record { time = time; place = place; channel = channel }

-- a beat and others, or the others alone
abbrev pub first-if : Bool → SampledBeat → List SampledBeat → List SampledBeat
first-if t beat beats = cond t (beat ∷ beats) beats

-- those that tell at a time, of channels of which the first has this place
abbrev pub crossing : Wave → Dues → ℕ → ℕ → List Channel → List SampledBeat
crossing wave dues time place [] = []
crossing wave dues time place (channel ∷ channels) =
    first-if (tells dues (values_before wave time) channel) (beat-of time place channel)
    (crossing wave dues time (place + 1) channels)

-- the beat is of one of these channels and tells then
pub record Crosses (wave : Wave) (dues : Dues) (time place : ℕ) (channels : List Channel) (beat : SampledBeat) : Type 0 where
  pub index : ℕ
  pub now : beat.time ≡ time
  pub spot : beat.place ≡ place + index
  pub is : slice_get channels index ≡ Some beat.channel
  pub crossed : tells dues (values_before wave time) beat.channel ≡ true

module _ (wave : Wave) (dues : Dues) (time : ℕ) where
  crosses-on : (place : ℕ) (channel : Channel) (channels : List Channel) (beat : SampledBeat)
      → Crosses wave dues time (place + 1) channels beat → Crosses wave dues time place (channel ∷ channels) beat
  crosses-on place channel channels beat one = record {
    index = suc one.index;
    now = one.now;
    spot = omega (arith, one.spot);
    is = one.is;
    crossed = one.crossed;
  }

  crossing-one : (place : ℕ) (channel : Channel) (channels : List Channel) (beat : SampledBeat)
      → ((other : SampledBeat) → Contains (crossing wave dues time (place + 1) channels) other
      → Crosses wave dues time (place + 1) channels other)
      → (t : Bool) → tells dues (values_before wave time) channel ≡ t
      → Contains (first-if t (beat-of time place channel) (crossing wave dues time (place + 1) channels)) beat
      → Crosses wave dues time place (channel ∷ channels) beat
  crossing-one place channel channels beat more true is has =
      go (here-or-there (beat-of time place channel) beat (crossing wave dues time (place + 1) channels) has)
    where
      go : (beat-of time place channel ≡ beat) ⊎ Contains (crossing wave dues time (place + 1) channels) beat
          → Crosses wave dues time place (channel ∷ channels) beat
      go (inl same) =
          subst (λ (b : SampledBeat). Crosses wave dues time place (channel ∷ channels) b) same
          (record { index = 0; now = refl; spot = omega arith; is = refl; crossed = is })
      go (inr far) = crosses-on place channel channels beat (more beat far)
  crossing-one place channel channels beat more false is has = crosses-on place channel channels beat (more beat has)

  pub crossing-each : (place : ℕ) (channels : List Channel) (beat : SampledBeat)
      → Contains (crossing wave dues time place channels) beat → Crosses wave dues time place channels beat
  crossing-each place [] beat has = absurd (none-there beat has)
  crossing-each place (channel ∷ channels) beat has =
      crossing-one place channel channels beat (crossing-each (place + 1) channels)
      (tells dues (values_before wave time) channel) refl has

  same-beat : (place : ℕ) (channel : Channel) (beat : SampledBeat) → beat.time ≡ time → beat.place ≡ place
      → channel ≡ beat.channel → beat-of time place channel ≡ beat
  same-beat place channel beat now at is =
      ap (λ (c : Channel). beat-of time place c) is ∙ ap (λ (n : ℕ). beat-of n place beat.channel) (sym now)
      ∙ ap (λ (n : ℕ). beat-of beat.time n beat.channel) (sym at)

  first-has : (t : Bool) (beat other : SampledBeat) (beats : List SampledBeat) → t ≡ true → beat ≡ other
      → Contains (first-if t beat beats) other
  first-has true beat other beats is same = (0, omega arith, same)
  first-has false beat other beats is same = absurd (cc)

  rest-has : (t : Bool) (beat other : SampledBeat) (beats : List SampledBeat) → Contains beats other
      → Contains (first-if t beat beats) other
  rest-has true beat other beats has = there beat other beats has
  rest-has false beat other beats has = has

  pub crossing-all : (place : ℕ) (channels : List Channel) (beat : SampledBeat) (index : ℕ) → beat.time ≡ time
      → beat.place ≡ place + index → slice_get channels index ≡ Some beat.channel
      → tells dues (values_before wave time) beat.channel ≡ true → Contains (crossing wave dues time place channels) beat
  crossing-all place [] beat index now at is crossed = absurd (cc)
  crossing-all place (channel ∷ channels) beat zero now at is crossed =
      let same : channel ≡ beat.channel = same_Some channel beat.channel is in
      first-has (tells dues (values_before wave time) channel) (beat-of time place channel) beat
      (crossing wave dues time (place + 1) channels)
      (ap (λ (c : Channel). tells dues (values_before wave time) c) same ∙ crossed)
      (same-beat place channel beat now (omega (arith, at)) same)
  crossing-all place (channel ∷ channels) beat (suc index) now at is crossed =
      rest-has (tells dues (values_before wave time) channel) (beat-of time place channel) beat
      (crossing wave dues time (place + 1) channels)
      (crossing-all (place + 1) channels beat index now (omega (arith, at)) is crossed)

  later-place : (place : ℕ) (channel : Channel) (channels : List Channel) (later : SampledRow)
      → Contains (of-beats (crossing wave dues time (place + 1) channels)) later
      → Precedes (OfBeat (beat-of time place channel)) later
  later-place place channel channels later has =
      let it = of-beats-each (crossing wave dues time (place + 1) channels) later has in
      let one = crossing-each (place + 1) channels it.0 it.2 in
      subst (λ (r : SampledRow). Precedes (OfBeat (beat-of time place channel)) r) (sym it.1)
      (inr (sym one.now, omega (arith, one.spot)))

  pub crossing-order : (place : ℕ) (channels : List Channel)
      → AreInOrder (of-beats (crossing wave dues time place channels))
  crossing-order place [] = tt
  crossing-order place (channel ∷ channels) =
      go (tells dues (values_before wave time) channel) (crossing-order (place + 1) channels)
    where
      go : (t : Bool) → AreInOrder (of-beats (crossing wave dues time (place + 1) channels))
          → AreInOrder (of-beats (first-if t (beat-of time place channel) (crossing wave dues time (place + 1) channels)))
      go true rest = (later-place place channel channels, rest)
      go false rest = rest

  pub crossing-rows : (place : ℕ) (channels : List Channel)
      → rows_of dues time (values_before wave time) channels
      ≡ sampled_rows wave (of-beats (crossing wave dues time place channels))
  crossing-rows place [] = refl
  crossing-rows place (channel ∷ channels) =
      go (tells dues (values_before wave time) channel) refl (crossing-rows (place + 1) channels)
    where
      go : (t : Bool) → tells dues (values_before wave time) channel ≡ t
          → rows_of dues time (values_before wave time) channels
          ≡ sampled_rows wave (of-beats (crossing wave dues time (place + 1) channels))
          → and_then (rows_due (due_at dues channel.domain) time (values_before wave time) channel)
          (rows_of dues time (values_before wave time) channels)
          ≡ sampled_rows wave
          (of-beats (first-if t (beat-of time place channel) (crossing wave dues time (place + 1) channels)))
      go true is rest =
          ap (λ (r : Rows). and_then r (rows_of dues time (values_before wave time) channels))
          (rows-told dues time (values_before wave time) channel is)
          ∙ ap (λ (r : Rows). and_then (shown_row time (values_before wave time) channel) r) rest
      go false is rest =
          ap (λ (r : Rows). and_then r (rows_of dues time (values_before wave time) channels))
          (rows-silent dues time (values_before wave time) channel is) ∙ rest

-- ---- beats and edges

-- bits that are 0 are not 1
not-both : (bits : List ℕ) → is_zero bits ≡ true → is_one bits ≡ true → ⊥
not-both bits is0 is1 =
    let low : bits ≡ codes "0" = (bytes_eq-Decides bits (codes "0")).0 is0 in
    let high : bits ≡ codes "1" = (bytes_eq-Decides bits (codes "1")).0 is1 in
    let same : ◌≡◌ {A = ℕ} 48 49 = ap (λ (bs : List ℕ). get_or bs 0 0) (sym low ∙ high) in
    omega (arith, same)

-- a value has the same digits before and behind others
slot-before : (values more : List (List ℕ)) (slot : ℕ) (digits : List ℕ) → slice_get values slot ≡ Some digits
    → slice_get (values ++ more) slot ≡ Some digits
slot-before [] more slot digits is = absurd (cc)
slot-before (value ∷ values) more zero digits is = is
slot-before (value ∷ values) more (suc slot) digits is = slot-before values more slot digits is

-- bits that stand in values are so too before what is put together
same-before : (P : List ℕ → Type 0) (parts : List Tap) (values : List (List ℕ)) (tap : Tap) → (P [] → ⊥)
    → P (bits_of values tap) → bits_of (with_joined parts values) tap ≡ bits_of values tap
same-before P parts values tap some holds = go (slice_get values tap.slot) refl holds
  where
    go : (found : Option (List ℕ)) → slice_get values tap.slot ≡ found → P (part_if_any found tap)
        → bits_of (with_joined parts values) tap ≡ part_if_any found tap
    go None is none = absurd (some none)
    go (Some digits) is so =
        ap (λ (found : Option (List ℕ)). part_if_any found tap)
        (slot-before values (joined_of values parts ∷ []) tap.slot digits is)

-- the bit that a clock is at its edge is some bit, and not the one before it
late-some : (edge : Edge) → is_late edge [] ≡ true → ⊥
late-some Rising is = absurd (cc)
late-some Falling is = absurd (cc)

early-late : (edge : Edge) (bits : List ℕ) → is_early edge bits ≡ true → is_late edge bits ≡ true → ⊥
early-late Rising bits early late = not-both bits early late
early-late Falling bits early late = not-both bits late early

-- without a change of values a clock is not the one bit before a time and the other at its end
never-ticks : (parts : List Tap) (values : List (List ℕ)) (clock : Clock)
    → is_early clock.edge (bits_of (with_joined parts values) clock.tap) ≡ true
    → is_late clock.edge (bits_of values clock.tap) ≡ true → ⊥
never-ticks parts values clock early late =
    early-late clock.edge (bits_of values clock.tap) (subst (λ (bits : List ℕ). is_early clock.edge bits ≡ true)
    (same-before (λ (bits : List ℕ). is_late clock.edge bits ≡ true) parts values clock.tap (late-some clock.edge) late) early)
    late

-- without a change of its values a time has no edge
pub no-edge : (wave : Wave) (values : List (List ℕ)) (clock : Clock) (so : List (List ℕ) → Bool) (below : Option ℕ)
    (one : HasEdge wave clock so below) → values_before wave one.time ≡ with_joined wave.probes.joins values
    → values_until wave one.time ≡ values → ⊥
no-edge wave values clock so below one before until =
    never-ticks wave.probes.joins values clock
    (subst (λ (vs : List (List ℕ)). is_early clock.edge (bits_of vs clock.tap) ≡ true) before one.early)
    (subst (λ (vs : List (List ℕ)). is_late clock.edge (bits_of vs clock.tap) ≡ true) until one.late)

-- nor has it a beat
no-beat : (wave : Wave) (values : List (List ℕ)) (beat : SampledBeat)
    → values_before wave beat.time ≡ with_joined wave.probes.joins values → values_until wave beat.time ≡ values
    → IsSampledBeat wave beat → ⊥
no-beat wave values beat before until is =
    let clock = is.domain.clock in
    never-ticks wave.probes.joins values clock
    (subst (λ (vs : List (List ℕ)). is_early clock.edge (bits_of vs clock.tap) ≡ true) before is.early)
    (subst (λ (vs : List (List ℕ)). is_late clock.edge (bits_of vs clock.tap) ≡ true) until is.late)

-- nor a reset
no-reset : (wave : Wave) (values : List (List ℕ)) (time : ℕ)
    → values_before wave time ≡ with_joined wave.probes.joins values → values_until wave time ≡ values
    → IsSampledReset wave time → ⊥
no-reset wave values time before until is =
    let clock = is.system.clock in
    never-ticks wave.probes.joins values clock
    (subst (λ (vs : List (List ℕ)). is_early clock.edge (bits_of vs clock.tap) ≡ true) before is.early)
    (subst (λ (vs : List (List ℕ)). is_late clock.edge (bits_of vs clock.tap) ≡ true) until is.late)

pub no-row : (wave : Wave) (values : List (List ℕ)) (row : SampledRow)
    → values_before wave (time_of_sampled row) ≡ with_joined wave.probes.joins values
    → values_until wave (time_of_sampled row) ≡ values → IsSampled wave row → ⊥
no-row wave values (OfBeat beat) before until is = no-beat wave values beat before until is
no-row wave values (OfReset time) before until is = no-reset wave values time before until is

pub edge-at : (wave : Wave) (time : ℕ) (beat : SampledBeat) → beat.time ≡ time → (is : IsSampledBeat wave beat)
    → has_edge (values_before wave time) (values_until wave time) is.domain ≡ true
edge-at wave time beat now is =
    let domain = is.domain in
    subst (λ (n : ℕ). has_edge (values_before wave n) (values_until wave n) domain ≡ true) now
    (and_from (ticks (values_before wave beat.time) (values_until wave beat.time) domain.clock)
    (not (is_active (values_before wave beat.time) domain.reset))
    (and_from (is_early domain.clock.edge (bits_of (values_before wave beat.time) domain.clock.tap))
    (is_late domain.clock.edge (bits_of (values_until wave beat.time) domain.clock.tap)) is.early is.late)
    (not_from_false (is_active (values_before wave beat.time) domain.reset) is.running))

-- what has to be known of a domain at a time
pub record NeedsAre (wave : Wave) (domain : Domain) (time : ℕ) (needs : Needs) : Type 0 where
  pub valid : needs.valid ≡ true → WasReset wave domain time
  pub has_valid : WasReset wave domain time → needs.valid ≡ true
  pub ready : needs.ready ≡ true → (domain.reset ≡ None) ⊎ WasReset wave domain time
  pub has_ready : (domain.reset ≡ None) ⊎ WasReset wave domain time → needs.ready ≡ true

-- it is due of the domain at a place, whose clock has an edge outside of reset
pub record IsDue (wave : Wave) (time place : ℕ) (needs : Needs) : Type 0 where
  pub domain : Domain
  pub has : slice_get wave.probes.domains place ≡ Some domain
  pub edge : has_edge (values_before wave time) (values_until wave time) domain ≡ true
  pub are : NeedsAre wave domain time needs

-- it is so with all that is due, and all is due that is to be
pub record DuesAre (wave : Wave) (time : ℕ) (dues : Dues) : Type 0 where
  pub each : (place : ℕ) (needs : Needs) → due_at dues place ≡ Some needs → IsDue wave time place needs
  pub all : (place : ℕ) (domain : Domain) → slice_get wave.probes.domains place ≡ Some domain
      → has_edge (values_before wave time) (values_until wave time) domain ≡ true
      → (needs : Needs) × (due_at dues place ≡ Some needs) × NeedsAre wave domain time needs

pub or-right : (a b : Bool) → b ≡ true → (a || b) ≡ true
or-right true b is = refl
or-right false b is = is

module _ (wave : Wave) (domain : Domain) (needs : Needs) where
  -- a channel that shows something tells it
  told-by : (beat : SampledBeat) → NeedsAre wave domain beat.time needs
      → Meets wave beat ⊎ (HidesValid wave domain beat ⊎ HidesReady wave domain beat)
      → tells-by (Some needs) (values_before wave beat.time) beat.channel ≡ true
  told-by beat are (inl meets) =
      ap (λ (c : Bool). c || is_some (unknown_hand needs (values_before wave beat.time) beat.channel))
      (and_from (is_one (bits_of (values_before wave beat.time) beat.channel.valid))
      (is_one (bits_of (values_before wave beat.time) beat.channel.ready)) meets.valid meets.ready)
  told-by beat are (inr (inl hides)) =
      let values = values_before wave beat.time in
      or-right (crosses values beat.channel) (is_some (unknown_hand needs values beat.channel))
      (ap (λ (a : Bool). is_some (cond a (Some (valid_of beat.channel.beat))
      (cond (needs.ready && (is_one (bits_of values beat.channel.valid) && is_unsure (bits_of values beat.channel.ready)))
      (Some (ready_of beat.channel.beat)) None)))
      (and_from needs.valid (is_unsure (bits_of values beat.channel.valid)) (are.has_valid hides.reset) hides.valid))
  told-by beat are (inr (inr hides)) =
      let values = values_before wave beat.time in
      or-right (crosses values beat.channel) (is_some (unknown_hand needs values beat.channel))
      (go (needs.valid && is_unsure (bits_of values beat.channel.valid))
      (needs.ready && (is_one (bits_of values beat.channel.valid) && is_unsure (bits_of values beat.channel.ready)))
      (and_from needs.ready (is_one (bits_of values beat.channel.valid) && is_unsure (bits_of values beat.channel.ready))
      (are.has_ready hides.reset)
      (and_from (is_one (bits_of values beat.channel.valid)) (is_unsure (bits_of values beat.channel.ready)) hides.valid
      hides.ready)))
    where
      go : (a b : Bool) → b ≡ true
          → is_some (cond a (Some (valid_of beat.channel.beat)) (cond b (Some (ready_of beat.channel.beat)) None)) ≡ true
      go true b is = refl
      go false true is = refl
      go false false is = absurd (cc)

  -- and one that tells something shows it
  shown-by : (beat : SampledBeat) → NeedsAre wave domain beat.time needs
      → tells-by (Some needs) (values_before wave beat.time) beat.channel ≡ true
      → Meets wave beat ⊎ (HidesValid wave domain beat ⊎ HidesReady wave domain beat)
  shown-by beat are is = go (crosses values beat.channel) refl is
    where
      values : List (List ℕ)
      values = values_before wave beat.time

      valid : List ℕ
      valid = bits_of values beat.channel.valid

      ready : List ℕ
      ready = bits_of values beat.channel.ready

      hides : (a b : Bool) → (needs.valid && is_unsure valid) ≡ a
          → (needs.ready && (is_one valid && is_unsure ready)) ≡ b
          → is_some (cond a (Some (valid_of beat.channel.beat)) (cond b (Some (ready_of beat.channel.beat)) None)) ≡ true
          → HidesValid wave domain beat ⊎ HidesReady wave domain beat
      hides true b one two e =
          let parts = and_parts needs.valid (is_unsure valid) one in
          inl (record { reset = are.valid parts.0; valid = parts.1 })
      hides false true one two e =
          let parts = and_parts needs.ready (is_one valid && is_unsure ready) two in
          let both = and_parts (is_one valid) (is_unsure ready) parts.1 in
          inr (record { reset = are.ready parts.0; valid = both.0; ready = both.1 })
      hides false false one two e = absurd (cc)

      go : (c : Bool) → crosses values beat.channel ≡ c
          → (c || is_some (unknown_hand needs values beat.channel)) ≡ true
          → Meets wave beat ⊎ (HidesValid wave domain beat ⊎ HidesReady wave domain beat)
      go true crossed e =
          let both = and_parts (is_one valid) (is_one ready) crossed in
          inl (record { valid = both.0; ready = both.1 })
      go false crossed e =
          inr (hides (needs.valid && is_unsure valid) (needs.ready && (is_one valid && is_unsure ready)) refl refl e)

pub crossed-at : (wave : Wave) (dues : Dues) (time : ℕ) (beat : SampledBeat) → DuesAre wave time dues → beat.time ≡ time
    → IsSampledBeat wave beat → tells dues (values_before wave time) beat.channel ≡ true
crossed-at wave dues time beat are now is =
    let due = are.all beat.channel.domain is.domain is.has (edge-at wave time beat now is) in
    ap (λ (d : Option Needs). tells-by d (values_before wave time) beat.channel) due.1
    ∙ subst (λ (n : ℕ). tells-by (Some due.0) (values_before wave n) beat.channel ≡ true) now
    (told-by wave is.domain due.0 beat
    (subst (λ (n : ℕ). NeedsAre wave is.domain n due.0) (sym now) due.2) is.shows)

-- a channel of which something is due, and which tells something
due-beat : (wave : Wave) (time : ℕ) (beat : SampledBeat) (needs : Needs) → beat.time ≡ time
    → IsDue wave time beat.channel.domain needs → slice_get wave.probes.channels beat.place ≡ Some beat.channel
    → tells-by (Some needs) (values_before wave time) beat.channel ≡ true → IsJoinedUntil wave time
    → is_whole wave.cut time ≡ true → IsSampledBeat wave beat
due-beat wave time beat needs now due looked told joined whole =
    let domain = due.domain in
    let outside = and_parts (ticks (values_before wave time) (values_until wave time) domain.clock)
    (not (is_active (values_before wave time) domain.reset)) due.edge in
    let clock = and_parts (is_early domain.clock.edge (bits_of (values_before wave time) domain.clock.tap))
    (is_late domain.clock.edge (bits_of (values_until wave time) domain.clock.tap)) outside.0 in
    record {
      looked = looked;
      domain = domain;
      has = due.has;
      early = subst (λ (n : ℕ). is_early domain.clock.edge (bits_of (values_before wave n) domain.clock.tap) ≡ true)
          (sym now) clock.0;
      late = subst (λ (n : ℕ). is_late domain.clock.edge (bits_of (values_until wave n) domain.clock.tap) ≡ true)
          (sym now) clock.1;
      running = subst (λ (n : ℕ). is_active (values_before wave n) domain.reset ≡ false) (sym now)
          (not-true (is_active (values_before wave time) domain.reset) outside.1);
      shows = shown-by wave domain needs beat (subst (λ (n : ℕ). NeedsAre wave domain n needs) (sym now) due.are)
          (subst (λ (n : ℕ). tells-by (Some needs) (values_before wave n) beat.channel ≡ true) (sym now) told);
      joined = subst (λ (n : ℕ). IsJoinedUntil wave n) (sym now) joined;
      whole = subst (λ (n : ℕ). is_whole wave.cut n ≡ true) (sym now) whole;
    }

pub beat-at : (wave : Wave) (dues : Dues) (time : ℕ) (beat : SampledBeat) → DuesAre wave time dues
    → beat.time ≡ time → slice_get wave.probes.channels beat.place ≡ Some beat.channel
    → tells dues (values_before wave time) beat.channel ≡ true → IsJoinedUntil wave time → is_whole wave.cut time ≡ true
    → IsSampledBeat wave beat
beat-at wave dues time beat are now looked told joined whole = go (due_at dues beat.channel.domain) refl told
  where
    go : (due : Option Needs) → due_at dues beat.channel.domain ≡ due
        → tells-by due (values_before wave time) beat.channel ≡ true → IsSampledBeat wave beat
    go None is e = absurd (cc)
    go (Some needs) is e =
        due-beat wave time beat needs now (are.each beat.channel.domain needs is) looked e joined whole
