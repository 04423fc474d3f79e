-- The rows of what happens in a dump are rows.
use Rattle.std.proofs.Common.{◌≡◌, ◌∙◌, ℕ, zero, suc, ◌+◌, ◌-◌, ◌*◌, ◌^◌, ◌<◌, ◌≤◌, nat_le, nat_lt, Bool, true, false, ◌&&◌, cond, List, [], ◌∷◌, ◌++◌, length, get_or, set, take, drop, map, replicate, slice_get, Option, Some, None, Result, Ok, Err, Contains, arith, refl, sym, ap, subst, append_assoc, append-nil, length-append, length-drop, length-take, length-take-le, inl, inr, is_some, option_map}
use Rattle.std.specs.Option.{IfSome}
use Rattle.std.proofs.lemmas.Bool.{and_from, le-leb}
use Rattle.std.proofs.lemmas.List.{length-replicate, map-append, map-set, set-get_or}
use Rattle.check_vcd.specs.Body.{At, Happens, Resumes, Sets, Wrong}
use Rattle.check_beats.specs.declared.bus.Bus.{Bus}
use Rattle.check_rows.specs.Buses.{bus_of_link}
use Rattle.check_rows.specs.Row.{SeenRow}
use Rattle.check_samples.specs.Digits.{bits_of, extended, fill_of, joined_of, part_if_any, part_of, set_extended, with_joined}
use Rattle.check_samples.specs.EdgeFault.{some_crossed}
use Rattle.check_samples.specs.Rows.{Dues, Rows, and_then, crosses, due_at, followed_by, hand_alone, no_rows, row_alone, row_at, rows_at, rows_due, rows_of, unknown_hand}
use Rattle.check_samples.specs.Sampling.{Sampling, at_time, dues_of, is_at, rows_from, rows_now, rows_when, watched_now, with_value, beat_rows, resets_now, resets_when}
use Rattle.check_samples.specs.declared.channel.BeatTaps.{BeatTaps}
use Rattle.check_samples.specs.declared.channel.BeatTaps.TheVariants.{A, D}
use Rattle.check_samples.specs.declared.channel.Channel.{Channel}
use Rattle.check_samples.specs.declared.channel.UnknownBit.{UnknownBit}
use Rattle.check_samples.specs.declared.edges.Needs.{Needs}
use Rattle.check_samples.specs.declared.signal.Signal.{Signal}
use Rattle.check_samples.specs.declared.tap.Tap.{Tap}
use Rattle.check_due.specs.Rows.{reset_on_line}
use Rattle.check_wave_laws.specs.Seen.{BeatFits, row_of_channel}
use Rattle.check_wave_laws.specs.Text.{AllLieWithin, AreRows, BeatTakes, ChannelFits, HappensFit, HasRows, LiesWithin, SamplingFits, TakesBeat, taps_bits, with_joined_width}
use Rattle.check_wave_laws.proofs.Beats.{beat-row, reset-is-row}
use Rattle.check_due.proofs.Buses.{bus-of}
use Rattle.check_samples.specs.Domain.{Watched}
use Rattle.check_samples.specs.Resets.{is_reset_due, reset_row, reset_rows, watched_reset}
use Rattle.check_samples.specs.declared.reset.WatchedReset.{WatchedReset}

-- ---- the bits of a tap

slot-has : (values : List (List ℕ)) (slot n : ℕ) → 0 < n → n ≤ get_or (map length values) slot 0
    → (digits : List ℕ) × (slice_get values slot ≡ Some digits) × (n ≤ length digits)
slot-has [] slot n some inside = absurd (omega (arith, some, inside))
slot-has (digits ∷ values) zero n some inside = (digits, refl, inside)
slot-has (digits ∷ values) (suc slot) n some inside = slot-has values slot n some inside

part-length : (digits : List ℕ) (tap : Tap) → tap.from ≤ tap.to → tap.to ≤ length digits
    → length (part_of digits tap) ≡ tap.to - tap.from
part-length digits tap order inside =
    ap (λ (t : Bool). length (cond t (take (tap.to - tap.from) (drop tap.from digits)) []))
    (and_from (nat_le tap.from tap.to) (nat_le tap.to (length digits)) (le-leb tap.from tap.to order)
    (le-leb tap.to (length digits) inside))
    ∙ length-take-le (tap.to - tap.from) (drop tap.from digits)
    (omega (arith, length-drop tap.from digits, order, inside))

part-few : (digits : List ℕ) (tap : Tap) (n : ℕ) → tap.to - tap.from ≤ n → length (part_of digits tap) ≤ n
part-few digits tap n few = go (nat_le tap.from tap.to && nat_le tap.to (length digits))
  where
    go : (t : Bool) → length (cond t (take (tap.to - tap.from) (drop tap.from digits)) []) ≤ n
    go true = omega (arith, length-take (tap.to - tap.from) (drop tap.from digits), few)
    go false = omega arith

pub bits-few : (values : List (List ℕ)) (tap : Tap) (n : ℕ) → tap.to - tap.from ≤ n
    → length (bits_of values tap) ≤ n
bits-few values tap n few = go (slice_get values tap.slot)
  where
    go : (found : Option (List ℕ)) → length (part_if_any found tap) ≤ n
    go None = omega arith
    go (Some digits) = part-few digits tap n few

bits-all : (values : List (List ℕ)) (widths : List ℕ) (tap : Tap) (n : ℕ) → map length values ≡ widths → 0 < n
    → TakesBeat widths tap n → length (bits_of values tap) ≡ n
bits-all values widths tap n has some takes =
    let inside : tap.to ≤ get_or (map length values) tap.slot 0 =
    subst (λ (ws : List ℕ). tap.to ≤ get_or ws tap.slot 0) (sym has) takes.inside in
    let found = slot-has values tap.slot tap.to (omega (arith, some, takes.bits)) inside in
    ap (λ (value : Option (List ℕ)). length (part_if_any value tap)) found.1
    ∙ part-length found.0 tap takes.from found.2 ∙ takes.bits

beat-fits : (bus : ℕ) (values : List (List ℕ)) (widths : List ℕ) (beat : BeatTaps) → 0 < bus
    → map length values ≡ widths → BeatTakes bus widths beat → BeatFits bus beat values
beat-fits bus values widths (A taps) some has takes = record {
  opcode = bits-few values taps.opcode 8 takes.opcode;
  param = bits-few values taps.param 8 takes.param;
  size = bits-few values taps.size 8 takes.size;
  source = bits-few values taps.source 16 takes.source;
  mask = bits-all values widths taps.mask bus has some takes.mask;
  data_bits = bits-all values widths taps.data (8 * bus) has (omega (arith, some)) takes.lanes;
  corrupt = bits-few values taps.corrupt 1 takes.corrupt;
}
beat-fits bus values widths (D taps) some has takes = record {
  opcode = bits-few values taps.opcode 8 takes.opcode;
  param = bits-few values taps.param 8 takes.param;
  size = bits-few values taps.size 8 takes.size;
  source = bits-few values taps.source 16 takes.source;
  data_bits = bits-all values widths taps.data (8 * bus) has (omega (arith, some)) takes.lanes;
  denied = bits-few values taps.denied 1 takes.denied;
  corrupt = bits-few values taps.corrupt 1 takes.corrupt;
}

-- ---- texts of rows

module _ (masters ports : List Bus) (channels : List Channel) (told : Bool) where
  are-appended : (line : ℕ) (rows more : List SeenRow) (text rest : List ℕ)
      → AreRows masters ports channels told line rows text
      → AreRows masters ports channels told (line + length rows) more rest
      → AreRows masters ports channels told line (rows ++ more) (text ++ rest)
  are-appended line [] more text rest first second =
      let none : line + 0 ≡ line = omega arith in
      subst (λ (t : List ℕ). AreRows masters ports channels told line more t) (ap (λ (t : List ℕ). t ++ rest) (sym first))
      (subst (λ (n : ℕ). AreRows masters ports channels told n more rest) none second)
  are-appended line (row ∷ rows) more text rest first second =
      let cut = first.1 in
      let next : line + suc (length rows) ≡ line + 1 + length rows = omega arith in (
        first.0,
        (
          cut.0,
          cut.1 ++ rest,
          ap (λ (t : List ℕ). t ++ rest) cut.2 ∙ append_assoc cut.0 cut.1 rest,
          cut.3,
          are-appended (line + 1) rows more cut.1 rest cut.4
              (subst (λ (n : ℕ). AreRows masters ports channels told n more rest) next second),
        ),
      )

  -- a text is rows wherever it begins
  abbrev Readable : List ℕ → Type 0
  Readable text = (line : ℕ) → HasRows masters ports channels told line text

  readable-none : Readable []
  readable-none = λ line. record { rows = []; are = refl }

  readable-append : (text rest : List ℕ) → Readable text → Readable rest → Readable (text ++ rest)
  readable-append text rest first second = λ line.
      let one = first line in
      let two = second (line + length one.rows) in
      record { rows = one.rows ++ two.rows; are = are-appended line one.rows two.rows text rest one.are two.are }

  readable-and : (first second : Rows) → Readable first.text
      → Readable second.text → Readable (and_then first second).text
  readable-and first second one two = go first.fault
    where
      go : (fault : Option UnknownBit) → Readable (followed_by fault first.text second).text
      go None = readable-append first.text second.text one two
      go (Some unknown) = one

-- ---- the rows of a time

module _ (masters ports : List Bus) (channels : List Channel) (told : Bool) (widths : List ℕ)
    (few_masters : length masters < 2 ^ 64) (few_ports : length ports < 2 ^ 64)
    (fit : (which : Channel) → Contains channels which → ChannelFits masters ports widths which) (time : ℕ)
    (in_time : time < 2 ^ 64) (values : List (List ℕ)) (has : map length values ≡ widths) (dues : Dues) where
  readable-row : (which : Channel) (text : List ℕ) → Contains channels which → crosses values which ≡ true
      → row_at time values which ≡ Ok text → Readable masters ports channels told text
  readable-row which text one crossed is = λ line.
      let fits = fit which one in
      record {
        rows = row_of_channel masters ports line time values which ∷ [];
        are = (
          record {
            place = refl;
            is = inl (record { values = values; which = which; one = one; crossed = crossed; is = refl });
          },
          (
            text,
            [],
            sym (append-nil text),
            beat-row masters ports line time values which text few_masters few_ports in_time fits.link
                (beat-fits (bus_of_link masters ports which.link) values widths which.beat
                (bus-of masters ports which.link fits.link).some has fits.taps) is,
            refl,
          ),
        );
      }

  readable-at : (needs : Needs) (which : Channel) → Contains channels which
      → Readable masters ports channels told (rows_at needs time values which).text
  readable-at needs which one = go (crosses values which) refl
    where
      alone : (r : Result (List ℕ) Signal) → row_at time values which ≡ r → crosses values which ≡ true
          → Readable masters ports channels told (row_alone time which r).text
      alone (Ok text) is crossed = readable-row which text one crossed is
      alone (Err signal) is crossed = readable-none masters ports channels told

      hand : (unknown : Option Signal) → Readable masters ports channels told (hand_alone time which unknown).text
      hand None = readable-none masters ports channels told
      hand (Some signal) = readable-none masters ports channels told

      go : (t : Bool) → crosses values which ≡ t
          → Readable masters ports channels told (cond t (row_alone time which (row_at time values which))
          (hand_alone time which (unknown_hand needs values which))).text
      go true crossed = alone (row_at time values which) refl crossed
      go false crossed = hand (unknown_hand needs values which)

  readable-due : (due : Option Needs) (which : Channel) → Contains channels which
      → Readable masters ports channels told (rows_due due time values which).text
  readable-due None which one = readable-none masters ports channels told
  readable-due (Some needs) which one = readable-at needs which one

  pub readable-of : (some : List Channel) → ((which : Channel) → Contains some which → Contains channels which)
      → Readable masters ports channels told (rows_of dues time values some).text
  readable-of [] within = readable-none masters ports channels told
  readable-of (which ∷ some) within =
      readable-and masters ports channels told (rows_due (due_at dues which.domain) time values which)
      (rows_of dues time values some)
      (readable-due (due_at dues which.domain) which (within which (0, omega arith, refl)))
      (readable-of some (λ other has_it. within other (suc has_it.0, omega (arith, has_it.1), has_it.2)))

-- ---- the row of a reset

-- a sampler tells resets
abbrev pub tells-resets : Sampling → Bool
tells-resets s = is_some s.resets

module _ (masters ports : List Bus) (channels : List Channel) (told : Bool) (time : ℕ) (in_time : time < 2 ^ 64) where
  readable-reset : (due : Bool) → (due ≡ true → told ≡ true)
      → Readable masters ports channels told (reset_rows time due).text
  readable-reset false is = readable-none masters ports channels told
  readable-reset true is = λ line. record {
    rows = reset_on_line line time ∷ [];
    are = (
      record { place = refl; is = inr (record { are_told = is refl; is = refl }) },
      (reset_row time, [], sym (append-nil (reset_row time)), reset-is-row masters ports line time in_time, refl),
    );
  }

  readable-resets : (before now : List (List ℕ)) (watched : List Watched) (resets : Option WatchedReset)
      → (is_some resets ≡ true → told ≡ true)
      → Readable masters ports channels told (reset_rows time (is_reset_due before now watched resets)).text
  readable-resets before now watched None is = readable-none masters ports channels told
  readable-resets before now watched (Some one) is =
      readable-reset (is_reset_due before now watched (Some one)) (λ due. is refl)

-- ---- all times

same-widths : (values : List (List ℕ)) (widths : List ℕ) (slot : ℕ) (digits : List ℕ) → map length values ≡ widths
    → length digits ≤ get_or widths slot 0 → map length (set_extended widths values slot digits) ≡ widths
same-widths values widths slot digits has short =
    let width = get_or widths slot 0 in
    let size : length (extended width digits) ≡ width =
    length-append (replicate (width - length digits) (fill_of digits)) digits
    ∙ ap (λ (n : ℕ). n + length digits) (length-replicate (width - length digits) (fill_of digits))
    ∙ omega (arith, short) in
    map-set (λ (value : List ℕ). length value) values slot (extended width digits)
    ∙ ap (λ (n : ℕ). set (map length values) slot n) size
    ∙ ap (λ (ws : List ℕ). set ws slot width) has
    ∙ set-get_or widths slot 0

pub value-fits : (masters ports : List Bus) (s : Sampling) (slot : ℕ) (digits : List ℕ) → SamplingFits masters ports s
    → length digits ≤ get_or s.widths slot 0 → SamplingFits masters ports (with_value s slot digits)
value-fits masters ports s slot digits fits short = go (nat_lt slot (length s.now))
  where
    go : (t : Bool)
        → SamplingFits masters ports (cond t (record s { now = set_extended s.widths s.now slot digits }) s)
    go true = record {
      before = fits.before;
      now = same-widths s.now s.widths slot digits fits.now short;
      time = fits.time;
      joins = fits.joins;
      channels = fits.channels;
    }
    go false = fits

-- a part that lies within its value has all its bits
part-bits : (values : List (List ℕ)) (widths : List ℕ) (part : Tap) → map length values ≡ widths → LiesWithin widths part
    → length (bits_of values part) ≡ part.to - part.from
part-bits values widths part has lies = go (part.to - part.from) refl
  where
    go : (n : ℕ) → part.to - part.from ≡ n → length (bits_of values part) ≡ n
    go zero is = omega (arith, bits-few values part 0 (omega (arith, is)))
    go (suc n) is =
        bits-all values widths part (suc n) has (omega arith) (record { from = lies.from; inside = lies.inside; bits = is })

joined-bits : (values : List (List ℕ)) (widths : List ℕ) (parts : List Tap) → map length values ≡ widths
    → AllLieWithin widths parts → length (joined_of values parts) ≡ taps_bits parts
joined-bits values widths [] has lie = refl
joined-bits values widths (part ∷ parts) has lie =
    length-append (bits_of values part) (joined_of values parts)
    ∙ ap (λ (n : ℕ). n + length (joined_of values parts)) (part-bits values widths part has lie.0)
    ∙ ap (λ (n : ℕ). (part.to - part.from) + n) (joined-bits values widths parts has lie.1)

joined-widths : (values : List (List ℕ)) (widths : List ℕ) (parts : List Tap) → map length values ≡ widths
    → AllLieWithin widths parts → map length (with_joined parts values) ≡ with_joined_width parts widths
joined-widths values widths parts has lie =
    map-append (λ (value : List ℕ). length value) values (joined_of values parts ∷ [])
    ∙ ap (λ (ws : List ℕ). ws ++ (length (joined_of values parts) ∷ [])) has
    ∙ ap (λ (n : ℕ). widths ++ (n ∷ [])) (joined-bits values widths parts has lie)

-- a sampler after another time began
abbrev passed-time : Sampling → ℕ → Sampling
passed-time s time = record s {
  before = with_joined s.joins s.now;
  time = Some time;
  watched = watched_now s;
  resets = resets_now s;
}

-- and it tells resets as before
resets-stay : (s : Sampling) (time : Option ℕ) → is_some (resets_when time s) ≡ tells-resets s
resets-stay s None = refl
resets-stay s (Some time) = go s.resets
  where
    go : (resets : Option WatchedReset) → is_some (option_map (watched_reset s.before s.now) resets) ≡ is_some resets
    go None = refl
    go (Some one) = refl

pub time-fits : (masters ports : List Bus) (s : Sampling) (time : ℕ) → SamplingFits masters ports s → time < 2 ^ 64
    → SamplingFits masters ports (at_time s time)
time-fits masters ports s time fits below = go (is_at s time)
  where
    go : (t : Bool) → SamplingFits masters ports
        (cond t s (passed-time s time))
    go true = fits
    go false = record {
      before = joined-widths s.now s.widths s.joins fits.now fits.joins;
      now = fits.now;
      time = below;
      joins = fits.joins;
      channels = fits.channels;
    }

-- what is looked at, how many bits values have, and whether resets are told, stays
record IsSame (after before : Sampling) : Type 0 where
  channels : after.channels ≡ before.channels
  widths : before.widths ≡ after.widths
  resets : tells-resets after ≡ tells-resets before

value-same : (s : Sampling) (slot : ℕ) (digits : List ℕ) → IsSame (with_value s slot digits) s
value-same s slot digits = go (nat_lt slot (length s.now))
  where
    go : (t : Bool) → IsSame (cond t (record s { now = set_extended s.widths s.now slot digits }) s) s
    go true = record { channels = refl; widths = refl; resets = refl }
    go false = record { channels = refl; widths = refl; resets = refl }

time-same : (s : Sampling) (time : ℕ) → IsSame (at_time s time) s
time-same s time = go (is_at s time)
  where
    go : (t : Bool)
        → IsSame (cond t s (passed-time s time)) s
    go true = record { channels = refl; widths = refl; resets = refl }
    go false = record { channels = refl; widths = refl; resets = resets-stay s s.time }

-- resets are told where a sampler tells them
abbrev AreTold : Bool → Sampling → Type 0
AreTold told s = tells-resets s ≡ true → told ≡ true

same-told : (told : Bool) (s next : Sampling) → IsSame next s → AreTold told s → AreTold told next
same-told told s next same are tells = are (sym same.resets ∙ tells)

module _ (masters ports : List Bus) (told : Bool) (few_masters : length masters < 2 ^ 64)
    (few_ports : length ports < 2 ^ 64) where
  readable-now : (s : Sampling) → SamplingFits masters ports s → AreTold told s
      → Readable masters ports s.channels told (rows_now s).text
  readable-now s fits are = go s.time fits.time fits.before
    where
      go : (at : Option ℕ) → IfSome at (λ time. time < 2 ^ 64)
          → IfSome at (λ time. map length s.before ≡ with_joined_width s.joins s.widths)
          → Readable masters ports s.channels told (rows_when at s).text
      go None below has = readable-none masters ports s.channels told
      go (Some time) below has =
          readable-and masters ports s.channels told
          (reset_rows time (is_reset_due s.before s.now s.watched s.resets)) (beat_rows time s)
          (readable-resets masters ports s.channels told time below s.before s.now s.watched s.resets are)
          (readable-of masters ports s.channels told (with_joined_width s.joins s.widths) few_masters few_ports
          fits.channels time below s.before has (dues_of s.before s.now s.watched) s.channels (λ which one. one))

  readable-same : (s next : Sampling) (text : List ℕ) → IsSame next s
      → Readable masters ports next.channels told text → Readable masters ports s.channels told text
  readable-same s next text same readable =
      subst (λ (channels : List Channel). Readable masters ports channels told text) same.channels readable

  by-time : (s : Sampling) (time : ℕ) (t : Bool) (same next : Rows) → SamplingFits masters ports s → AreTold told s
      → Readable masters ports s.channels told same.text → Readable masters ports s.channels told next.text
      → Readable masters ports s.channels told (cond t same (and_then (rows_now s) next)).text
  by-time s time true same next fits are one two = one
  by-time s time false same next fits are one two =
      readable-and masters ports s.channels told (rows_now s) next (readable-now s fits are) two

  pub readable-from : (happens : List Happens) (s : Sampling) → SamplingFits masters ports s → AreTold told s
      → HappensFit s.widths happens → Readable masters ports s.channels told (rows_from happens s).text
  unfolding rows_from
  readable-from [] s fits are all = readable-now s fits are
  readable-from (At time ∷ happens) s fits are all =
      let next = at_time s time in
      by-time s time (is_at s time) (rows_from happens s) (rows_from happens next) fits are
      (readable-from happens s fits are all.1)
      (readable-same s next (rows_from happens next).text (time-same s time)
      (readable-from happens next (time-fits masters ports s time fits all.0)
      (same-told told s next (time-same s time) are)
      (subst (λ (ws : List ℕ). HappensFit ws happens) (time-same s time).widths all.1)))
  readable-from (Sets slot digits ∷ happens) s fits are all =
      let next = with_value s slot digits in
      readable-same s next (rows_from happens next).text (value-same s slot digits)
      (readable-from happens next (value-fits masters ports s slot digits fits all.0)
      (same-told told s next (value-same s slot digits) are)
      (subst (λ (ws : List ℕ). HappensFit ws happens) (value-same s slot digits).widths all.1))
  readable-from (Resumes line ∷ happens) s fits are all =
      by-gap (some_crossed s.watched) (readable-from happens s fits are all)
    where
      by-gap : (t : Bool) → Readable masters ports s.channels told (rows_from happens s).text
          → Readable masters ports s.channels told (cond t no_rows (rows_from happens s)).text
      by-gap true more = readable-none masters ports s.channels told
      by-gap false more = more
  readable-from (Wrong line mistake ∷ happens) s fits are all = readable-none masters ports s.channels told
