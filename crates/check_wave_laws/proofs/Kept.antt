-- What is kept has the bits of all that is looked at.
use Rattle.std.proofs.Common.{◌≡◌, ◌∙◌, ℕ, zero, suc, ◌+◌, ◌-◌, ◌*◌, ◌<◌, ◌≤◌, nat_lt, Bool, true, false, ◌||◌, cond, List, [], ◌∷◌, ◌++◌, length, get_or, map, Option, Some, None, Result, Ok, Err, arith, refl, sym, ap, subst, append_assoc}
use Rattle.std.specs.Prelude.{⊤}
use Rattle.std.specs.List.{AllByRecursion, cons_option}
use Rattle.std.specs.Str.{bytes_eq}
use Rattle.std.proofs.lemmas.Bool.Decides.{nat_tests}
use Rattle.std.proofs.lemmas.List.{length-replicate}
use Rattle.std.proofs.lemmas.Slice.Eq.{bytes_eq-Decides}
use Rattle.tl_text.specs.Reading.{◌>>=◌}
use Rattle.check_beats.specs.declared.bus.Bus.{Bus}
use Rattle.check_watch.specs.declared.beat.Link.{Link}
use Rattle.check_rows.specs.Buses.{IsLinkOf, bus_of_link}
use Rattle.check_vcd.specs.Body.{Find}
use Rattle.check_vcd.specs.Codes.{coded_from, coded_in, as_widest}
use Rattle.check_vcd.specs.Dump.{with_slot}
use Rattle.check_vcd.specs.Header.{Var}
use Rattle.check_vcd.specs.declared.codes.Coded.{Coded}
use Rattle.check_samples.specs.declared.channel.BeatTaps.TheVariants.{A, D}
use Rattle.check_samples.specs.declared.channel.Channel.{Channel}
use Rattle.check_signals.specs.Found.{ClockSources, Found, LinkSources, FoundSources, all_clocks, all_of, clock_sources, domain_place, of_link, with_lines, bits_in, code_in, digits_in, distinct, find_of, flat, found_in, found_of, in_order, is_kept, is_same, joined_bits, joins_in, joins_of, link_bits, link_joins, values_kept, links_from, channels_of_link, channel_pairs, slot_place, sampling_of, slot_one, slots_from, sources_in, tap_by, tap_of, taps_from, width_in}
use Rattle.check_signals.specs.Names.{SignalNames}
use Rattle.check_signals.specs.Parts.{all_parts}
use Rattle.check_signals.specs.Source.{Changing, Constant, SearchFault, Kept, Source, parts_bits, width_by, width_of}
use Rattle.check_signals.specs.declared.keys.TheConstants.{SIGNALS}
use Rattle.check_samples.specs.declared.signal.Signal.{Signal}
use Rattle.check_samples.specs.declared.tap.Tap.{Tap}
use Rattle.check_signals.specs.Wanted.{wanted_of}
use Rattle.check_signals.specs.declared.signal_fault.SignalOwner.TheVariants as owner
use Rattle.check_signals.specs.declared.wanted.Wanted.{Wanted}
use Rattle.check_signals.specs.declared.wanted.Wanted.TheVariants.{Exactly}
use Rattle.check_wave_laws.specs.Text.{AllLieWithin, ChannelFits, FindFits, SamplingFits, TakesBeat, taps_bits}
use Rattle.check_wave_laws.proofs.Found.{ClockFits, FitsAll, LineFits, clock-fits, HasBits, KeptFits, LinkFits, PartFits, PartsFit, each-append, each-first, each-has, each-map, each-second, masters-fit, ports-fit}

-- ---- one value and another

same-self : (value : Kept) → is_same value value ≡ true
same-self (Changing code width) = (bytes_eq-Decides code code).1 refl
same-self (Constant digit width) = grind (arith, nat_tests)

same-width : (vars : List Var) (one other : Kept) → KeptFits vars one → KeptFits vars other → is_same one other ≡ true
    → width_in one ≡ width_in other
same-width vars (Changing code width) (Changing other count) one two same =
    one ∙ ap (width_of vars) ((bytes_eq-Decides code other).0 same) ∙ sym two
same-width vars (Changing code width) (Constant digit count) one two same = absurd (cc)
same-width vars (Constant digit width) (Changing code count) one two same = absurd (cc)
same-width vars (Constant digit width) (Constant other count) one two same = grind (arith, nat_tests)

-- ---- the values that are kept

kept-append : (some more : List Kept) (value : Kept) → is_kept some value ≡ true → is_kept (some ++ more) value ≡ true
kept-append [] more value is = absurd (cc)
kept-append (other ∷ some) more value is = go (is_same other value) (λ rest. kept-append some more value rest) is
  where
    go : (t : Bool) → (is_kept some value ≡ true → is_kept (some ++ more) value ≡ true) → t || is_kept some value ≡ true
        → t || is_kept (some ++ more) value ≡ true
    go true rest e = refl
    go false rest e = rest e

kept-last : (some : List Kept) (value : Kept) → is_kept (some ++ (value ∷ [])) value ≡ true
kept-last [] value = go (is_same value value) (same-self value)
  where
    go : (t : Bool) → t ≡ true → t || false ≡ true
    go true x = refl
    go false x = x
kept-last (other ∷ some) value = go (is_same other value) (kept-last some value)
  where
    go : (t : Bool) → is_kept (some ++ (value ∷ [])) value ≡ true → t || is_kept (some ++ (value ∷ [])) value ≡ true
    go true rest = refl
    go false rest = rest

-- each value is among those that were kept, or is kept
all-kept : (some values : List Kept) → AllByRecursion (λ value. is_kept (some ++ distinct some values) value ≡ true) values
all-kept some [] = tt
all-kept some (value ∷ values) =
    go (is_kept some value) refl (all-kept some values) (all-kept (some ++ (value ∷ [])) values)
  where
    go : (t : Bool) → is_kept some value ≡ t
        → AllByRecursion (λ other. is_kept (some ++ distinct some values) other ≡ true) values
        → AllByRecursion (λ other. is_kept ((some ++ (value ∷ [])) ++ distinct (some ++ (value ∷ [])) values) other ≡ true) values
        → AllByRecursion (λ other. is_kept (some ++ cond t (distinct some values)
        (value ∷ distinct (some ++ (value ∷ [])) values)) other ≡ true) (value ∷ values)
    go true x same next = (kept-append some (distinct some values) value x, same)
    go false x same next =
        let more = distinct (some ++ (value ∷ [])) values in
        let assoc : (some ++ (value ∷ [])) ++ more ≡ some ++ (value ∷ more) = append_assoc some (value ∷ []) more in (
          subst (λ (all : List Kept). is_kept all value ≡ true) assoc
              (kept-append (some ++ (value ∷ [])) more value (kept-last some value)),
          subst (λ (all : List Kept). AllByRecursion (λ other. is_kept all other ≡ true) values) assoc next,
        )

distinct-fits : (vars : List Var) (some values : List Kept) → AllByRecursion (KeptFits vars) values
    → AllByRecursion (KeptFits vars) (distinct some values)
distinct-fits vars some [] all = tt
distinct-fits vars some (value ∷ values) all =
    go (is_kept some value) (distinct-fits vars some values all.1)
    (distinct-fits vars (some ++ (value ∷ [])) values all.1)
  where
    go : (t : Bool) → AllByRecursion (KeptFits vars) (distinct some values)
        → AllByRecursion (KeptFits vars) (distinct (some ++ (value ∷ [])) values)
        → AllByRecursion (KeptFits vars) (cond t (distinct some values) (value ∷ distinct (some ++ (value ∷ [])) values))
    go true same next = same
    go false same next = (all.0, next)

-- the slot of a value has its width
place-width : (vars : List Var) (kept : List Kept) (value : Kept) → AllByRecursion (KeptFits vars) kept → KeptFits vars value
    → is_kept kept value ≡ true → get_or (map width_in kept) (slot_place kept value) 0 ≡ width_in value
place-width vars [] value all fits is = absurd (cc)
place-width vars (other ∷ kept) value all fits is =
    go (is_same other value) refl (λ rest. place-width vars kept value all.1 fits rest) is
  where
    go : (t : Bool) → is_same other value ≡ t
        → (is_kept kept value ≡ true → get_or (map width_in kept) (slot_place kept value) 0 ≡ width_in value)
        → t || is_kept kept value ≡ true
        → get_or (width_in other ∷ map width_in kept) (cond t 0 (slot_place kept value + 1)) 0 ≡ width_in value
    go true x rest e = same-width vars other value all.0 fits x
    go false x rest e =
        let next : slot_place kept value + 1 ≡ suc (slot_place kept value) = omega arith in
        ap (λ (n : ℕ). get_or (width_in other ∷ map width_in kept) n 0) next ∙ rest e

-- ---- the sources

-- the slot of a source has the width of its value
abbrev SlotFits : List Kept → Source → Type 0
SlotFits kept s = get_or (map width_in kept) (slot_place kept s.kept) 0 ≡ width_in s.kept

abbrev ValueFits : List Var → Source → Type 0
ValueFits vars s = KeptFits vars s.kept

values-of-parts : (vars : List Var) (parts : List Source) → AllByRecursion (PartFits vars) parts → AllByRecursion (ValueFits vars) parts
values-of-parts vars [] fits = tt
values-of-parts vars (s ∷ parts) fits = (fits.0.kept, values-of-parts vars parts fits.1)

values-fit : (vars : List Var) (bus : ℕ) (signals : List Signal) (found : List (List Source))
    → FitsAll vars bus signals found → AllByRecursion (ValueFits vars) (all_parts found)
values-fit vars bus signals [] fits = tt
values-fit vars bus [] (parts ∷ found) fits = absurd fits
values-fit vars bus (which ∷ signals) (parts ∷ found) fits =
    each-append (ValueFits vars) parts (all_parts found) (values-of-parts vars parts fits.0.each)
    (values-fit vars bus signals found fits.1)

-- a clock and a reset before other sources
line-before : (vars : List Var) (line : Option Source) (others : List Source) → LineFits vars line
    → AllByRecursion (ValueFits vars) others → AllByRecursion (ValueFits vars) (cons_option line others)
line-before vars None others one rest = rest
line-before vars (Some s) others one rest = (one.kept, rest)

with-lines-fit : (vars : List Var) (own : ClockSources) (others : List Source) → ClockFits vars own
    → AllByRecursion (ValueFits vars) others → AllByRecursion (ValueFits vars) (with_lines own others)
with-lines-fit vars own others fits rest =
    line-before vars own.clock (cons_option own.reset others) fits.clock (line-before vars own.reset others fits.reset rest)

behind-line : (P : Source → Type 0) (line : Option Source) (others : List Source) → AllByRecursion P (cons_option line others)
    → AllByRecursion P others
behind-line P None others all = all
behind-line P (Some s) others all = all.1

behind-lines : (P : Source → Type 0) (own : ClockSources) (others : List Source) → AllByRecursion P (with_lines own others)
    → AllByRecursion P others
behind-lines P own others all = behind-line P own.reset others (behind-line P own.clock (cons_option own.reset others) all)

flat-fits : (vars : List Var) (masters ports : List Bus) (links : List LinkSources)
    → AllByRecursion (LinkFits vars masters ports) links → AllByRecursion (ValueFits vars) (flat links)
flat-fits vars masters ports [] fits = tt
flat-fits vars masters ports (found ∷ links) fits =
    each-append (ValueFits vars) (of_link found) (flat links)
    (with-lines-fit vars found.clock (all_parts found.signals) fits.0.clock
    (values-fit vars (bus_of_link masters ports found.link) SIGNALS found.signals fits.0.signals))
    (flat-fits vars masters ports links fits.1)

slots-fit : (vars : List Var) (kept : List Kept) (sources : List Source) → AllByRecursion (KeptFits vars) kept
    → AllByRecursion (ValueFits vars) sources → AllByRecursion (λ value. is_kept kept value ≡ true) (map (λ s. s.kept) sources)
    → AllByRecursion (SlotFits kept) sources
slots-fit vars kept [] all fits are = tt
slots-fit vars kept (s ∷ sources) all fits are =
    (place-width vars kept s.kept all fits.0 are.0, slots-fit vars kept sources all fits.1 are.1)

-- all that is kept of sources fits, and so do their slots
pub record KeptAll (vars : List Var) (kept : List Kept) (sources : List Source) : Type 0 where
  pub values : AllByRecursion (KeptFits vars) kept
  pub slots : AllByRecursion (SlotFits kept) sources

pub kept-all : (vars : List Var) (sources : List Source) → AllByRecursion (ValueFits vars) sources
    → KeptAll vars (values_kept sources) sources
unfolding values_kept
kept-all vars sources fits =
    let values = map (λ (s : Source). s.kept) sources in
    let kept = distinct [] values in
    let fit = distinct-fits vars [] values (each-map (ValueFits vars) (KeptFits vars) (λ (s : Source). s.kept) sources
    (λ s is. is) fits) in
    record { values = fit; slots = slots-fit vars kept sources fit fits (all-kept [] values) }

-- ---- the channels of a link

abbrev PairFits : List Bus → List Bus → List ℕ → Channel × Channel → Type 0
PairFits masters ports widths pair =
    ChannelFits masters ports widths pair.0 × ChannelFits masters ports widths pair.1

-- a tap lies within the value of its slot, and has as many bits as its signal
record TapFits (widths : List ℕ) (wanted : Wanted) (tap : Tap) : Type 0 where
  from : tap.from ≤ tap.to
  inside : tap.to ≤ get_or widths tap.slot 0
  bits : HasBits wanted (tap.to - tap.from)

abbrev TapsFit : List ℕ → ℕ → List Signal → List Tap → Type 0
TapsFit widths bus signals [] = ⊤
TapsFit widths bus [] (tap ∷ taps) = ⊥
TapsFit widths bus (which ∷ signals) (tap ∷ taps) =
    TapFits widths (wanted_of which bus) tap × TapsFit widths bus signals taps

-- what stands before more widths
get-before : (widths more : List ℕ) (slot : ℕ) → get_or widths slot 0 ≤ get_or (widths ++ more) slot 0
get-before [] more slot = omega arith
get-before (width ∷ widths) more zero = omega arith
get-before (width ∷ widths) more (suc slot) = get-before widths more slot

-- and what stands behind those of the values that are kept
get-behind : (kept : List Kept) (total : ℕ) → get_or (map width_in kept ++ (total ∷ [])) (length kept) 0 ≡ total
get-behind [] total = refl
get-behind (value ∷ kept) total = get-behind kept total

part-inside : (kept : List Kept) (s : Source) → s.to ≤ width_in s.kept → SlotFits kept s
    → s.to ≤ get_or (map width_in kept) (slot_place kept s.kept) 0
part-inside kept s inside slot = subst (λ (w : ℕ). s.to ≤ w) (sym slot) inside

-- a signal of several parts is some bits of what is put together
several-fits : (vars : List Var) (kept : List Kept) (total before : ℕ) (wanted : Wanted) (parts : List Source)
    → HasBits wanted (parts_bits parts) → before + parts_bits parts ≤ total
    → TapFits (map width_in kept ++ (total ∷ [])) wanted
    (record { slot = length kept; from = before; to = before + parts_bits parts })
several-fits vars kept total before wanted parts bits room =
    let count : parts_bits parts ≡ before + parts_bits parts - before = omega arith in
    record {
      from = omega arith;
      inside = subst (λ (w : ℕ). before + parts_bits parts ≤ w) (sym (get-behind kept total)) room;
      bits = subst (HasBits wanted) count bits;
    }

tap-fits : (vars : List Var) (kept : List Kept) (total before : ℕ) (wanted : Wanted) (parts : List Source)
    → PartsFit vars wanted parts → AllByRecursion (SlotFits kept) parts → before + joined_bits parts ≤ total
    → TapFits (map width_in kept ++ (total ∷ [])) wanted (tap_of kept before parts)
tap-fits vars kept total before wanted [] fits slots room = several-fits vars kept total before wanted [] fits.bits room
tap-fits vars kept total before wanted (s ∷ []) fits slots room =
    let count : parts_bits (s ∷ []) ≡ s.to - s.from = omega arith in
    record {
      from = fits.each.0.from;
      inside = omega (
        arith,
        part-inside kept s fits.each.0.inside slots.0,
        get-before (map width_in kept) (total ∷ []) (slot_place kept s.kept),
      );
      bits = subst (HasBits wanted) count fits.bits;
    }
tap-fits vars kept total before wanted (s ∷ (r ∷ parts)) fits slots room =
    several-fits vars kept total before wanted (s ∷ (r ∷ parts)) fits.bits room

taps-fit : (vars : List Var) (kept : List Kept) (total before bus : ℕ) (signals : List Signal)
    (found : List (List Source)) → FitsAll vars bus signals found → AllByRecursion (SlotFits kept) (all_parts found)
    → before + bits_in found ≤ total
    → TapsFit (map width_in kept ++ (total ∷ [])) bus signals (taps_from kept before found)
taps-fit vars kept total before bus signals [] fits slots room = tt
taps-fit vars kept total before bus [] (parts ∷ found) fits slots room = absurd fits
taps-fit vars kept total before bus (which ∷ signals) (parts ∷ found) fits slots room = (
  tap-fits vars kept total before (wanted_of which bus) parts fits.0
      (each-first (SlotFits kept) parts (all_parts found) slots) (omega (arith, room)),
  taps-fit vars kept total (before + joined_bits parts) bus signals found fits.1
      (each-second (SlotFits kept) parts (all_parts found) slots) (omega (arith, room)),
)

takes : (widths : List ℕ) (tap : Tap) (n : ℕ) → TapFits widths (Exactly n) tap → TakesBeat widths tap n
takes widths tap n fits = record { from = fits.from; inside = fits.inside; bits = fits.bits }

pair-fits : (masters ports : List Bus) (widths : List ℕ) (link : Link) (domain : ℕ) (taps : List Tap)
    (pair : Channel × Channel)
    → IsLinkOf masters ports link → TapsFit widths (bus_of_link masters ports link) SIGNALS taps
    → channels_of_link link domain taps ≡ Some pair → PairFits masters ports widths pair
pair-fits masters ports widths link domain
    (a_valid ∷ a_ready ∷ a_opcode ∷ a_param ∷ a_size ∷ a_source ∷ a_address ∷ a_mask ∷ a_data ∷ a_corrupt ∷ d_valid
    ∷ d_ready ∷ d_opcode ∷ d_param ∷ d_size ∷ d_source ∷ d_data ∷ d_denied ∷ d_corrupt ∷ [])
    pair one fits is =
    let f = fits.1.1 in
    let g = f.1.1.1.1.1 in
    let h = g.1.1.1.1.1 in
    let bus = bus_of_link masters ports link in
    let ask : Channel = record {
      link = link;
      domain = domain;
      valid = a_valid;
      ready = a_ready;
      beat = A (record {
        opcode = a_opcode;
        param = a_param;
        size = a_size;
        source = a_source;
        address = a_address;
        mask = a_mask;
        «data» = a_data;
        corrupt = a_corrupt;
      });
    } in
    let reply : Channel = record {
      link = link;
      domain = domain;
      valid = d_valid;
      ready = d_ready;
      beat = D (record {
        opcode = d_opcode;
        param = d_param;
        size = d_size;
        source = d_source;
        «data» = d_data;
        denied = d_denied;
        corrupt = d_corrupt;
      });
    } in
    let same : (ask, reply) ≡ pair = cc in
    subst (PairFits masters ports widths) same (
      record {
        link = one;
        taps = record {
          opcode = f.0.bits;
          param = f.1.0.bits;
          size = f.1.1.0.bits;
          source = f.1.1.1.0.bits;
          mask = takes widths a_mask bus g.0;
          lanes = takes widths a_data (8 * bus) g.1.0;
          corrupt = g.1.1.0.bits;
        };
      },
      record {
        link = one;
        taps = record {
          opcode = h.0.bits;
          param = h.1.0.bits;
          size = h.1.1.0.bits;
          source = h.1.1.1.0.bits;
          lanes = takes widths d_data (8 * bus) h.1.1.1.1.0;
          denied = h.1.1.1.1.1.0.bits;
          corrupt = h.1.1.1.1.1.1.0.bits;
        };
      },
    )
pair-fits masters ports widths link domain taps pair one fits is = absurd (cc)

-- the values that are kept, and behind them one of so many bits
abbrev widths-with : List Kept → ℕ → List ℕ
widths-with kept total = map width_in kept ++ (total ∷ [])

pairs-fit : (vars : List Var) (masters ports : List Bus) (kept : List Kept) (clocks : List ClockSources) (total before : ℕ)
    (links : List LinkSources)
    → AllByRecursion (LinkFits vars masters ports) links → AllByRecursion (SlotFits kept) (flat links) → before + link_bits links ≤ total
    → AllByRecursion (PairFits masters ports (widths-with kept total)) (channel_pairs kept clocks before links)
pairs-fit vars masters ports kept clocks total before [] fits slots room = tt
pairs-fit vars masters ports kept clocks total before (found ∷ links) fits slots room =
    go (channels_of_link found.link (domain_place clocks found.clock.names) (taps_from kept before found.signals))
    (λ pair is. pair-fits masters ports (widths-with kept total) found.link (domain_place clocks found.clock.names) (taps_from kept before found.signals) pair
    fits.0.link (taps-fit vars kept total before (bus_of_link masters ports found.link) SIGNALS found.signals fits.0.signals
    (behind-lines (SlotFits kept) found.clock (all_parts found.signals)
    (each-first (SlotFits kept) (of_link found) (flat links) slots)) (omega (arith, room))) is)
    (pairs-fit vars masters ports kept clocks total (before + bits_in found.signals) links fits.1
    (each-second (SlotFits kept) (of_link found) (flat links) slots) (omega (arith, room)))
  where
    go : (o : Option (Channel × Channel))
        → ((pair : Channel × Channel) → o ≡ Some pair → PairFits masters ports (widths-with kept total) pair)
        → AllByRecursion (PairFits masters ports (widths-with kept total))
        (channel_pairs kept clocks (before + bits_in found.signals) links)
        → AllByRecursion (PairFits masters ports (widths-with kept total))
        (cons_option o (channel_pairs kept clocks (before + bits_in found.signals) links))
    go None fit others = others
    go (Some pair) fit others = (fit pair refl, others)

-- ---- what is put together

taps-append : (some more : List Tap) → taps_bits (some ++ more) ≡ taps_bits some + taps_bits more
taps-append [] more = omega arith
taps-append (tap ∷ some) more = omega (arith, taps-append some more)

parts-count : (kept : List Kept) (parts : List Source) → taps_bits (map (tap_by kept) parts) ≡ parts_bits parts
parts-count kept [] = refl
parts-count kept (s ∷ parts) = ap (λ (n : ℕ). (s.to - s.from) + n) (parts-count kept parts)

joins-count : (kept : List Kept) (parts : List Source) → taps_bits (joins_of kept parts) ≡ joined_bits parts
joins-count kept [] = refl
joins-count kept (s ∷ []) = refl
joins-count kept (s ∷ (r ∷ parts)) = parts-count kept (s ∷ (r ∷ parts))

signals-count : (kept : List Kept) (found : List (List Source)) → taps_bits (joins_in kept found) ≡ bits_in found
signals-count kept [] = refl
signals-count kept (parts ∷ found) =
    taps-append (joins_of kept parts) (joins_in kept found)
    ∙ ap (λ (n : ℕ). n + taps_bits (joins_in kept found)) (joins-count kept parts)
    ∙ ap (λ (n : ℕ). joined_bits parts + n) (signals-count kept found)

links-count : (kept : List Kept) (links : List LinkSources) → taps_bits (link_joins kept links) ≡ link_bits links
links-count kept [] = refl
links-count kept (found ∷ links) =
    taps-append (joins_in kept found.signals) (link_joins kept links)
    ∙ ap (λ (n : ℕ). n + taps_bits (link_joins kept links)) (signals-count kept found.signals)
    ∙ ap (λ (n : ℕ). bits_in found.signals + n) (links-count kept links)

lie-append : (widths : List ℕ) (some more : List Tap) → AllLieWithin widths some → AllLieWithin widths more
    → AllLieWithin widths (some ++ more)
lie-append widths [] more one two = two
lie-append widths (tap ∷ some) more one two = (one.0, lie-append widths some more one.1 two)

parts-lie : (vars : List Var) (kept : List Kept) (parts : List Source) → AllByRecursion (PartFits vars) parts
    → AllByRecursion (SlotFits kept) parts → AllLieWithin (map width_in kept) (map (tap_by kept) parts)
parts-lie vars kept [] fits slots = tt
parts-lie vars kept (s ∷ parts) fits slots = (
  record { from = fits.0.from; inside = part-inside kept s fits.0.inside slots.0 },
  parts-lie vars kept parts fits.1 slots.1,
)

joins-lie : (vars : List Var) (kept : List Kept) (parts : List Source) → AllByRecursion (PartFits vars) parts
    → AllByRecursion (SlotFits kept) parts → AllLieWithin (map width_in kept) (joins_of kept parts)
joins-lie vars kept [] fits slots = tt
joins-lie vars kept (s ∷ []) fits slots = tt
joins-lie vars kept (s ∷ (r ∷ parts)) fits slots = parts-lie vars kept (s ∷ (r ∷ parts)) fits slots

signals-lie : (vars : List Var) (kept : List Kept) (bus : ℕ) (signals : List Signal) (found : List (List Source))
    → FitsAll vars bus signals found → AllByRecursion (SlotFits kept) (all_parts found)
    → AllLieWithin (map width_in kept) (joins_in kept found)
signals-lie vars kept bus signals [] fits slots = tt
signals-lie vars kept bus [] (parts ∷ found) fits slots = absurd fits
signals-lie vars kept bus (which ∷ signals) (parts ∷ found) fits slots =
    lie-append (map width_in kept) (joins_of kept parts) (joins_in kept found)
    (joins-lie vars kept parts fits.0.each (each-first (SlotFits kept) parts (all_parts found) slots))
    (signals-lie vars kept bus signals found fits.1 (each-second (SlotFits kept) parts (all_parts found) slots))

links-lie : (vars : List Var) (masters ports : List Bus) (kept : List Kept) (links : List LinkSources)
    → AllByRecursion (LinkFits vars masters ports) links → AllByRecursion (SlotFits kept) (flat links)
    → AllLieWithin (map width_in kept) (link_joins kept links)
links-lie vars masters ports kept [] fits slots = tt
links-lie vars masters ports kept (found ∷ links) fits slots =
    lie-append (map width_in kept) (joins_in kept found.signals) (link_joins kept links)
    (signals-lie vars kept (bus_of_link masters ports found.link) SIGNALS found.signals fits.0.signals
    (behind-lines (SlotFits kept) found.clock (all_parts found.signals)
    (each-first (SlotFits kept) (of_link found) (flat links) slots)))
    (links-lie vars masters ports kept links fits.1
    (each-second (SlotFits kept) (of_link found) (flat links) slots))

order-fits : (masters ports : List Bus) (widths : List ℕ) (of_ports of_masters : List (Channel × Channel))
    → AllByRecursion (PairFits masters ports widths) of_ports → AllByRecursion (PairFits masters ports widths) of_masters
    → AllByRecursion (ChannelFits masters ports widths) (in_order of_ports of_masters)
order-fits masters ports widths of_ports of_masters one two =
    let P = ChannelFits masters ports widths in
    let Q = PairFits masters ports widths in
    let ask = λ (pair : Channel × Channel). pair.0 in
    let reply = λ (pair : Channel × Channel). pair.1 in
    each-append P ((map ask of_masters ++ map ask of_ports) ++ map reply of_ports) (map reply of_masters)
    (each-append P (map ask of_masters ++ map ask of_ports) (map reply of_ports)
    (each-append P (map ask of_masters) (map ask of_ports) (each-map Q P ask of_masters (λ pair is. is.0) two)
    (each-map Q P ask of_ports (λ pair is. is.0) one))
    (each-map Q P reply of_ports (λ pair is. is.1) one))
    (each-map Q P reply of_masters (λ pair is. is.1) two)

-- ---- the values before a dump's body

digits-width : (vars : List Var) (value : Kept) → KeptFits vars value → length (digits_in value) ≡ width_in value
digits-width vars (Changing code width) fits = length-replicate width 120
digits-width vars (Constant digit width) fits = length-replicate width digit

digits-widths : (vars : List Var) (kept : List Kept) → AllByRecursion (KeptFits vars) kept
    → map length (map digits_in kept) ≡ map width_in kept
digits-widths vars [] fits = refl
digits-widths vars (value ∷ kept) fits =
    ap (λ (n : ℕ). n ∷ map length (map digits_in kept)) (digits-width vars value fits.0)
    ∙ ap (λ (ws : List ℕ). width_in value ∷ ws) (digits-widths vars kept fits.1)

-- ---- the identifiers

-- an identifier that has a slot has its width; and each has that of its first signal
record FindIs (vars : List Var) (widths : List ℕ) (find : Find) : Type 0 where
  slot : (code : List ℕ) (coded : Coded) (slot : ℕ) → find code ≡ Some coded → coded.slot ≡ Some slot
      → coded.width ≤ get_or widths slot 0
  width : (code : List ℕ) (coded : Coded) → find code ≡ Some coded → coded.width ≡ width_of vars code

-- an identifier has no slot, if it is known
abbrev NoSlot : Option Coded → Type 0
NoSlot None = ⊤
NoSlot (Some coded) = coded.slot ≡ None

widened-none : (known : Option Coded) (width : ℕ) → NoSlot known → NoSlot (Some (as_widest known width))
widened-none None width none = refl
widened-none (Some known) width none = go (nat_lt known.width width)
  where
    go : (t : Bool) → NoSlot (Some (cond t (record { width = width; slot = None }) known))
    go true = refl
    go false = none

coded-none : (known : Option Coded) (vars : List Var) (code : List ℕ) (coded : Coded) → NoSlot known
    → coded_from known vars code ≡ Some coded → coded.slot ≡ None
coded-none known [] code coded none is = subst NoSlot is none
coded-none known (var ∷ vars) code coded none is =
    go (bytes_eq var.code code)
    (λ rest. coded-none (Some (as_widest known var.width)) vars code coded (widened-none known var.width none) rest)
    (λ rest. coded-none known vars code coded none rest) is
  where
    go : (t : Bool) → (coded_from (Some (as_widest known var.width)) vars code ≡ Some coded → coded.slot ≡ None)
        → (coded_from known vars code ≡ Some coded → coded.slot ≡ None)
        → cond t (coded_from (Some (as_widest known var.width)) vars code) (coded_from known vars code) ≡ Some coded
        → coded.slot ≡ None
    go true one two e = one e
    go false one two e = two e

one-fits : (vars : List Var) (widths : List ℕ) (value : Kept) (n : ℕ) (find : Find) → KeptFits vars value
    → get_or widths n 0 ≡ width_in value → FindIs vars widths find
    → FindIs vars widths (slot_one (code_in value) n find)
one-fits vars widths (Constant digit width) n find fits at is = is
one-fits vars widths (Changing code width) n find fits at is = record {
  slot = λ other coded slot e s. by other coded slot (bytes_eq code other) refl (find other) refl e s;
  width = λ other coded e. wide other coded (bytes_eq code other) (find other) refl e;
}
  where
    by : (other : List ℕ) (coded : Coded) (slot : ℕ) (t : Bool) → bytes_eq code other ≡ t → (o : Option Coded)
        → find other ≡ o → cond t (with_slot n o) o ≡ Some coded → coded.slot ≡ Some slot
        → coded.width ≤ get_or widths slot 0
    by other coded slot true x None y e s = absurd (cc)
    by other coded slot true x (Some old) y e s =
        let made : Coded = record { width = old.width; slot = Some n } in
        let same : made ≡ coded = cc in
        let width_is : coded.width ≡ old.width = ap (λ (c : Coded). c.width) (sym same) in
        let slots : Some n ≡ coded.slot = ap (λ (c : Coded). c.slot) same in
        let slot_is : n ≡ slot = cc in
        let known : old.width ≡ width_of vars other = is.width other old y in
        let named : width_of vars code ≡ width_of vars other =
        ap (width_of vars) ((bytes_eq-Decides code other).0 x) in
        subst (λ (k : ℕ). coded.width ≤ get_or widths k 0) slot_is
        (omega (arith, width_is, known, named, fits, at))
    by other coded slot false x o y e s = is.slot other coded slot (y ∙ e) s

    wide : (other : List ℕ) (coded : Coded) (t : Bool) (o : Option Coded) → find other ≡ o
        → cond t (with_slot n o) o ≡ Some coded → coded.width ≡ width_of vars other
    wide other coded true None y e = absurd (cc)
    wide other coded true (Some old) y e =
        let made : Coded = record { width = old.width; slot = Some n } in
        let same : made ≡ coded = cc in
        ap (λ (c : Coded). c.width) (sym same) ∙ is.width other old y
    wide other coded false o y e = is.width other coded (y ∙ e)

all-slots : (vars : List Var) (widths : List ℕ) (kept : List Kept) (n : ℕ) (find : Find) → AllByRecursion (KeptFits vars) kept
    → ((k : ℕ) → k < length kept → get_or widths (n + k) 0 ≡ get_or (map width_in kept) k 0) → FindIs vars widths find
    → (code : List ℕ) (coded : Coded) (slot : ℕ) → slots_from (map code_in kept) n find code ≡ Some coded
    → coded.slot ≡ Some slot → coded.width ≤ get_or widths slot 0
all-slots vars widths [] n find fits at is code coded slot e s = is.slot code coded slot e s
all-slots vars widths (value ∷ kept) n find fits at is code coded slot e s =
    let here : get_or widths n 0 ≡ width_in value =
    subst (λ (k : ℕ). get_or widths k 0 ≡ width_in value) (omega arith) (at 0 (omega arith)) in
    all-slots vars widths kept (n + 1) (slot_one (code_in value) n find) fits.1
    (λ k h. subst (λ (j : ℕ). get_or widths j 0 ≡ get_or (map width_in kept) k 0) (omega arith)
    (at (suc k) (omega (arith, h))))
    (one-fits vars widths value n find fits.0 here is) code coded slot e s

find-fits : (vars : List Var) (kept : List Kept) → AllByRecursion (KeptFits vars) kept
    → FindFits (map width_in kept) (slots_from (map code_in kept) 0 (coded_in vars))
find-fits vars kept fits code coded slot e s =
    all-slots vars (map width_in kept) kept 0 (coded_in vars) fits
    (λ k h. ap (λ (j : ℕ). get_or (map width_in kept) j 0) (omega arith))
    (record {
      slot = λ other known at is has. absurd (cc (coded-none None vars other known tt is));
      width = λ other known is. sym (ap width_by is);
    }) code coded slot e s

-- ---- all of a system

-- what the names of a system find
pub record AllFit (vars : List Var) (masters ports : List Bus) (sources : FoundSources) : Type 0 where
  pub system : ClockFits vars sources.system
  pub of_ports : AllByRecursion (LinkFits vars masters ports) sources.ports
  pub of_masters : AllByRecursion (LinkFits vars masters ports) sources.masters

pub found-fits : (vars : List Var) (masters ports : List Bus) (sources : FoundSources)
    → AllFit vars masters ports sources
    → SamplingFits masters ports (sampling_of (found_of sources))
    × FindFits (sampling_of (found_of sources)).widths (find_of vars (found_of sources))
found-fits vars masters ports sources fits =
    let others = flat sources.ports ++ flat sources.masters in
    let all = all_of sources in
    let kept = values_kept all in
    let are : KeptAll vars kept all = kept-all vars all (with-lines-fit vars sources.system others
    fits.system
    (each-append (ValueFits vars) (flat sources.ports) (flat sources.masters)
    (flat-fits vars masters ports sources.ports fits.of_ports)
    (flat-fits vars masters ports sources.masters fits.of_masters))) in
    let clocks = all_clocks sources in
    let slots = behind-lines (SlotFits kept) sources.system others are.slots in
    let of_ports = each-first (SlotFits kept) (flat sources.ports) (flat sources.masters) slots in
    let of_masters = each-second (SlotFits kept) (flat sources.ports) (flat sources.masters) slots in
    let first = link_joins kept sources.ports in
    let second = link_joins kept sources.masters in
    let total = taps_bits (first ++ second) in
    let count : link_bits sources.ports + link_bits sources.masters ≡ total =
    omega (arith, taps-append first second, links-count kept sources.ports, links-count kept sources.masters) in
    let channels = order-fits masters ports (widths-with kept total) (channel_pairs kept clocks 0 sources.ports)
    (channel_pairs kept clocks (link_bits sources.ports) sources.masters)
    (pairs-fit vars masters ports kept clocks total 0 sources.ports fits.of_ports of_ports (omega (arith, count)))
    (pairs-fit vars masters ports kept clocks total (link_bits sources.ports) sources.masters fits.of_masters of_masters
    (omega (arith, count))) in (
      record {
        before = tt;
        now = digits-widths vars kept are.values;
        time = tt;
        joins = lie-append (map width_in kept) first second
            (links-lie vars masters ports kept sources.ports fits.of_ports of_ports)
            (links-lie vars masters ports kept sources.masters fits.of_masters of_masters);
        channels = λ which has.
            each-has (ChannelFits masters ports (widths-with kept total))
            (in_order (channel_pairs kept clocks 0 sources.ports)
            (channel_pairs kept clocks (link_bits sources.ports) sources.masters)) which channels has;
      },
      find-fits vars kept are.values,
    )

pub sources-fit : (vars : List Var) (masters ports : List Bus) (names : SignalNames) (sources : FoundSources)
    → sources_in vars masters ports names ≡ Ok sources → AllFit vars masters ports sources
unfolding sources_in
sources-fit vars masters ports names sources is =
    go (clock_sources vars owner.System names.system)
    (links_from vars true names.ports 0 ports) (links_from vars false names.masters 0 masters) refl refl refl is
  where
    go : (c : Result ClockSources SearchFault) (p m : Result (List LinkSources) SearchFault)
        → clock_sources vars owner.System names.system ≡ c
        → links_from vars true names.ports 0 ports ≡ p → links_from vars false names.masters 0 masters ≡ m
        → (c >>= (λ system. p >>= (λ of_ports. m >>= (λ of_masters.
        Ok (record { system = system; resets = names.resets; ports = of_ports; masters = of_masters }))))) ≡ Ok sources
        → AllFit vars masters ports sources
    go (Err fault) p m x z w e = absurd (cc)
    go (Ok system) (Err fault) m x z w e = absurd (cc)
    go (Ok system) (Ok of_ports) (Err fault) x z w e = absurd (cc)
    go (Ok system) (Ok of_ports) (Ok of_masters) x z w e =
        let made : FoundSources =
        record { system = system; resets = names.resets; ports = of_ports; masters = of_masters } in
        let same : made ≡ sources = cc in
        subst (AllFit vars masters ports) same (record {
          system = clock-fits vars owner.System names.system system x;
          of_ports = ports-fit vars masters ports names.ports of_ports z;
          of_masters = masters-fit vars masters ports names.masters of_masters w;
        })

pub sources-told : (vars : List Var) (masters ports : List Bus) (names : SignalNames) (sources : FoundSources)
    → sources_in vars masters ports names ≡ Ok sources → sources.resets ≡ names.resets
unfolding sources_in
sources-told vars masters ports names sources is =
    go (clock_sources vars owner.System names.system) (links_from vars true names.ports 0 ports)
    (links_from vars false names.masters 0 masters) is
  where
    go : (c : Result ClockSources SearchFault) (p m : Result (List LinkSources) SearchFault)
        → (c >>= (λ system. p >>= (λ of_ports. m >>= (λ of_masters.
        Ok (record { system = system; resets = names.resets; ports = of_ports; masters = of_masters }))))) ≡ Ok sources
        → sources.resets ≡ names.resets
    go (Err fault) p m e = absurd (cc)
    go (Ok system) (Err fault) m e = absurd (cc)
    go (Ok system) (Ok of_ports) (Err fault) e = absurd (cc)
    go (Ok system) (Ok of_ports) (Ok of_masters) e =
        let made : FoundSources =
        record { system = system; resets = names.resets; ports = of_ports; masters = of_masters } in
        let same : made ≡ sources = cc in
        ap (λ (s : FoundSources). s.resets) (sym same)

pub all-found : (vars : List Var) (masters ports : List Bus) (names : SignalNames) (found : Found)
    → found_in vars masters ports names ≡ Ok found
    → SamplingFits masters ports (sampling_of found) × FindFits (sampling_of found).widths (find_of vars found)
unfolding found_in
all-found vars masters ports names found is =
    go (sources_in vars masters ports names) (λ sources x. sources-fit vars masters ports names sources x) is
  where
    go : (r : Result FoundSources SearchFault) → ((sources : FoundSources) → r ≡ Ok sources → AllFit vars masters ports sources)
        → (r >>= (λ sources. Ok (found_of sources))) ≡ Ok found
        → SamplingFits masters ports (sampling_of found) × FindFits (sampling_of found).widths (find_of vars found)
    go (Err fault) fit e = absurd (cc)
    go (Ok sources) fit e =
        let same : found_of sources ≡ found = cc in
        subst (λ (f : Found). SamplingFits masters ports (sampling_of f)
        × FindFits (sampling_of f).widths (find_of vars f)) same
        (found-fits vars masters ports sources (fit sources refl))
