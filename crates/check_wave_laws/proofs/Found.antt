-- What the names of a system find has no more bits than its columns have room for.
use Rattle.std.proofs.Common.{◌≡◌, ℕ, zero, suc, ◌+◌, ◌-◌, ◌<◌, ◌≤◌, nat_le, nat_lt, Bool, true, false, ◌&&◌, not, cond, List, [], ◌∷◌, ◌++◌, length, map, is_some, Option, Some, None, Result, Ok, Err, Contains, ◌∙◌, ap, arith, refl, slice_get, subst}
use Rattle.std.specs.Prelude.{⊤, codes}
use Rattle.std.specs.List.{AllByRecursion, cons_option, list_any}
use Rattle.std.specs.Option.{option_and_then}
use Rattle.std.specs.Str.{bytes_eq}
use Rattle.std.proofs.lemmas.Bool.{ltb-false}
use Rattle.std.proofs.lemmas.Bool.Decides.{nat_tests}
use Rattle.tl_text.specs.Reading.{◌>>=◌, each, if_any}
use Rattle.check_beats.specs.Bus.{bus_bytes}
use Rattle.check_beats.specs.declared.bus.Bus.{Bus}
use Rattle.check_rows.specs.Buses.{HasBus, IsLinkOf, bus_of_link}
use Rattle.check_vcd.specs.Header.{Var}
use Rattle.check_vcd.specs.declared.range.Span.{Span}
use Rattle.check_samples.specs.Signal.{signal_name}
use Rattle.check_samples.specs.declared.signal.Signal.{Signal}
use Rattle.check_samples.specs.declared.signal.Signal.TheVariants as signal
use Rattle.check_signals.specs.Found.{LinkSources, NamedLink, NamesOf, signal_by, signals_named, parts_by, ClockSources, clock_sources, line_asked, line_source, link_at, link_sources, links_from, named_before, named_sources, names_at, numbered, owner_of, sources_of, width_in}
use Rattle.check_signals.specs.Names.{ClockNames, Joined, LinkNames, Prefixed, SignalName, Wired}
use Rattle.check_signals.specs.Prefixes.{taken}
use Rattle.check_signals.specs.Nets.{Bit, bit_among, bit_at, bit_within, bits_called, bits_wanted, codes_at, has_whole, indices_down, lone, meant, named_by, named_in, net_by, net_in, one_of, span_of, vector_in}
use Rattle.check_signals.specs.Parts.{all_parts, fitting, part_of, signal_parts}
use Rattle.check_signals.specs.Source.{WantedSignal, Changing, Constant, SearchFault, Kept, Source, Twice, Width, alone, constant_of, digit_in, left_out, measured, missing, parts_bits, signal_in, too_wide, unfound, width_of, within}
use Rattle.check_signals.specs.Wanted.{bits_fit, constant_bits, count_of, may_be_absent, may_be_unfound, wanted_of}
use Rattle.check_signals.specs.Wires.{Wire, first_of, places_in, sought, wider, widest_from, widest_of, wire_at, wire_by, wire_of, wires, wires_called}
use Rattle.check_signals.specs.declared.keys.TheConstants.{SIGNALS}
use Rattle.check_signals.specs.declared.parts.LinkSignal.{LinkSignal}
use Rattle.check_signals.specs.declared.signal_fault.SignalOwner.{SignalOwner}
use Rattle.check_signals.specs.declared.source.TheConstants.{MAX_WIDTH}
use Rattle.check_signals.specs.declared.wanted.Wanted.{Wanted}
use Rattle.check_signals.specs.declared.wanted.Wanted.TheVariants.{Exactly, AtMost, Optional, Extra}
use Rattle.check_signals.specs.declared.wires.Places.{Places}
use Rattle.check_due.proofs.Buses.{link-there}

-- ---- lists

pub each-append : {A : Type 0} → (P : A → Type 0) (xs ys : List A) → AllByRecursion P xs → AllByRecursion P ys → AllByRecursion P (xs ++ ys)
each-append P [] ys one two = two
each-append P (x ∷ xs) ys one two = (one.0, each-append P xs ys one.1 two)

pub each-first : {A : Type 0} → (P : A → Type 0) (xs ys : List A) → AllByRecursion P (xs ++ ys) → AllByRecursion P xs
each-first P [] ys all = tt
each-first P (x ∷ xs) ys all = (all.0, each-first P xs ys all.1)

pub each-second : {A : Type 0} → (P : A → Type 0) (xs ys : List A) → AllByRecursion P (xs ++ ys) → AllByRecursion P ys
each-second P [] ys all = all
each-second P (x ∷ xs) ys all = each-second P xs ys all.1

pub each-map : {A B : Type 0} → (P : A → Type 0) (Q : B → Type 0) (f : A → B) (xs : List A)
    → ((x : A) → P x → Q (f x)) → AllByRecursion P xs → AllByRecursion Q (map f xs)
each-map P Q f [] gives all = tt
each-map P Q f (x ∷ xs) gives all = (gives x all.0, each-map P Q f xs gives all.1)

pub each-has : {A : Type 0} → (P : A → Type 0) (xs : List A) (x : A) → AllByRecursion P xs → Contains xs x → P x
each-has {A} P [] x all has = absurd (omega (arith, has.1))
each-has {A} P (y ∷ ys) x all (zero, inside, is) = subst P is all.0
each-has {A} P (y ∷ ys) x all (suc k, inside, is) = each-has P ys x all.1 (k, omega (arith, inside), is)

-- ---- one name

-- so many bits are as many as are wanted
abbrev pub HasBits : Wanted → ℕ → Type 0
HasBits (Exactly count) bits = bits ≡ count
HasBits (AtMost count) bits = bits ≤ count
HasBits (Optional count) bits = bits ≤ count
HasBits (Extra count) bits = bits ≤ count

bits-fit : (wanted : Wanted) (bits : ℕ) → bits_fit wanted bits ≡ true → HasBits wanted bits
bits-fit (Exactly count) bits is = grind (arith, nat_tests)
bits-fit (AtMost count) bits is = grind (arith, nat_tests)
bits-fit (Optional count) bits is = grind (arith, nat_tests)
bits-fit (Extra count) bits is = grind (arith, nat_tests)

-- the values of an identifier have its width, and a constant has a digit
abbrev pub KeptFits : List Var → Kept → Type 0
KeptFits vars (Changing code width) = width ≡ width_of vars code
KeptFits vars (Constant digit width) = 0 < width

-- a source has as many bits as are wanted, within its value
pub record SourceFits (vars : List Var) (wanted : Wanted) (s : Source) : Type 0 where
  pub kept : KeptFits vars s.kept
  pub from : s.from ≤ s.to
  pub inside : s.to ≤ width_in s.kept
  pub bits : HasBits wanted (s.to - s.from)

constant-fits : (vars : List Var) (wanted : Wanted) (digit : ℕ) → 0 < count_of wanted
    → SourceFits vars wanted (constant_of digit (constant_bits wanted))
constant-fits vars (Exactly count) digit some =
    record { kept = some; from = omega arith; inside = omega arith; bits = omega arith }
constant-fits vars (AtMost count) digit some =
    record { kept = omega arith; from = omega arith; inside = omega arith; bits = omega (arith, some) }
constant-fits vars (Optional count) digit some =
    record { kept = omega arith; from = omega arith; inside = omega arith; bits = omega (arith, some) }
constant-fits vars (Extra count) digit some =
    record { kept = omega arith; from = omega arith; inside = omega arith; bits = omega (arith, some) }

-- a signal that a design leaves out has no bits
left-out-fits : (vars : List Var) (wanted : Wanted) → may_be_absent wanted ≡ true → SourceFits vars wanted left_out
left-out-fits vars (Exactly count) is = absurd (cc)
left-out-fits vars (AtMost count) is = absurd (cc)
left-out-fits vars (Optional count) is =
    record { kept = omega arith; from = omega arith; inside = omega arith; bits = omega arith }
left-out-fits vars (Extra count) is =
    record { kept = omega arith; from = omega arith; inside = omega arith; bits = omega arith }

unfound-absent : (wanted : Wanted) → may_be_unfound wanted ≡ true → may_be_absent wanted ≡ true
unfound-absent (Exactly count) is = absurd (cc)
unfound-absent (AtMost count) is = absurd (cc)
unfound-absent (Optional count) is = absurd (cc)
unfound-absent (Extra count) is = refl

-- nor has one that a prefix does not find
unfound-fits : (vars : List Var) (asked : WantedSignal) (s : Source) → unfound vars asked ≡ Ok s
    → SourceFits vars asked.wanted s
unfound-fits vars asked s is = go (is_some asked.behind) (may_be_unfound asked.wanted) refl is
  where
    go : (p m : Bool) → may_be_unfound asked.wanted ≡ m
        → cond (p && m) (Ok left_out) (Err (missing vars asked)) ≡ Ok s → SourceFits vars asked.wanted s
    go true true x e =
        let same : left_out ≡ s = cc in
        subst (SourceFits vars asked.wanted) same
        (left-out-fits vars asked.wanted (unfound-absent asked.wanted x))
    go true false x e = absurd (cc)
    go false m x e = absurd (cc)

-- the signal of a wire has its bits
abbrev WireFits : Wire → Type 0
WireFits wire = (wire.places.from ≤ wire.places.to) × (wire.places.to ≤ wire.var.width)

wire-at-fits : (var : Var) (places : Option Places) (wire : Wire) → wire_at var places ≡ Some wire → WireFits wire
wire-at-fits var None wire is = absurd (cc)
wire-at-fits var (Some places) wire is =
    go (nat_le places.from places.to) (nat_le places.to var.width) refl refl is
  where
    go : (a b : Bool) → nat_le places.from places.to ≡ a → nat_le places.to var.width ≡ b
        → cond (a && b) (Some (record { var = var; places = places })) None ≡ Some wire → WireFits wire
    go true true x y e =
        let same : record { var = var; places = places } ≡ wire = cc in
        subst WireFits same (grind (arith, nat_tests), grind (arith, nat_tests))
    go true false x y e = absurd (cc)
    go false b x y e = absurd (cc)

wire-fits : (name : List ℕ) (part : Option Span) (var : Var) (wire : Wire) → wire_of name part var ≡ Some wire
    → WireFits wire
wire-fits name part var wire is = go (bytes_eq var.name name) part is
  where
    go : (t : Bool) (part : Option Span) → cond t (wire_by part var) None ≡ Some wire → WireFits wire
    go false part e = absurd (cc)
    go true None e =
        let whole : Wire = record { var = var; places = record { from = 0; to = var.width } } in
        let same : whole ≡ wire = cc in
        subst WireFits same (omega arith, omega arith)
    go true (Some part) e = wire-at-fits var (option_and_then (λ span. places_in span part) var.span) wire e

wider-fits : (wire other : Wire) → WireFits wire → WireFits other → WireFits (wider wire other)
wider-fits wire other one two = go (nat_lt wire.var.width other.var.width)
  where
    go : (t : Bool) → WireFits (cond t other wire)
    go true = two
    go false = one

widest-from-fits : (name : List ℕ) (part : Option Span) (vars : List Var) (best : Wire) → WireFits best
    → WireFits (widest_from best (wires name part vars))
widest-from-fits name part [] best fits = fits
widest-from-fits name part (var ∷ vars) best fits =
    go (wire_of name part var) refl (λ other other_fits. widest-from-fits name part vars other other_fits)
  where
    go : (o : Option Wire) → wire_of name part var ≡ o
        → ((other : Wire) → WireFits other → WireFits (widest_from other (wires name part vars)))
        → WireFits (widest_from best (cons_option o (wires name part vars)))
    go None x rest = rest best fits
    go (Some found) x rest = rest (wider best found) (wider-fits best found fits (wire-fits name part var found x))

widest-fits : (name : List ℕ) (part : Option Span) (vars : List Var) (wire : Wire)
    → widest_of (wires name part vars) ≡ Some wire → WireFits wire
widest-fits name part [] wire is = absurd (cc)
widest-fits name part (var ∷ vars) wire is =
    go (wire_of name part var) refl (λ rest. widest-fits name part vars wire rest) is
  where
    go : (o : Option Wire) → wire_of name part var ≡ o → (widest_of (wires name part vars) ≡ Some wire → WireFits wire)
        → widest_of (cons_option o (wires name part vars)) ≡ Some wire → WireFits wire
    go None x others e = others e
    go (Some found) x others e =
        let same : widest_from found (wires name part vars) ≡ wire = cc in
        subst WireFits same (widest-from-fits name part vars found (wire-fits name part var found x))

within-fits : (vars : List Var) (asked : WantedSignal) (wire : Wire) (width : ℕ) (s : Source)
    → width ≡ width_of vars wire.var.code → WireFits wire → HasBits asked.wanted (wire.places.to - wire.places.from)
    → within vars asked wire width ≡ Ok s → SourceFits vars asked.wanted s
within-fits vars asked wire width s has fits bits is =
    go (nat_lt MAX_WIDTH width) (nat_lt width wire.var.width) refl is
  where
    go : (a b : Bool) → nat_lt width wire.var.width ≡ b
        → cond a (Err (too_wide asked width MAX_WIDTH)) (cond b (Err (missing vars asked)) (Ok (record {
          kept = Changing wire.var.code width;
          from = (width - wire.var.width) + wire.places.from;
          to = (width - wire.var.width) + wire.places.to;
        }))) ≡ Ok s
        → SourceFits vars asked.wanted s
    go true b x e = absurd (cc)
    go false true x e = absurd (cc)
    go false false x e =
        let room : wire.var.width ≤ width = ltb-false width wire.var.width x in
        let made : Source = record {
          kept = Changing wire.var.code width;
          from = (width - wire.var.width) + wire.places.from;
          to = (width - wire.var.width) + wire.places.to;
        } in
        let same : made ≡ s = cc in
        let count : wire.places.to - wire.places.from ≡ made.to - made.from = omega arith in
        subst (SourceFits vars asked.wanted) same (record {
          kept = has;
          from = omega (arith, fits.0);
          inside = omega (arith, fits.1, room);
          bits = subst (HasBits asked.wanted) count bits;
        })

measured-fits : (vars : List Var) (asked : WantedSignal) (wire : Wire) (s : Source) → WireFits wire
    → measured vars asked wire ≡ Ok s → SourceFits vars asked.wanted s
measured-fits vars asked wire s fits is = go (bits_fit asked.wanted (wire.places.to - wire.places.from)) refl is
  where
    go : (t : Bool) → bits_fit asked.wanted (wire.places.to - wire.places.from) ≡ t
        → cond t (within vars asked wire (width_of vars wire.var.code))
        (Err (too_wide asked (wire.places.to - wire.places.from) (count_of asked.wanted))) ≡ Ok s
        → SourceFits vars asked.wanted s
    go true x e =
        within-fits vars asked wire (width_of vars wire.var.code) s refl fits
        (bits-fit asked.wanted (wire.places.to - wire.places.from) x) e
    go false x e = absurd (cc)

alone-fits : (vars : List Var) (asked : WantedSignal) (some : List Wire) (first : Option Wire) (s : Source)
    → ((wire : Wire) → first ≡ Some wire → WireFits wire) → alone vars asked some first ≡ Ok s
    → SourceFits vars asked.wanted s
alone-fits vars asked some None s fits is = unfound-fits vars asked s is
alone-fits vars asked some (Some wire) s fits is =
    go (list_any (λ other. not (bytes_eq other.var.code wire.var.code)) some) is
  where
    go : (t : Bool) → cond t (Err (Twice asked.owner asked.name)) (measured vars asked wire) ≡ Ok s
        → SourceFits vars asked.wanted s
    go true e = absurd (cc)
    go false e = measured-fits vars asked wire s (fits wire refl) e

signal-fits : (vars : List Var) (asked : WantedSignal) (s : Source) → signal_in vars asked ≡ Ok s
    → SourceFits vars asked.wanted s
signal-fits vars asked s is =
    let looked = sought vars asked.name in
    alone-fits vars asked (wires_called vars asked.name) (widest_of (wires_called vars asked.name)) s
    (λ wire is. widest-fits looked.0 looked.1 vars wire is) is

-- ---- the parts that a name finds

-- a part lies within its value
pub record PartFits (vars : List Var) (s : Source) : Type 0 where
  pub kept : KeptFits vars s.kept
  pub from : s.from ≤ s.to
  pub inside : s.to ≤ width_in s.kept

-- parts have as many bits together as are wanted, each within its value
pub record PartsFit (vars : List Var) (wanted : Wanted) (parts : List Source) : Type 0 where
  pub each : AllByRecursion (PartFits vars) parts
  pub bits : HasBits wanted (parts_bits parts)

one-fits : (vars : List Var) (wanted : Wanted) (s : Source) → SourceFits vars wanted s → PartsFit vars wanted (s ∷ [])
one-fits vars wanted s fits =
    let bits : s.to - s.from ≡ parts_bits (s ∷ []) = omega arith in
    record {
      each = (record { kept = fits.kept; from = fits.from; inside = fits.inside }, tt);
      bits = subst (HasBits wanted) bits fits.bits;
    }

-- what holds of each that is found holds of all
each-gives : {A B F : Type 0} → (f : A → Result B F) (P : B → Type 0) → ((x : A) (y : B) → f x ≡ Ok y → P y)
    → (xs : List A) (ys : List B) → each f xs ≡ Ok ys → AllByRecursion P ys
each-gives {A} {B} {F} f P gives [] ys is = let same : [] ≡ ys = cc in subst (AllByRecursion P) same tt
each-gives {A} {B} {F} f P gives (x ∷ xs) ys is = go (f x) (each f xs) refl (λ more e. each-gives f P gives xs more e) is
  where
    go : (r : Result B F) (rest : Result (List B) F) → f x ≡ r → ((more : List B) → rest ≡ Ok more → AllByRecursion P more)
        → (r >>= (λ y. rest >>= (λ zs. Ok (y ∷ zs)))) ≡ Ok ys → AllByRecursion P ys
    go (Err fault) rest e others w = absurd (cc)
    go (Ok y) (Err fault) e others w = absurd (cc)
    go (Ok y) (Ok more) e others w =
        let same : y ∷ more ≡ ys = cc in subst (AllByRecursion P) same (gives x y e, others more refl)

-- a bit that is declared alone
bit-within-fits : (vars : List Var) (asked : WantedSignal) (code : List ℕ) (width : ℕ) (s : Source)
    → width ≡ width_of vars code → bit_within asked code width ≡ Ok s → PartFits vars s
bit-within-fits vars asked code width s has is = go (nat_lt MAX_WIDTH width) is
  where
    go : (t : Bool) → cond t (Err (too_wide asked width MAX_WIDTH))
        (Ok (record { kept = Changing code width; from = width - 1; to = width })) ≡ Ok s
        → PartFits vars s
    go true e = absurd (cc)
    go false e =
        let made : Source = record { kept = Changing code width; from = width - 1; to = width } in
        let same : made ≡ s = cc in
        subst (PartFits vars) same (record { kept = has; from = omega arith; inside = omega arith })

bit-fits : (vars : List Var) (asked : WantedSignal) (bits : List Bit) (index : ℕ) (s : Source)
    → bit_at vars asked bits index ≡ Ok s → PartFits vars s
unfolding bit_at
bit-fits vars asked bits index s is = go (first_of (codes_at bits index)) is
  where
    by : (code : List ℕ) (t : Bool)
        → cond t (Err (Twice asked.owner asked.name)) (bit_within asked code (width_of vars code)) ≡ Ok s → PartFits vars s
    by code true e = absurd (cc)
    by code false e = bit-within-fits vars asked code (width_of vars code) s refl e

    go : (first : Option (List ℕ)) → bit_among vars asked (codes_at bits index) first ≡ Ok s → PartFits vars s
    go None e = absurd (cc)
    go (Some code) e = by code (list_any (λ other. not (bytes_eq other code)) (codes_at bits index)) e

bits-wanted-fit : (vars : List Var) (asked : WantedSignal) (some parts : List Source) → AllByRecursion (PartFits vars) some
    → bits_wanted asked some ≡ Ok parts → PartsFit vars asked.wanted parts
bits-wanted-fit vars asked some parts all is = go (bits_fit asked.wanted (parts_bits some)) refl is
  where
    go : (t : Bool) → bits_fit asked.wanted (parts_bits some) ≡ t
        → cond t (Ok some) (Err (too_wide asked (parts_bits some) (count_of asked.wanted))) ≡ Ok parts
        → PartsFit vars asked.wanted parts
    go true x e =
        let same : some ≡ parts = cc in
        subst (PartsFit vars asked.wanted) same
        (record { each = all; bits = bits-fit asked.wanted (parts_bits some) x })
    go false x e = absurd (cc)

vector-fits : (vars : List Var) (asked : WantedSignal) (name : List ℕ) (bits : List Bit) (span : Span)
    (parts : List Source) → vector_in vars asked name bits span ≡ Ok parts → PartsFit vars asked.wanted parts
vector-fits vars asked name bits span parts is =
    go (has_whole vars name) (nat_lt (span.left - span.right) (length bits)) is
  where
    indices : List ℕ
    indices = indices_down span.left (span.left - span.right + 1)

    by : (r : Result (List Source) SearchFault)
        → ((some : List Source) → r ≡ Ok some → AllByRecursion (PartFits vars) some)
        → (r >>= bits_wanted asked) ≡ Ok parts → PartsFit vars asked.wanted parts
    by (Err fault) all e = absurd (cc)
    by (Ok some) all e = bits-wanted-fit vars asked some parts (all some refl) e

    go : (whole enough : Bool) → cond whole (Err (Twice asked.owner asked.name))
        (cond enough (each (bit_at vars asked bits) (indices_down span.left (span.left - span.right + 1)) >>= bits_wanted asked)
        (Err (Twice asked.owner asked.name))) ≡ Ok parts
        → PartsFit vars asked.wanted parts
    go true enough e = absurd (cc)
    go false true e =
        by (each (bit_at vars asked bits) (indices_down span.left (span.left - span.right + 1)))
        (λ some x. each-gives (bit_at vars asked bits) (PartFits vars) (λ index s y. bit-fits vars asked bits index s y)
        (indices_down span.left (span.left - span.right + 1)) some x) e
    go false false e = absurd (cc)

net-fits : (vars : List Var) (asked : WantedSignal) (parts : List Source) → net_in vars asked ≡ Ok parts
    → PartsFit vars asked.wanted parts
net-fits vars asked parts is =
    go (meant (span_of (bits_called vars (sought vars asked.name).0)) (sought vars asked.name).1) is
  where
    by : (r : Result Source SearchFault) → signal_in vars asked ≡ r → lone r ≡ Ok parts
        → PartsFit vars asked.wanted parts
    by (Err fault) x e = absurd (cc)
    by (Ok s) x e =
        let same : s ∷ [] ≡ parts = cc in
        subst (PartsFit vars asked.wanted) same (one-fits vars asked.wanted s (signal-fits vars asked s x))

    go : (span : Option Span)
        → net_by vars asked (sought vars asked.name).0 (bits_called vars (sought vars asked.name).0) span ≡ Ok parts
        → PartsFit vars asked.wanted parts
    go None e = by (signal_in vars asked) refl e
    go (Some span) e =
        vector-fits vars asked (sought vars asked.name).0 (bits_called vars (sought vars asked.name).0) span parts e

pub named-fits : (vars : List Var) (asked : WantedSignal) (parts : List Source) → 0 < count_of asked.wanted
    → named_in vars asked ≡ Ok parts → PartsFit vars asked.wanted parts
unfolding named_in
named-fits vars asked parts some is =
    absent (may_be_absent asked.wanted) (bytes_eq asked.name (codes "-")) refl is
  where
    go : (d : Option ℕ) → named_by vars asked d ≡ Ok parts → PartsFit vars asked.wanted parts
    go (Some digit) e =
        let same : constant_of digit (constant_bits asked.wanted) ∷ [] ≡ parts = cc in
        subst (PartsFit vars asked.wanted) same
        (one-fits vars asked.wanted (constant_of digit (constant_bits asked.wanted))
        (constant-fits vars asked.wanted digit some))
    go None e = net-fits vars asked parts e

    absent : (m n : Bool) → may_be_absent asked.wanted ≡ m
        → cond (m && n) (Ok (left_out ∷ [])) (named_by vars asked (digit_in asked.name)) ≡ Ok parts
        → PartsFit vars asked.wanted parts
    absent true true may e =
        let same : left_out ∷ [] ≡ parts = cc in
        subst (PartsFit vars asked.wanted) same
        (one-fits vars asked.wanted left_out (left-out-fits vars asked.wanted may))
    absent true false may e = go (digit_in asked.name) e
    absent false n may e = go (digit_in asked.name) e

-- a clock or a reset
line-fits : (vars : List Var) (whose : SignalOwner) (name : List ℕ) (s : Source) → line_source vars whose name ≡ Ok s
    → SourceFits vars (AtMost 1) s
line-fits vars whose name s is = go (named_in vars (line_asked whose name)) refl is
  where
    by : (parts : List Source) → PartsFit vars (AtMost 1) parts → one_of (line_asked whose name) parts ≡ Ok s
        → SourceFits vars (AtMost 1) s
    by [] fits e = absurd (cc)
    by (part ∷ []) fits e =
        let same : part ≡ s = cc in
        subst (SourceFits vars (AtMost 1)) same (record {
          kept = fits.each.0.kept;
          from = fits.each.0.from;
          inside = fits.each.0.inside;
          bits = omega (arith, fits.bits);
        })
    by (part ∷ (other ∷ parts)) fits e = absurd (cc)

    go : (r : Result (List Source) SearchFault) → named_in vars (line_asked whose name) ≡ r
        → (r >>= one_of (line_asked whose name)) ≡ Ok s → SourceFits vars (AtMost 1) s
    go (Err fault) x e = absurd (cc)
    go (Ok parts) x e = by parts (named-fits vars (line_asked whose name) parts (omega arith) x) e

-- one that there may be
abbrev pub LineFits : List Var → Option Source → Type 0
LineFits vars None = ⊤
LineFits vars (Some s) = SourceFits vars (AtMost 1) s

if-any-fits : (vars : List Var) (whose : SignalOwner) (name : Option (List ℕ)) (found : Option Source)
    → if_any (line_source vars whose) name ≡ Ok found → LineFits vars found
if-any-fits vars whose None found is =
    let same : None ≡ found = cc in subst (LineFits vars) same tt
if-any-fits vars whose (Some name) found is = go (line_source vars whose name) refl is
  where
    go : (r : Result Source SearchFault) → line_source vars whose name ≡ r → (r >>= (λ y. Ok (Some y))) ≡ Ok found
        → LineFits vars found
    go (Err fault) x y = absurd (cc)
    go (Ok source) x y =
        let same : Some source ≡ found = cc in
        subst (LineFits vars) same (line-fits vars whose name source x)

-- a clock and a reset
pub record ClockFits (vars : List Var) (own : ClockSources) : Type 0 where
  pub clock : LineFits vars own.clock
  pub reset : LineFits vars own.reset

pub clock-fits : (vars : List Var) (whose : SignalOwner) (names : ClockNames) (own : ClockSources)
    → clock_sources vars whose names ≡ Ok own → ClockFits vars own
unfolding clock_sources
clock-fits vars whose names own is =
    go (if_any (line_source vars whose) names.clock) (if_any (line_source vars whose) names.reset) refl refl is
  where
    go : (c r : Result (Option Source) SearchFault) → if_any (line_source vars whose) names.clock ≡ c
        → if_any (line_source vars whose) names.reset ≡ r
        → (c >>= (λ clock. r >>= (λ reset. Ok (record { names = names; clock = clock; reset = reset })))) ≡ Ok own
        → ClockFits vars own
    go (Err fault) r x y e = absurd (cc)
    go (Ok clock) (Err fault) x y e = absurd (cc)
    go (Ok clock) (Ok reset) x y e =
        let made : ClockSources = record { names = names; clock = clock; reset = reset } in
        let same : made ≡ own = cc in
        subst (ClockFits vars) same (record {
          clock = if-any-fits vars whose names.clock clock x;
          reset = if-any-fits vars whose names.reset reset y;
        })

-- ---- the names of a link

all-parts-fit : (vars : List Var) (found : List (List Source)) → AllByRecursion (AllByRecursion (PartFits vars)) found
    → AllByRecursion (PartFits vars) (all_parts found)
all-parts-fit vars [] fits = tt
all-parts-fit vars (parts ∷ found) fits =
    each-append (PartFits vars) parts (all_parts found) fits.0 (all-parts-fit vars found fits.1)

part-fits : (vars : List Var) (signal : LinkSignal) (name : List ℕ) (parts : List Source)
    → part_of vars signal name ≡ Ok parts → AllByRecursion (PartFits vars) parts
part-fits vars signal name parts is =
    (named-fits vars
    (record { owner = signal.owner; name = name; behind = None; wanted = AtMost MAX_WIDTH }) parts (omega arith) is).each

joined-fits : (vars : List Var) (signal : LinkSignal) (names : List (List ℕ)) (parts : List Source)
    → (each (part_of vars signal) names >>= (λ found. fitting signal (all_parts found))) ≡ Ok parts
    → PartsFit vars signal.wanted parts
joined-fits vars signal names parts is =
    go (each (part_of vars signal) names)
    (λ found x. each-gives (part_of vars signal) (AllByRecursion (PartFits vars))
    (λ name some y. part-fits vars signal name some y) names found x) is
  where
    by : (some : List Source) → AllByRecursion (PartFits vars) some → (t : Bool) → bits_fit signal.wanted (parts_bits some) ≡ t
        → cond t (Ok some) (Err (Width signal.owner (signal_name signal.which) (parts_bits some) (count_of signal.wanted)))
        ≡ Ok parts
        → PartsFit vars signal.wanted parts
    by some all true x e =
        let same : some ≡ parts = cc in
        subst (PartsFit vars signal.wanted) same
        (record { each = all; bits = bits-fit signal.wanted (parts_bits some) x })
    by some all false x e = absurd (cc)

    go : (r : Result (List (List Source)) SearchFault)
        → ((found : List (List Source)) → r ≡ Ok found → AllByRecursion (AllByRecursion (PartFits vars)) found)
        → (r >>= (λ found. fitting signal (all_parts found))) ≡ Ok parts → PartsFit vars signal.wanted parts
    go (Err fault) all e = absurd (cc)
    go (Ok found) all e =
        by (all_parts found) (all-parts-fit vars found (all found refl))
        (bits_fit signal.wanted (parts_bits (all_parts found))) refl e

parts-fit : (vars : List Var) (signal : LinkSignal) (name : SignalName) (parts : List Source) → 0 < count_of signal.wanted
    → signal_parts vars signal name ≡ Ok parts → PartsFit vars signal.wanted parts
parts-fit vars signal (Prefixed names) parts some is =
    named-fits vars (record { owner = signal.owner; name = taken vars names; behind = Some signal.which; wanted = signal.wanted }) parts some is
parts-fit vars signal (Wired name) parts some is =
    named-fits vars (record { owner = signal.owner; name = name; behind = None; wanted = signal.wanted }) parts some is
parts-fit vars signal (Joined names) parts some is = joined-fits vars signal names parts is

-- the parts of signals at a link whose bus has so many bytes, each with as many bits as its signal has
abbrev pub FitsAll : List Var → ℕ → List Signal → List (List Source) → Type 0
FitsAll vars bus signals [] = ⊤
FitsAll vars bus [] (parts ∷ found) = ⊥
FitsAll vars bus (which ∷ signals) (parts ∷ found) =
    PartsFit vars (wanted_of which bus) parts × FitsAll vars bus signals found

wanted-some : (which : Signal) (bus : ℕ) → 0 < bus → 0 < count_of (wanted_of which bus)
wanted-some signal.AValid bus some = omega arith
wanted-some signal.AReady bus some = omega arith
wanted-some signal.AOpcode bus some = omega arith
wanted-some signal.AParam bus some = omega arith
wanted-some signal.ASize bus some = omega arith
wanted-some signal.ASource bus some = omega arith
wanted-some signal.AAddress bus some = omega arith
wanted-some signal.AMask bus some = some
wanted-some signal.AData bus some = omega (arith, some)
wanted-some signal.ACorrupt bus some = omega arith
wanted-some signal.DValid bus some = omega arith
wanted-some signal.DReady bus some = omega arith
wanted-some signal.DOpcode bus some = omega arith
wanted-some signal.DParam bus some = omega arith
wanted-some signal.DSize bus some = omega arith
wanted-some signal.DSource bus some = omega arith
wanted-some signal.DData bus some = omega (arith, some)
wanted-some signal.DDenied bus some = omega arith
wanted-some signal.DCorrupt bus some = omega arith

all-fit : (vars : List Var) (owner : SignalOwner) (bus : ℕ) (signals : List Signal) (names : List SignalName)
    (found : List (List Source)) → 0 < bus → signals_named vars owner bus signals names ≡ Ok found
    → FitsAll vars bus signals found
all-fit vars owner bus [] names found some is =
    let same : [] ≡ found = cc in subst (FitsAll vars bus []) same tt
all-fit vars owner bus (which ∷ signals) [] found some is =
    let same : [] ≡ found = cc in subst (FitsAll vars bus (which ∷ signals)) same tt
all-fit vars owner bus (which ∷ signals) (name ∷ names) found some is =
    go (parts_by vars owner bus (which, name)) (signals_named vars owner bus signals names) refl
    (λ more fits. all-fit vars owner bus signals names more some fits) is
  where
    go : (r : Result (List Source) SearchFault) (rest : Result (List (List Source)) SearchFault)
        → parts_by vars owner bus (which, name) ≡ r
        → ((more : List (List Source)) → rest ≡ Ok more → FitsAll vars bus signals more)
        → (r >>= (λ y. rest >>= (λ ys. Ok (y ∷ ys)))) ≡ Ok found → FitsAll vars bus (which ∷ signals) found
    go (Err fault) rest x y e = absurd (cc)
    go (Ok parts) (Err fault) x y e = absurd (cc)
    go (Ok parts) (Ok more) x y e =
        let same : parts ∷ more ≡ found = cc in
        subst (FitsAll vars bus (which ∷ signals)) same (
          parts-fit vars (signal_by owner bus which) name parts (wanted-some which bus some) x,
          y more refl,
        )

-- a link that the system has, whose clock and reset and the parts of whose signals fit
pub record LinkFits (vars : List Var) (masters ports : List Bus) (found : LinkSources) : Type 0 where
  pub link : IsLinkOf masters ports found.link
  pub clock : ClockFits vars found.clock
  pub signals : FitsAll vars (bus_of_link masters ports found.link) SIGNALS found.signals

-- ---- the links of a kind

-- the link has the bus that stands beside it
abbrev IsNamed : List Bus → List Bus → NamedLink → Type 0
IsNamed masters ports named = HasBus masters ports named.link named.bus

one-named : (masters ports : List Bus) (is_port : Bool) (n : ℕ) (bus : Bus) (names : Option LinkNames)
    (links : List NamedLink) → HasBus masters ports (link_at is_port n) bus → AllByRecursion (IsNamed masters ports) links
    → AllByRecursion (IsNamed masters ports) (named_before is_port n bus names links)
one-named masters ports is_port n bus None links has rest = rest
one-named masters ports is_port n bus (Some names) links has rest = (has, rest)

all-named : (masters ports : List Bus) (is_port : Bool) (names : NamesOf) (n : ℕ) (buses : List Bus)
    → ((k m : ℕ) (bus : Bus) → slice_get buses k ≡ Some bus → m ≡ n + k → HasBus masters ports (link_at is_port m) bus)
    → AllByRecursion (IsNamed masters ports) (numbered is_port names n buses)
all-named masters ports is_port names n [] has = tt
all-named masters ports is_port names n (bus ∷ buses) has =
    one-named masters ports is_port n bus (names_at names n) (numbered is_port names (n + 1) buses)
    (has 0 n bus refl (omega arith))
    (all-named masters ports is_port names (n + 1) buses
    (λ k m other is at. has (suc k) m other is (omega (arith, at))))

link-fits : (vars : List Var) (masters ports : List Bus) (named : NamedLink) (found : LinkSources)
    → IsNamed masters ports named → link_sources vars named ≡ Ok found → LinkFits vars masters ports found
unfolding named_sources
link-fits vars masters ports named found has is =
    go (clock_sources vars (owner_of named.link) named.names.clock)
    (sources_of vars (owner_of named.link) (bus_bytes named.bus) named.names.signals) refl refl is
  where
    go : (c : Result ClockSources SearchFault) (r : Result (List (List Source)) SearchFault)
        → clock_sources vars (owner_of named.link) named.names.clock ≡ c
        → sources_of vars (owner_of named.link) (bus_bytes named.bus) named.names.signals ≡ r
        → (c >>= (λ clock. r >>= (λ signals. Ok (record { link = named.link; clock = clock; signals = signals }))))
        ≡ Ok found
        → LinkFits vars masters ports found
    go (Err fault) r x y e = absurd (cc)
    go (Ok clock) (Err fault) x y e = absurd (cc)
    go (Ok clock) (Ok signals) x y e =
        let one : LinkSources = record { link = named.link; clock = clock; signals = signals } in
        let same : one ≡ found = cc in
        let there = link-there masters ports named.link named.bus has in
        subst (LinkFits vars masters ports) same (record {
          link = there.inside;
          clock = clock-fits vars (owner_of named.link) named.names.clock clock x;
          signals = all-fit vars (owner_of named.link) (bus_of_link masters ports named.link) SIGNALS named.names.signals
              signals there.some
              (ap (λ (bytes : ℕ). sources_of vars (owner_of named.link) bytes named.names.signals) there.bytes ∙ y);
        })

each-fit : (vars : List Var) (masters ports : List Bus) (links : List NamedLink) (found : List LinkSources)
    → AllByRecursion (IsNamed masters ports) links → each (link_sources vars) links ≡ Ok found
    → AllByRecursion (LinkFits vars masters ports) found
each-fit vars masters ports [] found named is =
    let same : [] ≡ found = cc in subst (AllByRecursion (LinkFits vars masters ports)) same tt
each-fit vars masters ports (link ∷ links) found named is =
    go (link_sources vars link) (each (link_sources vars) links) refl
    (λ more fits. each-fit vars masters ports links more named.1 fits) is
  where
    go : (r : Result LinkSources SearchFault) (rest : Result (List LinkSources) SearchFault) → link_sources vars link ≡ r
        → ((more : List LinkSources) → rest ≡ Ok more → AllByRecursion (LinkFits vars masters ports) more)
        → (r >>= (λ y. rest >>= (λ ys. Ok (y ∷ ys)))) ≡ Ok found → AllByRecursion (LinkFits vars masters ports) found
    go (Err fault) rest x y e = absurd (cc)
    go (Ok one) (Err fault) x y e = absurd (cc)
    go (Ok one) (Ok more) x y e =
        let same : one ∷ more ≡ found = cc in
        subst (AllByRecursion (LinkFits vars masters ports)) same
        (link-fits vars masters ports link one named.0 x, y more refl)

pub ports-fit : (vars : List Var) (masters ports : List Bus) (names : NamesOf) (found : List LinkSources)
    → links_from vars true names 0 ports ≡ Ok found → AllByRecursion (LinkFits vars masters ports) found
unfolding links_from
ports-fit vars masters ports names found is =
    each-fit vars masters ports (numbered true names 0 ports) found
    (all-named masters ports true names 0 ports
    (λ k m bus has at. subst (λ (i : ℕ). slice_get ports i ≡ Some bus) (omega (arith, at)) has)) is

pub masters-fit : (vars : List Var) (masters ports : List Bus) (names : NamesOf) (found : List LinkSources)
    → links_from vars false names 0 masters ≡ Ok found → AllByRecursion (LinkFits vars masters ports) found
unfolding links_from
masters-fit vars masters ports names found is =
    each-fit vars masters ports (numbered false names 0 masters) found
    (all-named masters ports false names 0 masters
    (λ k m bus has at. subst (λ (i : ℕ). slice_get masters i ≡ Some bus) (omega (arith, at)) has)) is
