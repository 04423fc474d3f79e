-- Where a range stands, and which ranges meet earlier ones.
use Rattle.std.proofs.Common.{◌≡◌, ℕ, ◌+◌, ◌<◌, ◌≤◌, inl, inr, ⊎_elim, List, length, take, get_or, Any, Option, Some, None, IsSome, slice_get, refl, sym, ◌∙◌, arith}
use Rattle.std.specs.Prelude.{Vec, option_and_then}
use Rattle.std.specs.Global.{Global}
use Rattle.std.proofs.lemmas.Bool.{cases_lt, cases_order}
use Rattle.std.proofs.lemmas.List.{length-map, length-take-le, get_or-take}
use Rattle.std.proofs.lemmas.Option.{slice_get-map, slice_get_within, slice_get_read, slice_get-get_or, get_or_from_slice_get, same_Some}
use Rattle.tl_map.specs.declared.range.Range.{Range}
use Rattle.tl_map.specs.Range.{Overlaps}
use Rattle.tl_map.specs.declared.address_map.AddressMapFault.{AddressMapFault}
use Rattle.tl_map.specs.declared.address_map.AddressMapFault.TheVariants.{Overlap, Memory}
use Rattle.tl_map.specs.Map.{AreApartBefore, HasMapFault, IsEarlier, IsFirstAddressMapFault, IsLawfulAddressMap, MeetsEarlier, MeetsFirst, lists_in, map_fault_rank, range_at}

-- a range at a place of a port is at that place of the port's ranges
pub row_of : (ports : List (List Range)) (port place : ℕ) (range : Range) → range_at ports port place ≡ Some range
    → (ranges : List Range) × (slice_get ports port ≡ Some ranges) × (slice_get ranges place ≡ Some range)
row_of ports port place range at = go (slice_get ports port) refl at where
  go : (o : Option (List Range)) → slice_get ports port ≡ o
      → option_and_then (λ ranges. slice_get ranges place) o ≡ Some range
      → (ranges : List Range) × (slice_get ports port ≡ Some ranges) × (slice_get ranges place ≡ Some range)
  go None is at = absurd (cc)
  go (Some ranges) is at = (ranges, is, at)

pub at_row : (ports : List (List Range)) (port place : ℕ) (ranges : List Range) (range : Range)
    → slice_get ports port ≡ Some ranges → slice_get ranges place ≡ Some range → range_at ports port place ≡ Some range
at_row ports port place ranges range is at = rw is at

-- of one port's ranges
pub place_within : (ports : List (List Range)) (port place : ℕ) (ranges : List Range) (range : Range)
    → slice_get ports port ≡ Some ranges → range_at ports port place ≡ Some range → place < length ranges
place_within ports port place ranges range is at =
    let row = row_of ports port place range at in
    let same : row.0 ≡ ranges = cc in
    let within = slice_get_within row.0 place range row.2 in
    rw same at within

pub port_within : (ports : List (List Range)) (port place : ℕ) (range : Range) → range_at ports port place ≡ Some range
    → port < length ports
port_within ports port place range at =
    let row = row_of ports port place range at in
    slice_get_within ports port row.0 row.1

-- the list in the vector at a place
pub vector_at : (vectors : List (Vec Range Global)) (port : ℕ) (vector : Vec Range Global)
    → slice_get vectors port ≡ Some vector → slice_get (lists_in vectors) port ≡ Some vector.items
vector_at vectors port vector is = rw (slice_get-map, is) refl

-- ---- which ranges are apart

-- one place more
pub more_apart : (ports : List (List Range)) (port place : ℕ) → AreApartBefore ports port place
    → ((other : ℕ) → MeetsEarlier ports other port place → ⊥) → AreApartBefore ports port (place + 1)
more_apart ports port place before here other_port other (inl lower) earlier meets =
    before other_port other (inl lower) earlier meets
more_apart ports port place before here other_port other (inr at) earlier meets = ⊎_elim
    (λ (less : other < place). before other_port other (inr (at.0, less)) earlier meets)
    (λ (last : place ≤ other).
    let up = at.1 in
    let same : other ≡ place = omega arith in
    let mine : MeetsEarlier ports earlier port other = rw at.0 at meets in
    here earlier (rw same at mine))
    (cases_lt other place)

-- one port more
pub next_port : (ports : List (List Range)) (port place : ℕ) (ranges : List Range) → slice_get ports port ≡ Some ranges
    → length ranges ≤ place → AreApartBefore ports port place → AreApartBefore ports (port + 1) 0
next_port ports port place ranges is all before other_port other (inr at) earlier meets =
    let none = at.1 in absurd (omega arith)
next_port ports port place ranges is all before other_port other (inl lower) earlier meets = ⊎_elim
    (λ (less : other_port < port). before other_port other (inl less) earlier meets)
    (λ (last : port ≤ other_port).
    let same : other_port ≡ port = omega arith in
    let there = meets.there in
    let within = place_within ports port other ranges meets.two is (rw same at there) in
    before other_port other (inr (same, omega arith)) earlier meets)
    (cases_lt other_port port)

-- all ports
pub all_apart : (ports : List (List Range)) (count : ℕ) → length ports ≤ count → AreApartBefore ports count 0
    → (other port place : ℕ) → MeetsEarlier ports other port place → ⊥
all_apart ports count past before other port place meets =
    let within = port_within ports port place meets.two meets.there in
    before port place (inl (omega arith)) other meets

pub none_before : (ports : List (List Range)) → AreApartBefore ports 0 0
none_before ports other_port other (inl lower) earlier meets = absurd (omega arith)
none_before ports other_port other (inr at) earlier meets = let none = at.1 in absurd (omega arith)

-- ---- faults

pub first_here : (ports : List (List Range)) (other port place : ℕ) → AreApartBefore ports port place
    → MeetsFirst ports other port place → IsFirstAddressMapFault ports (Overlap other port)
first_here ports other port place before meets = record {
  applies = record { place = place; meets = meets; first = before };
  first = none;
}
  where
    none : (fault : AddressMapFault) → map_fault_rank fault < 1 → HasMapFault ports fault → ⊥
    none (Overlap a b) below has = omega (arith, below)
    none Memory below has = omega (arith, below)

pub only_memory : (ports : List (List Range)) → ((other port place : ℕ) → MeetsEarlier ports other port place → ⊥)
    → IsFirstAddressMapFault ports Memory
only_memory ports apart = record { applies = tt; first = none }
  where
    none : (fault : AddressMapFault) → map_fault_rank fault < 2 → HasMapFault ports fault → ⊥
    none (Overlap a b) below has = apart a b has.place has.meets.meets
    none Memory below has = omega (arith, below)

-- ---- the ranges before a place of one port

-- one of those that stand before a place of a port meets the range there
pub met_in_front : (ports : List (List Range)) (port place : ℕ) (ranges : List Range) (range : Range)
    → slice_get ports port ≡ Some ranges → slice_get ranges place ≡ Some range
    → Any (λ other. Overlaps other range) (take place ranges) → MeetsEarlier ports port port place
met_in_front ports port place ranges range is at met = record {
  other = met.0;
  before = inr (refl, less);
  one = met.1;
  here = at_row ports port met.0 ranges met.1 is there;
  two = range;
  there = at_row ports port place ranges range is at;
  overlap = met.4;
}
  where
    within : place < length ranges
    within = slice_get_within ranges place range at

    less : met.0 < place
    less =
        let front = length-take-le place ranges (omega (arith, within)) in
        let inside = met.2 in
        omega (arith, front, inside)

    there : slice_get ranges met.0 ≡ Some met.1
    there =
        let read : get_or ranges met.0 met.1 ≡ met.1 = sym (get_or-take place ranges met.0 met.1 less) ∙ met.3 in
        slice_get_read ranges (length ranges) met.0 met.1 refl (omega (arith, within, less)) (sym read)

pub front_of_met : (ports : List (List Range)) (port place : ℕ) (ranges : List Range) (range : Range)
    → slice_get ports port ≡ Some ranges → slice_get ranges place ≡ Some range → MeetsEarlier ports port port place
    → Any (λ other. Overlaps other range) (take place ranges)
front_of_met ports port place ranges range is at meets =
    let one = row_of ports port meets.other meets.one meets.here in
    let two = row_of ports port place meets.two meets.there in
    let same : one.0 ≡ ranges = cc in
    let twin : two.0 ≡ ranges = cc in
    let here : slice_get ranges meets.other ≡ Some meets.one = rw same at one.2 in
    let mine : slice_get ranges place ≡ Some meets.two = rw twin at two.2 in
    let range_is : meets.two ≡ range = cc in
    let less : meets.other < place = lower meets.before in
    let within : place < length ranges = slice_get_within ranges place range at in
    let front = length-take-le place ranges (omega (arith, within)) in (
      meets.other,
      meets.one,
      omega (arith, front, less),
      get_or-take place ranges meets.other meets.one less
          ∙ get_or_from_slice_get ranges meets.other meets.one meets.one here,
      rw range_is at meets.overlap,
    )
  where
    lower : IsEarlier port meets.other port place → meets.other < place
    lower (inl never) = absurd (omega (arith, never))
    lower (inr less) = less.1

-- one of another port's ranges meets the range at a place of a later port
pub met_in_port : (ports : List (List Range)) (other port place : ℕ) (row : List Range) (range : Range) → other < port
    → slice_get ports other ≡ Some row → range_at ports port place ≡ Some range
    → Any (λ one. Overlaps one range) row → MeetsEarlier ports other port place
met_in_port ports other port place row range lower is at met = record {
  other = met.0;
  before = inl lower;
  one = met.1;
  here = at_row ports other met.0 row met.1 is (slice_get_read row (length row) met.0 met.1 refl met.2 (sym met.3));
  two = range;
  there = at;
  overlap = met.4;
}

pub port_of_met : (ports : List (List Range)) (other port place : ℕ) (row : List Range) (range : Range)
    → slice_get ports other ≡ Some row → range_at ports port place ≡ Some range → MeetsEarlier ports other port place
    → Any (λ one. Overlaps one range) row
port_of_met ports other port place row range is at meets =
    let one = row_of ports other meets.other meets.one meets.here in
    let same : one.0 ≡ row = cc in
    let here : slice_get row meets.other ≡ Some meets.one = rw same at one.2 in
    let there = meets.there in
    let range_is : meets.two ≡ range = same_Some meets.two range (sym there ∙ at) in (
      meets.other,
      meets.one,
      slice_get_within row meets.other meets.one here,
      get_or_from_slice_get row meets.other meets.one meets.one here,
      rw range_is at meets.overlap,
    )

-- the vector of a port that has a range at a place, and what is read at that place
module _ (vectors : List (Vec Range Global)) (port place : ℕ)
    (some : IsSome (range_at (lists_in vectors) port place))
  where
    found : (range : Range) × (range_at (lists_in vectors) port place ≡ Some range)
    found = go (range_at (lists_in vectors) port place) refl some where
      go : (o : Option Range) → range_at (lists_in vectors) port place ≡ o → IsSome o
          → (range : Range) × (range_at (lists_in vectors) port place ≡ Some range)
      go None is some = absurd (cc)
      go (Some range) is some = (range, is)

    pub is_port : port < length vectors
    is_port =
        let count = length-map vectors (λ (each : Vec Range Global). each.items) in
        let inside = port_within (lists_in vectors) port place found.0 found.1 in
        omega (arith, count, inside)

    module _ (vector : Vec Range Global) (vector_is : vector ≡ get_or vectors port vector) where
      pub its_list : slice_get (lists_in vectors) port ≡ Some vector.items
      its_list = vector_at vectors port vector
          (slice_get_read vectors (length vectors) port vector refl is_port vector_is)

      pub its_range : (d : Range) → slice_get vector.items place ≡ Some (get_or vector.items place d)
      its_range d = slice_get-get_or vector.items place d
          (place_within (lists_in vectors) port place vector.items found.0 its_list found.1)

-- ranges of a map with a byte in common are the same range
pub one_place : (ports : List (List Range)) → IsLawfulAddressMap ports → (port place other_port other : ℕ) (a b : Range)
    → range_at ports port place ≡ Some a → range_at ports other_port other ≡ Some b → Overlaps a b
    → (port ≡ other_port) × (place ≡ other)
one_place ports lawful port place other_port other a b here there overlap = ⊎_elim
    (λ (same : port ≡ other_port). (
      same,
      ⊎_elim
          (λ (twin : place ≡ other). twin)
          (λ order. ⊎_elim
          (λ (below : place < other). absurd (later (inr (same, below))))
          (λ (above : other < place). absurd (sooner (inr (sym same, above)))) order)
          (cases_order place other),
    ))
    (λ order. ⊎_elim
    (λ (below : port < other_port). absurd (later (inl below)))
    (λ (above : other_port < port). absurd (sooner (inl above))) order)
    (cases_order port other_port)
  where
    later : IsEarlier port place other_port other → ⊥
    later before = lawful.apart port other_port other
        (record { other = place; before = before; one = a; here = here; two = b; there = there; overlap = overlap })

    sooner : IsEarlier other_port other port place → ⊥
    sooner before = lawful.apart other_port port place (record {
      other = other;
      before = before;
      one = b;
      here = there;
      two = a;
      there = here;
      overlap = (overlap.0, overlap.2, overlap.1);
    })

pub same_range : (ports : List (List Range)) (port place other_port other : ℕ) (a b : Range) → port ≡ other_port
    → place ≡ other → range_at ports port place ≡ Some a → range_at ports other_port other ≡ Some b → a ≡ b
same_range ports port place other_port other a b p q here there =
    let moved : range_at ports other_port other ≡ Some a = rw (← p, ← q) here in
    same_Some a b (sym moved ∙ there)
