-- The ranges of ports are such as a map takes.
use Rattle.std.proofs.Common.{◌≡◌, ℕ, ◌<◌, ◌≤◌, List, [], ◌∷◌, length, map, Option, Some, None, slice_get, refl, subst, arith}
use Rattle.std.specs.Prelude.{option_and_then}
use Rattle.std.specs.List.{AllByRecursion}
use Rattle.std.proofs.lemmas.List.{length-map}
use Rattle.std.proofs.lemmas.List.Elements.{All-from_recursion}
use Rattle.std.proofs.lemmas.Option.{get_or_from_slice_get, slice_get_within}
use Rattle.tl_map.specs.declared.range.Range.{Range}
use Rattle.tl_map.specs.Map.{AreRanges, IsLawfulRange}
use Rattle.tl_map.specs.declared.limits.TheConstants.{MAX_JUDGED_PORTS, MAX_RANGES_OF_PORT}
use Rattle.check_description.specs.Port.{Port, port_view}
use Rattle.check_description.specs.Ranges.{AreRangesOfPort}
use Rattle.check_description.specs.declared.port.Port as code
use Rattle.check_description.specs.Description.{ranges_of}

all_of : {A : Type 0} (P Q : A → Type 0) (xs : List A) → ((x : A) → P x → Q x) → AllByRecursion P xs
    → AllByRecursion Q xs
all_of P Q [] follows all = all
all_of P Q (x ∷ xs) follows all = (follows x all.0, all_of P Q xs follows all.1)

holds_at : {A : Type 0} (P : A → Type 0) (xs : List A) (k : ℕ) (x : A) → AllByRecursion P xs
    → slice_get xs k ≡ Some x → P x
holds_at P xs k x all at =
    subst P (get_or_from_slice_get xs k x x at) (All-from_recursion P xs all k x (slice_get_within xs k x at))

step_some : {A B : Type 0} (o : Option A) (f : A → Option B) (y : B) → option_and_then f o ≡ Some y
    → (x : A) × (o ≡ Some x) × (f x ≡ Some y)
step_some None f y is = absurd cc
step_some (Some x) f y is = (x, refl, is)

-- each port says so of its own
each_lawful : (ports : List code.Port) → AllByRecursion AreRangesOfPort (ranges_of (map port_view ports))
each_lawful [] = tt
each_lawful (port ∷ ports) = (port.lawful, each_lawful ports)

are_ranges : (ports : List (List Range)) → length ports ≤ MAX_JUDGED_PORTS → AllByRecursion AreRangesOfPort ports
    → AreRanges ports
are_ranges ports few all = record {
  in_limit = few;
  some = All-from_recursion (λ ranges. 0 < length ranges) ports
      (all_of AreRangesOfPort (λ ranges. 0 < length ranges) ports (λ ranges has. has.some) all);
  few = All-from_recursion (λ ranges. length ranges ≤ MAX_RANGES_OF_PORT) ports
      (all_of AreRangesOfPort (λ ranges. length ranges ≤ MAX_RANGES_OF_PORT) ports (λ ranges has. has.few) all);
  each = λ port place range at.
      let here = step_some (slice_get ports port) (λ ranges. slice_get ranges place) range at in
      let has = holds_at AreRangesOfPort ports port here.0 all here.1 in
      subst IsLawfulRange (get_or_from_slice_get here.0 place range range here.2)
      (has.each place range (slice_get_within here.0 place range here.2));
}

-- the ranges of ports that were read
pub ports_have_ranges : (ports : List code.Port) → length ports ≤ MAX_JUDGED_PORTS
    → AreRanges (ranges_of (map port_view ports))
ports_have_ranges ports few =
    are_ranges (ranges_of (map port_view ports))
    (omega (
      arith,
      few,
      length-map ports port_view,
      length-map (map port_view ports) (λ (port : Port). port.ranges),
    ))
    (each_lawful ports)
