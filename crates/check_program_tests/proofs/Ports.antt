-- Ports that were looked at one by one are lawful.
use Rattle.std.proofs.Common.{◌≡◌, ℕ, ◌<◌, ◌≤◌, List, length, Some, slice_get, All, Vec, Global, sym}
use Rattle.std.proofs.lemmas.List.{length-map}
use Rattle.std.proofs.lemmas.List.Elements.{All-map, All-weaker}
use Rattle.std.proofs.lemmas.Option.{slice_get_within, get_or_from_slice_get}
use Rattle.tl_map.specs.declared.range.Range.{Range}
use Rattle.tl_map.specs.Map.{AreRanges, IsLawfulRange, lists_in}
use Rattle.tl_map.specs.declared.limits.TheConstants.{MAX_JUDGED_PORTS, MAX_RANGES_OF_PORT}
use Rattle.tl_map.proofs.Overlaps.{row_of}
use Rattle.check_program_tests.specs.Port.{IsPort}

of_all : {A : Type 0} (P : A → Type 0) (xs : List A) (i : ℕ) (x : A) → slice_get xs i ≡ Some x → All P xs → P x
of_all P xs i x here all = rw (sym (get_or_from_slice_get xs i x x here)) (all i x (slice_get_within xs i x here))

pub lawful_ports : (vectors : List (Vec Range Global)) → length vectors ≤ MAX_JUDGED_PORTS
    → All (λ (ranges : Vec Range Global). IsPort ranges.items) vectors → AreRanges (lists_in vectors)
lawful_ports vectors few all = record {
  in_limit = rw length-map few;
  some = All-weaker IsPort (λ ranges. 0 < length ranges) (λ ranges is. is.some) (lists_in vectors) every;
  few = All-weaker IsPort (λ ranges. length ranges ≤ MAX_RANGES_OF_PORT) (λ ranges is. is.few) (lists_in vectors) every;
  each = λ port place range at.
      let row = row_of (lists_in vectors) port place range at in
      let own = of_all IsPort (lists_in vectors) port row.0 row.1 every in
      of_all IsLawfulRange row.0 place range row.2 own.each;
} where
  every : All IsPort (lists_in vectors)
  every = All-map IsPort (λ (ranges : Vec Range Global). ranges.items) vectors all
