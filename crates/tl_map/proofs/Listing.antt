-- The ranges of all ports, listed and by rising bases, and the last of them from an address down.
use Rattle.std.proofs.Common.{◌≡◌, ◌≢◌, ◌∙◌, ℕ, ◌+◌, ◌-◌, ◌<◌, ◌≤◌, ⊎_elim, Bool, true, false, List, [], ◌++◌, map, length, get_or, Some, Contains, slice_get, refl, subst, arith}
use Rattle.std.specs.Prelude.{nat_le}
use Rattle.std.specs.List.Sorted.{IsPermutation, IsPartitionPoint}
use Rattle.std.proofs.lemmas.Bool.{cases_lt, leb-true, leb-false}
use Rattle.std.proofs.lemmas.List.{get_or_default}
use Rattle.std.proofs.lemmas.List.Elements.{All-append, All-map, Contains-append_left, Contains-append_right, Contains-get_or}
use Rattle.std.proofs.lemmas.List.Sorted.{All-permutation, Contains-permutation}
use Rattle.std.proofs.lemmas.Option.{slice_get-map, slice_get_within, slice_get-get_or, get_or_from_slice_get}
use Rattle.tl_map.specs.declared.range.Range.{Range}
use Rattle.tl_map.specs.declared.address_map.Placed.{Placed}
use Rattle.tl_map.specs.Map.{range_at}
use Rattle.tl_map.specs.Placed.{AreListed, ArePlaced, DoRise, IsLastFrom, IsPlaced, placed_at}
use Rattle.tl_map.proofs.Overlaps.{at_row, row_of, port_within}

-- before the first port
pub listed_none : (ports : List (List Range)) → AreListed ports 0 []
listed_none ports = record {
  each = λ k d within. absurd (omega (arith, within));
  all = λ port place range below at. absurd (omega (arith, below));
}

-- one port more
pub listed_more : (ports : List (List Range)) (port : ℕ) (ranges : List Range) (placed : List Placed)
    → slice_get ports port ≡ Some ranges → AreListed ports port placed
    → AreListed ports (port + 1) (placed ++ map (placed_at port) ranges)
listed_more ports port ranges placed is listed = record {
  each = All-append (IsPlaced ports) placed (map (placed_at port) ranges) listed.each
      (All-map (IsPlaced ports) (placed_at port) ranges
      (λ k d within. (k, at_row ports port k ranges (get_or ranges k d) is (slice_get-get_or ranges k d within))));
  all = λ other place range below at. ⊎_elim
      (λ (less : other < port). Contains-append_left placed (map (placed_at port) ranges) (placed_at other range)
      (listed.all other place range less at))
      (λ (last : port ≤ other).
      let same : port ≡ other = omega arith in
      Contains-append_right placed (map (placed_at port) ranges) (placed_at other range)
      (mine other place range same at))
      (cases_lt other port);
}
  where
    mine : (other place : ℕ) (range : Range) → port ≡ other → range_at ports other place ≡ Some range
        → Contains (map (placed_at port) ranges) (placed_at other range)
    mine other place range same at =
        let row = row_of ports other place range at in
        let here : slice_get ports other ≡ Some ranges = rw same at is in
        let ours : row.0 ≡ ranges = cc in
        let there : slice_get ranges place ≡ Some range = rw ours at row.2 in
        let found : slice_get (map (placed_at port) ranges) place ≡ Some (placed_at other range) =
        rw (slice_get-map, there, same) refl in (
          place,
          slice_get_within _ place (placed_at other range) found,
          get_or_from_slice_get _ place (placed_at other range) (placed_at other range) found,
        )

-- all ports, in the order of bases
pub placed_all : (ports : List (List Range)) (count : ℕ) (listed placed : List Placed) → length ports ≤ count
    → AreListed ports count listed → IsPermutation listed placed → DoRise placed → ArePlaced ports placed
placed_all ports count listed placed past are same rise = record {
  each = All-permutation (IsPlaced ports) listed placed same are.each;
  all = λ port place range at.
      let within = port_within ports port place range at in
      Contains-permutation listed placed (placed_at port range) same (are.all port place range (omega arith) at);
  rise = rise;
}

-- ---- the last from an address down

abbrev pub begins_by : ℕ → Placed → Bool
begins_by address each = nat_le each.range.base address

begins : (address : ℕ) (each : Placed) → begins_by address each ≡ true → each.range.base ≤ address
begins address each is = leb-true each.range.base address is

begins_not : (address : ℕ) (each : Placed) → begins_by address each ≡ false → address < each.range.base
begins_not address each is = leb-false each.range.base address is

module _ (placed : List Placed) (address count : ℕ)
    (point : IsPartitionPoint (λ each. begins_by address each ≡ true) (λ each. begins_by address each ≡ false)
    placed count)
  where
    above : (k : ℕ) (other : Placed) → count ≤ k → k < length placed → get_or placed k other ≡ other
        → address < other.range.base
    above k other from within is =
        let P : Placed → Type 0 = λ each. address < each.range.base in
        subst P is (begins_not address (get_or placed k other) (point.1 k other from within))

    pub none_from : count ≡ 0 → (other : Placed) → Contains placed other → address < other.range.base
    none_from none other at = above at.0 other (omega arith) at.1 at.2

    pub last_is : DoRise placed → count ≤ length placed → count ≢ 0 → (d : Placed)
        → IsLastFrom placed address (get_or placed (count - 1) d)
    last_is rise within some d = record {
      is = Contains-get_or placed (count - 1) d last;
      from = begins address (get_or placed (count - 1) d) (point.0 (count - 1) d (omega arith) (omega arith));
      largest = λ other at from. largest other at.0 at.1 at.2 from;
    }
      where
        last : count - 1 < length placed
        last = omega arith

        largest : (other : Placed) (k : ℕ) → k < length placed → get_or placed k other ≡ other
            → other.range.base ≤ address → other.range.base ≤ (get_or placed (count - 1) d).range.base
        largest other k inside is from = ⊎_elim
            (λ (less : k < count).
            let up = rise k (count - 1) d (omega arith) last in
            let here : get_or placed k d ≡ other = get_or_default placed k d other inside ∙ is in
            let P : Placed → Type 0 = λ each. each.range.base ≤ (get_or placed (count - 1) d).range.base in
            subst P here up)
            (λ (past : count ≤ k). let beyond = above k other past inside is in absurd (omega arith))
            (cases_lt k count)
