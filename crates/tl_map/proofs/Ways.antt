-- The port of some bytes as a function.
use Rattle.std.proofs.Common.{rules, ◌≡◌, ℕ, zero, suc, ◌+◌, ◌-◌, ◌^◌, inl, inr, Bool, true, false, ◌&&◌, if◌then◌else◌, List, [], ◌∷◌, Some, slice_get, refl, ap, arith}
use Rattle.std.specs.Prelude.{nat_le}
use Rattle.std.proofs.lemmas.Bool.{le-leb}
use Rattle.std.proofs.lemmas.Nat.{pow_pos}
use Rattle.std.specs.Cmp.Derive.{both_true}
use Rattle.tl_map.specs.declared.range.Range.{Range}
use Rattle.tl_map.specs.Range.{HoldsBytes}
use Rattle.tl_map.specs.Map.{HasRoutes, PortHolds, RoutesBytes}

-- ---- ports

abbrev holds : Range → ℕ → ℕ → Bool
holds range start size = nat_le range.base start && nat_le (start + 2 ^ size) (range.base + range.length)

holds_all : (range : Range) (start size : ℕ) → holds range start size ≡ true → HoldsBytes range start size
holds_all range start size so address from below = search (rules, arith)

holds_not : (range : Range) (start size : ℕ) → holds range start size ≡ false → HoldsBytes range start size → ⊥
holds_not range start size not holding =
    let some = pow_pos size in
    let first = holding start (omega arith) (omega arith) in
    let last = holding (start + 2 ^ size - 1) (omega arith) (omega arith) in
    let from = first.from in
    let below = last.below in
    let so : holds range start size ≡ true = both_true (le-leb _ _ from) (le-leb _ _ (omega arith)) in
    cc

-- whether one of the ranges holds the bytes
abbrev any_holds : List Range → ℕ → ℕ → Bool
any_holds [] start size = false
any_holds (range ∷ ranges) start size = if holds range start size then true else any_holds ranges start size

-- one of the ranges, which holds the bytes
record Held (ranges : List Range) (start size : ℕ) : Type 0 where
  place : ℕ
  range : Range
  at : slice_get ranges place ≡ Some range
  holds_it : HoldsBytes range start size

any_place : (ranges : List Range) (start size : ℕ) → any_holds ranges start size ≡ true → Held ranges start size
any_place [] start size so = absurd (cc)
any_place (range ∷ ranges) start size so = go (holds range start size) refl so (any_place ranges start size) where
  go : (here : Bool) → holds range start size ≡ here → (if here then true else any_holds ranges start size) ≡ true
      → (any_holds ranges start size ≡ true → Held ranges start size) → Held (range ∷ ranges) start size
  go true is so later = record { place = 0; range = range; at = refl; holds_it = holds_all range start size is }
  go false is so later =
      let rest = later so in
      record { place = suc rest.place; range = rest.range; at = rest.at; holds_it = rest.holds_it }

none_place : (ranges : List Range) (start size : ℕ) → any_holds ranges start size ≡ false → (place : ℕ) (one : Range)
    → slice_get ranges place ≡ Some one → HoldsBytes one start size → ⊥
none_place [] start size so place one at holding = absurd (cc)
none_place (range ∷ ranges) start size so place one at holding =
    go (holds range start size) refl so place at (λ rest k there. none_place ranges start size rest k one there holding)
  where
    go : (here : Bool) → holds range start size ≡ here → (if here then true else any_holds ranges start size) ≡ false
        → (place : ℕ) → slice_get (range ∷ ranges) place ≡ Some one
        → (any_holds ranges start size ≡ false → (k : ℕ) → slice_get ranges k ≡ Some one → ⊥) → ⊥
    go true is so place at later = absurd (cc)
    go false is so zero at later =
        let same : range ≡ one = grind (arith, at) in
        let mine : HoldsBytes range start size = rw same holding in
        holds_not range start size is mine
    go false is so (suc place) at later = later so place at

abbrev route_in : List (List Range) → ℕ → ℕ → ℕ
route_in [] start size = 0
route_in (ranges ∷ ports) start size = if any_holds ranges start size then 0 else suc (route_in ports start size)

route_is : (ports : List (List Range)) (start size : ℕ) → RoutesBytes ports start size (route_in ports start size)
route_is [] start size = inr (refl, none) where
  none : (other : ℕ) → PortHolds [] start size other → ⊥
  none other held = let at = held.at in absurd (cc)
route_is (ranges ∷ ports) start size = go (any_holds ranges start size) refl (route_is ports start size)
  where
    go : (here : Bool) → any_holds ranges start size ≡ here → RoutesBytes ports start size (route_in ports start size)
        → RoutesBytes (ranges ∷ ports) start size (if here then 0 else suc (route_in ports start size))
    go true is rest = let held = any_place ranges start size is in
        inl (record { place = held.place; range = held.range; at = held.at; holds = held.holds_it })
    go false is (inl there) =
        inl (record { place = there.place; range = there.range; at = there.at; holds = there.holds })
    go false is (inr none) = inr (ap suc none.0, others)
      where
        others : (other : ℕ) → PortHolds (ranges ∷ ports) start size other → ⊥
        others zero held = none_place ranges start size is held.place held.range held.at held.holds
        others (suc other) held = none.1 other
            (record { place = held.place; range = held.range; at = held.at; holds = held.holds })

pub has_routes : (ports : List (List Range)) → HasRoutes ports
has_routes ports = (route_in ports, route_is ports)
