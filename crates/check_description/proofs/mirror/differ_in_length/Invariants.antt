use Rattle.std.proofs.Common.{◌≡◌, ◌==◌, not, drop}
use Rattle.std.specs.List.{list_any}
use Rattle.tl_map.specs.declared.range.Range.{Range}
use Rattle.check_description.proofs.mirror.differ_in_length.Given as goal

-- one of those that are left differs if one of all does
abbrev pub invariant-loop-range : goal.invariant-loop-range
invariant-loop-range l =
    list_any (λ (range : Range). not (range.length == l.first)) (drop l.range-index l.ranges)
    ≡ list_any (λ (range : Range). not (range.length == l.first)) l.ranges
