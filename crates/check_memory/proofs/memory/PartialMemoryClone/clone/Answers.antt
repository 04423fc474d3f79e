-- The lists of the copy are those of the memory.
use Rattle.std.proofs.Common.{rules, ◌≡◌, ◌^◌, List, sym, subst}
use Rattle.std.specs.List.{each_same}
use Rattle.tl_map.specs.declared.range.Range.{Range}
use Rattle.check_memory.specs.Partial.{AreWithin}
use Rattle.check_memory.proofs.memory.PartialMemoryClone.clone.Goals as goal

pub invariant_of-result : goal.invariant_of-result
invariant_of-result c =
    let same : c.in_ok-clone.field-0.items ≡ c.self.inside.ranges.items =
    each_same c.self.inside.ranges.items c.in_ok-clone.field-0.items c.in_ok-clone.ensures.cases.0 in
    (subst (λ (ranges : List Range). AreWithin ranges (2 ^ 64)) (sym same) c.self.invariant.0, c.self.invariant.1)

pub returns : goal.returns
returns c =
    let ranges : c.in_ok-clone.field-0.items ≡ c.self.inside.ranges.items =
    each_same c.self.inside.ranges.items c.in_ok-clone.field-0.items c.in_ok-clone.ensures.cases.0 in
    let mirrors : c.in_ok-clone-2.field-0.items ≡ c.self.inside.mirrors.items =
    each_same c.self.inside.mirrors.items c.in_ok-clone-2.field-0.items c.in_ok-clone-2.ensures.cases.0 in
    let volatile : c.in_ok-clone-3.field-0.items ≡ c.self.inside.volatile.items =
    each_same c.self.inside.volatile.items c.in_ok-clone-3.field-0.items c.in_ok-clone-3.ensures.cases.0 in
    let pages : c.in_ok-clone-4.field-0 ≡ c.self.inside.pages = search rules in
    record { cases = rw (ranges, mirrors, volatile, pages) c.self.view_is }
