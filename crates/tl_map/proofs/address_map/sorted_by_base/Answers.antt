use Rattle.std.proofs.Common.{rules}
use Rattle.std.proofs.lemmas.List.Sorted.{IsNonDecreasingBy-from_sort_by_key}
use Rattle.tl_map.specs.declared.address_map.Placed.{Placed}
use Rattle.tl_map.proofs.address_map.sorted_by_base.Goals as goal

pub returns-clause-rise : goal.returns-clause-rise
returns-clause-rise c = IsNonDecreasingBy-from_sort_by_key (λ (each : Placed). each.range.base)
    c.sort_unstable_by_key.new.self.items c.sort_unstable_by_key.ensures.sorted (λ a r f' k. search rules)
