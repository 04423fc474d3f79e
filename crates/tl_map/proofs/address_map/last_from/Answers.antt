use Rattle.std.proofs.Common.{rules}
use Rattle.std.proofs.lemmas.List.Sorted.{IsPartitionPoint-from_clause, IsPartitionedBy-leb}
use Rattle.tl_map.specs.declared.address_map.Placed.{Placed}
use Rattle.tl_map.proofs.Listing.{begins_by, last_is, none_from}
use Rattle.tl_map.proofs.address_map.last_from.Goals as goal

pub returns-then-count-eq0-clause-none : goal.returns-then-count-eq0-clause-none
returns-then-count-eq0-clause-none c =
    none_from c.args.placed.now c.args.address c.partition_point-count.result
    (IsPartitionPoint-from_clause (begins_by c.args.address) c.args.placed.now c.partition_point-count.result
    c.partition_point-count.ensures.partitioned
    (IsPartitionedBy-leb (λ (each : Placed). each.range.base) c.args.placed.now c.args.address c.requires)
    (λ a r f' k. search rules))
    (search rules)

pub returns-clause-found : goal.returns-clause-found
returns-clause-found c =
    last_is c.args.placed.now c.args.address c.partition_point-count.result
    (IsPartitionPoint-from_clause (begins_by c.args.address) c.args.placed.now c.partition_point-count.result
    c.partition_point-count.ensures.partitioned
    (IsPartitionedBy-leb (λ (each : Placed). each.range.base) c.args.placed.now c.args.address c.requires)
    (λ a r f' k. search rules))
    c.requires c.partition_point-count.ensures.bound (search rules) _
