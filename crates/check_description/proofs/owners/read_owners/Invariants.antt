-- The owners so far, and those of the rest, are the owners of all.
use Rattle.std.proofs.Common.{◌≡◌, ◌++◌, drop, map, option_map}
use Rattle.check_description.specs.Master.{master_view, said_owners}
use Rattle.check_description.proofs.owners.read_owners.Given as goal

abbrev pub invariant-loop-master : goal.invariant-loop-master
invariant-loop-master l =
    option_map (λ more. l.owners.items ++ more) (said_owners (map master_view (drop l.master-index l.masters)))
    ≡ said_owners (map master_view l.masters)
