-- The counts so far.
use Rattle.std.proofs.Common.{◌≡◌, map, take}
use Rattle.check_description.specs.Master.{counts_of, master_view}
use Rattle.check_description.proofs.owners.counts_of.Given as goal

abbrev pub invariant-loop-master : goal.invariant-loop-master
invariant-loop-master l = l.counts.items ≡ counts_of (map master_view (take l.master-index l.masters))
