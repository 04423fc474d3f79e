-- The buses so far are those of the masters so far.
use Rattle.std.proofs.Common.{◌≡◌, map, take}
use Rattle.check_description.specs.Master.{master_view}
use Rattle.check_description.specs.Buses.{master_buses}
use Rattle.check_description.proofs.buses.master_buses.Given as goal

abbrev pub invariant-loop-master : goal.invariant-loop-master
invariant-loop-master l = l.buses.items ≡ master_buses (map master_view (take l.master-index l.masters))
