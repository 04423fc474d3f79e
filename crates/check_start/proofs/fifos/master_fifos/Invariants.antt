-- The flags so far are those of the masters so far.
use Rattle.std.proofs.Common.{◌≡◌, map, take}
use Rattle.check_description.specs.Master.{master_fifos, master_view}
use Rattle.check_start.proofs.fifos.master_fifos.Given as goal

abbrev pub invariant-loop-master : goal.invariant-loop-master
invariant-loop-master l = l.fifos.items ≡ master_fifos (map master_view (take l.master-index l.masters))
