-- The names so far are those of the masters so far.
use Rattle.std.proofs.Common.{◌≡◌, map, take}
use Rattle.check_description.specs.Master.{master_view}
use Rattle.check_lines.specs.Names.{texts_of}
use Rattle.check_start.proofs.start.master_names.Given as goal

abbrev pub invariant-loop-master : goal.invariant-loop-master
invariant-loop-master l = texts_of l.names.items ≡ map (λ master. master.name) (map master_view (take l.master-index l.masters))
