-- The counts so far.
use Rattle.std.proofs.Common.{◌≡◌, map, take}
use Rattle.tl_script.specs.Master.{script_master_view}
use Rattle.tl_script.proofs.script.counts_of.Given as goal

abbrev pub invariant-loop-master : goal.invariant-loop-master
invariant-loop-master l =
    l.counts.items ≡ map (λ master. master.sources) (map script_master_view (take l.master-index l.masters))
