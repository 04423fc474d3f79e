-- The names so far, and those of the rest of the masters, are the names of all.
use Rattle.std.proofs.Common.{◌≡◌, ◌++◌, drop, map}
use Rattle.std.specs.List.{filter_map}
use Rattle.check_description.specs.File.{parts_view}
use Rattle.check_description.specs.Name.{names_of}
use Rattle.check_description.specs.Master.{master_view}
use Rattle.check_description.proofs.names.names_of.Given as goal

abbrev pub invariant-loop-master : goal.invariant-loop-master
invariant-loop-master l =
    map (λ name. name.now) l.names.items
    ++ filter_map (λ master. master.name) (map master_view (drop l.master-index l.fn.parts.masters.items))
    ≡ names_of (parts_view l.fn.parts)
