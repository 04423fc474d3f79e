use Rattle.std.proofs.Common.{◌≡◌, map, take}
use Rattle.check_description.specs.Port.{port_view}
use Rattle.check_program.specs.Mirrors.{port_mirrors}
use Rattle.check_program.proofs.mirrors.all_mirrors.Given as goal

-- those of the ports so far
abbrev pub invariant-loop-port : goal.invariant-loop-port
invariant-loop-port l = l.all.items ≡ map port_mirrors (map port_view (take l.port-index l.ports))
