-- The ports so far are loaded.
use Rattle.check_model.specs.Model.{loaded_port}
use Rattle.check_model.proofs.Loading.{First}
use Rattle.check_model.proofs.port.load_ports.Given as goal

abbrev pub invariant-loop-number : goal.invariant-loop-number
invariant-loop-number l = First loaded_port l.initial.ports l.ports l.initial.loaded l.loaded l.number
