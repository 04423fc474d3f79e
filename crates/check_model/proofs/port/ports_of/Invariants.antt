-- The ports so far, and those that are left, are those of all.
use Rattle.std.proofs.Common.{◌≡◌, ◌++◌, drop, map}
use Rattle.check_description.specs.Port.{port_view}
use Rattle.check_model.specs.Model.{ports_from}
use Rattle.check_model.proofs.port.ports_of.Given as goal

abbrev pub invariant-loop-number : goal.invariant-loop-number
invariant-loop-number l =
    l.made.items ++ ports_from (map (λ image. image.items) l.images) l.number (map port_view (drop l.number l.ports))
    ≡ ports_from (map (λ image. image.items) l.images) 0 (map port_view l.ports)
