-- The flags so far, and those of the ports that are left, are those of all ports.
use Rattle.std.proofs.Common.{◌≡◌, ◌++◌, drop, map, option_map}
use Rattle.check_description.specs.Placed.{flags_from}
use Rattle.check_description.proofs.placed.flags_by.Given as goal

abbrev pub invariant-loop-port : goal.invariant-loop-port
invariant-loop-port l =
    l.flags.items
    ++ flags_from l.port l.master (option_map (λ flags. flags.items) l.said)
    (map (option_map (λ placed. placed.items)) (drop l.port l.lists))
    ≡ flags_from 0 l.master (option_map (λ flags. flags.items) l.said) (map (option_map (λ placed. placed.items)) l.lists)
