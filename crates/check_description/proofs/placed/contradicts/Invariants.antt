-- The master contradicts no port so far.
use Rattle.std.proofs.Common.{◌≡◌, drop, map, option_map}
use Rattle.check_description.specs.Placed.{contradicts_from}
use Rattle.check_description.proofs.placed.contradicts.Given as goal

abbrev pub invariant-loop-port : goal.invariant-loop-port
invariant-loop-port l =
    contradicts_from l.port l.master (option_map (λ flags. flags.items) l.said)
    (map (option_map (λ placed. placed.items)) (drop l.port l.lists))
    ≡ contradicts_from 0 l.master (option_map (λ flags. flags.items) l.said)
    (map (option_map (λ placed. placed.items)) l.lists)
