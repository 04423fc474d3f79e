-- The numbers so far are those of the ports so far.
use Rattle.std.proofs.Common.{◌≡◌, Bool, Option, Vec, map, option_map}
use Rattle.std.specs.Global.{Global}
use Rattle.check_description.specs.declared.placed.PlacedMaster.{PlacedMaster}
use Rattle.check_rows.specs.PortNumbers.{numbers_in}
use Rattle.check_start.specs.Numbers.{numbers_there}
use Rattle.check_start.proofs.numbers.numbers_by.Given as goal

abbrev pub invariant-loop-apart : goal.invariant-loop-apart
invariant-loop-apart l =
    numbers_in l.numbers.items
    ≡ map (numbers_there l.links l.parts.sources l.parts.nobody)
    (map (λ (q : Bool × Option (Vec PlacedMaster Global)). (q.0, option_map (λ placed. placed.items) q.1))
    (map (λ p. (p.0.now, p.1.now)) l.yielded))
