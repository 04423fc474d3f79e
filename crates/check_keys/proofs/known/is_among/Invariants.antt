-- No name so far is the one.
use Rattle.std.proofs.Common.{◌≡◌, drop, map}
use Rattle.check_keys.specs.Known.{is_among}
use Rattle.check_keys.proofs.known.is_among.Given as goal

abbrev pub invariant-loop-other : goal.invariant-loop-other
invariant-loop-other l =
    is_among (map (λ name. name.now) (drop l.other-index l.names)) l.name
    ≡ is_among (map (λ name. name.now) l.names) l.name
