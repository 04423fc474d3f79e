-- The nearest name so far, or else a nearer one of the rest, is the nearest of all.
use Rattle.std.proofs.Common.{◌≡◌, drop, map}
use Rattle.std.specs.Option.{IfSome, option_map}
use Rattle.check_keys.specs.Nearest.{distance, nearest}
use Rattle.check_keys.proofs.NearLemmas.{so_far}
use Rattle.check_keys.proofs.near.nearest.Given as goal

abbrev pub invariant-loop-other : goal.invariant-loop-other
invariant-loop-other l = record {
  far : IfSome l.best (λ near. near.distance ≡ distance l.name near.name.now);
  nearest : so_far l.name (option_map (λ near. near.name.now) l.best)
      (map (λ other. other.now) (drop l.other-index l.names))
      ≡ nearest l.name (map (λ other. other.now) l.names);
}
