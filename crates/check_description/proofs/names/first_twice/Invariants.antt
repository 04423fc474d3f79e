-- No name so far stood before.
use Rattle.std.proofs.Common.{ℕ, ◌<◌, map}
use Rattle.check_description.specs.Name.{StoodBefore}
use Rattle.check_description.proofs.names.first_twice.Given as goal

abbrev pub invariant-loop-place : goal.invariant-loop-place
invariant-loop-place l =
    (other : ℕ) → other < l.place → StoodBefore (map (λ name. name.now) l.names) other → ⊥
