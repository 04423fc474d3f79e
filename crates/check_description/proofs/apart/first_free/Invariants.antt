-- No wide source so far is nobody's.
use Rattle.std.proofs.Common.{ℕ, ◌<◌}
use Rattle.check_description.specs.Apart.{IsNobodys}
use Rattle.check_description.proofs.apart.first_free.Given as goal

abbrev pub invariant-loop-wide : goal.invariant-loop-wide
invariant-loop-wide l = (other : ℕ) → other < l.wide → IsNobodys l.sources other → ⊥
