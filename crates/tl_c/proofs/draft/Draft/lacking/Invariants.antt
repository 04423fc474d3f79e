-- No port so far lacks its image.
use Rattle.std.proofs.Common.{ℕ, ◌<◌, IsTrue}
use Rattle.tl_c.specs.Draft.{lacks}
use Rattle.tl_c.proofs.draft.Draft.lacking.Given as goal

abbrev pub invariant-loop-port : goal.invariant-loop-port
invariant-loop-port l = (other : ℕ) → other < l.port → IsTrue (lacks l.self other) → ⊥
