-- The first of several faults, in the order in which they are tried.
use Rattle.std.specs.Prelude.{ℕ, ◌<◌}

-- the fault applies, and none that is tried before it does
pub record IsFirstOf {F : Type 0} (Has : F → Type 0) (rank : F → ℕ) (fault : F) : Type 0 where
  pub applies : Has fault
  pub first : (other : F) → rank other < rank fault → Has other → ⊥
