-- The masters of the lists so far are told apart.
use Rattle.std.proofs.Common.{ℕ, ◌<◌, map, option_map}
use Rattle.check_description.specs.Apart.{AreApartAt}
use Rattle.check_description.proofs.apart.check_lists.Given as goal

abbrev pub invariant-loop-port : goal.invariant-loop-port
invariant-loop-port l =
    (other : ℕ) → other < l.port → AreApartAt l.counts l.sources (map (option_map (λ placed. placed.items)) l.lists) other
