-- The nearest of names, one name after the other.
use Rattle.std.proofs.Common.{◌≡◌, ℕ, ◌<◌, ◌≤◌, List, Option, Some, None, arith}
use Rattle.std.proofs.lemmas.Bool.Decides.{nat_tests}
use Rattle.check_keys.specs.Nearest.{distance, nearer, nearest}

-- the nearest so far, or else a nearer one of the rest
abbrev pub so_far : List ℕ → Option (List ℕ) → List (List ℕ) → Option (List ℕ)
so_far name None rest = nearest name rest
so_far name (Some best) rest = nearer name best (nearest name rest)

pub nearer-taken : (name best other : List ℕ) (rest : Option (List ℕ)) → distance name other < distance name best
    → nearer name other rest ≡ nearer name best (nearer name other rest)
nearer-taken name best other None less = grind (arith, nat_tests)
nearer-taken name best other (Some third) less = grind (arith, nat_tests)

pub nearer-left : (name best other : List ℕ) (rest : Option (List ℕ)) → distance name best ≤ distance name other
    → nearer name best rest ≡ nearer name best (nearer name other rest)
nearer-left name best other None less = grind (arith, nat_tests)
nearer-left name best other (Some third) less = grind (arith, nat_tests)
