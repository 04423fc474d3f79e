-- The value of bytes as a sum over their places.
use Rattle.std.proofs.Common.{◌≡◌, ℕ, ◌+◌, ◌*◌, ◌^◌, List, [], ◌∷◌, fold, ◌∙◌, sym, arith}
use Rattle.std.proofs.Math.Nat.{mul-add, mul_assoc, mul_comm, mul-zero}
use Rattle.std.proofs.lemmas.Nat.{pow-add}
use Rattle.std.specs.List.{enumerate_from}
use Rattle.tl_ops.specs.Number.{number}
use Rattle.tl_ops.specs.Laws.{NumberIsSum}

one_more : (total b p n : ℕ) → total + b * p + p * 256 * n ≡ total + p * (b + 256 * n)
one_more total b p n = omega (arith, mul-add p b (256 * n), mul_assoc p 256 n, mul_comm b p)

-- what the sum of byte k times 256 ^ k adds to a total, where the first byte stands at place `from`
added_from : (bytes : List ℕ) (from total : ℕ)
    → fold (λ a (place : ℕ × ℕ). a + place.1 * 256 ^ place.0) total
    (enumerate_from from bytes) ≡ total + 256 ^ from * number bytes
added_from [] from total = omega (arith, mul-zero (256 ^ from))
added_from (b ∷ bytes) from total =
    added_from bytes (from + 1) (total + b * 256 ^ from)
    ∙ rw (pow-add 256 from 1) (one_more total b (256 ^ from) (number bytes))

pub number_is_sum : NumberIsSum
number_is_sum bytes = sym (added_from bytes 0 0 ∙ omega arith)
