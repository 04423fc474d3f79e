-- What the loop over the pairs of a word leads to.
use Rattle.std.proofs.Common.{◌≡◌, ℕ, ◌≤◌, List, [], ◌∷◌, ◌++◌, length, drop, get_or, Option, Some, None, option_map, refl, ap, append_assoc, arith}
use Rattle.tl_script.specs.Data.{byte_of, data_of}

data_of-more : (front : List (Option ℕ)) (byte : Option ℕ) (more : Option (List (Option ℕ)))
    → option_map (λ bytes. (front ++ byte ∷ []) ++ bytes) more ≡ option_map (λ bytes. front ++ bytes)
    (option_map (λ bytes. byte ∷ bytes) more)
data_of-more front byte None = refl
data_of-more front byte (Some bytes) = ap Some (append_assoc front (byte ∷ []) bytes)

-- one more pair is read
pub data_of-turn : (front : List (Option ℕ)) (rest : List ℕ) (byte : Option ℕ) → 2 ≤ length rest
    → byte_of (get_or rest 0 0) (get_or rest 1 0) ≡ Some byte
    → option_map (λ bytes. (front ++ byte ∷ []) ++ bytes) (data_of (drop 2 rest)) ≡ option_map (λ bytes. front ++ bytes)
    (data_of rest)
data_of-turn front [] byte two read = absurd (omega arith)
data_of-turn front (high ∷ []) byte two read = absurd (omega arith)
data_of-turn front (high ∷ low ∷ rest) byte two read = rw read (data_of-more front byte (data_of rest))
