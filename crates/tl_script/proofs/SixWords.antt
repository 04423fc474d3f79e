-- No operation has more than five words, so six of them tell it.
use Rattle.std.proofs.Common.{◌≡◌, ℕ, List, [], ◌∷◌, take, refl}
use Rattle.tl_script.specs.Operation.{operand_bytes, is_wait, operation_in, request_of}

is_wait-six : (words : List (List ℕ)) → is_wait (take 6 words) ≡ is_wait words
is_wait-six [] = refl
is_wait-six (a ∷ []) = refl
is_wait-six (a ∷ b ∷ words) = refl

request_of-six : (sources : ℕ) (words : List (List ℕ)) → request_of sources (take 6 words) ≡ request_of sources words
unfolding request_of operand_bytes
request_of-six sources [] = refl
request_of-six sources (a ∷ []) = refl
request_of-six sources (a ∷ b ∷ []) = refl
request_of-six sources (a ∷ b ∷ c ∷ []) = refl
request_of-six sources (a ∷ b ∷ c ∷ d ∷ []) = refl
request_of-six sources (a ∷ b ∷ c ∷ d ∷ e ∷ []) = refl
request_of-six sources (a ∷ b ∷ c ∷ d ∷ e ∷ f ∷ words) = refl

pub operation_in-six : (sources : ℕ) (words : List (List ℕ))
    → operation_in sources (take 6 words) ≡ operation_in sources words
unfolding operation_in
operation_in-six sources words = rw (is_wait-six words, request_of-six sources words) refl
