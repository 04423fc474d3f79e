-- How checks of a text follow one another: the first that fails is the answer. This project's own.
use Rattle.std.specs.Prelude.{Bool, List, [], ◌∷◌, ◌++◌, Option, None, Some, Result, Ok, Err, if◌then◌else◌}

infixl 10 ◌>>=◌
-- the first, and if it has no fault, the second on what it gave
abbrev pub ◌>>=◌ : {A B F : Type 0} → Result A F → (A → Result B F) → Result B F
(Ok x) >>= f = f x
(Err e) >>= f = Err e

-- the value, if this does not fail
abbrev pub unless : {A F : Type 0} → Bool → F → A → Result A F
unless fails fault x = if fails then Err fault else Ok x

-- what was read, and then the rest
abbrev pub with_front : {B F : Type 0} → List B → Result (List B) F → Result (List B) F
with_front front rest = rest >>= (λ more. Ok (front ++ more))

-- each of the values in order, or the fault of the first that has one
abbrev pub each : {A B F : Type 0} → (A → Result B F) → List A → Result (List B) F
each f [] = Ok []
each f (x ∷ xs) = f x >>= (λ y. each f xs >>= (λ ys. Ok (y ∷ ys)))

-- the value that is there, read; none if none is there
abbrev pub if_any : {A B F : Type 0} → (A → Result B F) → Option A → Result (Option B) F
if_any f None = Ok None
if_any f (Some x) = f x >>= (λ y. Ok (Some y))
