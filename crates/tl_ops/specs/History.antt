-- Many requests in turn: the memory that they leave, and the lists of requests and replies that are true of it.
use Rattle.std.specs.Prelude.{◌≡◌, ℕ, List, [], ◌∷◌, map, take, Some, slice_get}
use Rattle.tl_types.specs.Request.{Request}
use Rattle.tl_types.specs.Response.{Response}
use Rattle.tl_ops.specs.Store.{Store, after, reply}

-- the memory after each of these requests in turn
abbrev pub replay : Store → List Request → Store
replay store [] = store
replay store (ask ∷ asks) = replay (after store ask) asks

-- the requests of a history
abbrev pub asks_of : List (Request × Response) → List Request
asks_of history = map (λ (entry : Request × Response). entry.0) history

-- each reply of the history is the one that the memory gives there, after the requests before it
abbrev pub IsLawfulHistory : Store → List (Request × Response) → Type 0
IsLawfulHistory reset history =
    (k : ℕ) (ask : Request) (response : Response) → slice_get history k ≡ Some (ask, response)
    → response ≡ reply (replay reset (asks_of (take k history))) ask
