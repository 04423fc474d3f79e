-- The slots that a port has accepted and not answered, each with its request, in the order accepted. All of it is this
-- project's own.
use Rattle.std.specs.Prelude.{◌≡◌, ℕ, cond, eqb, List, [], ◌∷◌, Option, Some, None}
use Rattle.tl_types.specs.Request.{Request}

-- the request that is served at the slot, if there is one
abbrev pub ask_at : List (ℕ × Request) → ℕ → Option Request
ask_at [] i = None
ask_at (f ∷ fs) i = cond (eqb f.0 i) (Some f.1) (ask_at fs i)

-- the list without the first item of the slot
abbrev pub drop_slot : ℕ → List (ℕ × Request) → List (ℕ × Request)
drop_slot i [] = []
drop_slot i (f ∷ fs) = cond (eqb f.0 i) fs (f ∷ drop_slot i fs)

-- no slot stands twice
abbrev pub HasDistinctSlots : List (ℕ × Request) → Type 0
HasDistinctSlots [] = Unit {0}
HasDistinctSlots (f ∷ fs) = (ask_at fs f.0 ≡ None) × HasDistinctSlots fs
