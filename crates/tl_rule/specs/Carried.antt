-- The slots that a seat has taken out, by number, in the order in which the seat has them. A seat gives back the slot
-- that it took last, so it keeps this order beside it. All of it is this project's own.
use Rattle.std.specs.Prelude.{◌≡◌, ℕ, suc, Bool, true, false, ◌||◌, cond, eqb, List, [], ◌∷◌, length, slice_index_or}
use Rattle.std.specs.Prelude.{count_by, Some}
use Rattle.atomic_table.specs.Table.{rest}
use Rattle.tl_types.specs.Request.{Request}
use Rattle.tl_rule.specs.declared.view.Held.{Held}
use Rattle.tl_rule.specs.declared.view.Held.TheVariants.{Nothing, Filled, Sent, Taken}
use Rattle.tl_rule.specs.Record.{Berth}
use Rattle.tl_rule.specs.Serving.{ask_at}
use Rattle.tl_rule.specs.Moves.{Seat}

-- the numbers of the slots that were taken out
abbrev pub firsts : List (ℕ × Berth) → List ℕ
firsts [] = []
firsts (x ∷ xs) = x.0 ∷ firsts xs

-- whether the slot is among them
abbrev pub has : List ℕ → ℕ → Bool
has [] i = false
has (x ∷ xs) i = eqb x i || has xs i

-- how many stand before it
abbrev pub place : List ℕ → ℕ → ℕ
place [] i = 0
place (x ∷ xs) i = cond (eqb x i) 0 (suc (place xs i))

-- the slot is the one that is given back next
abbrev pub IsTop : Seat → ℕ → Type 0
IsTop m i = (x : Berth) × (m.1 ≡ (i, x) ∷ rest m.1)

-- whether the record of the slot is out with the master
abbrev pub is_carried : Held → Bool
is_carried Nothing = false
is_carried Filled = true
is_carried (Sent ask p known) = false
is_carried (Taken p) = true

-- whether the master owns the slot
abbrev pub is_held : Held → Bool
is_held Nothing = false
is_held Filled = true
is_held (Sent ask p known) = true
is_held (Taken p) = true

-- the slots in this order are just those of the hand whose records are out
pub record CarriesHand (hand : List Held) (order : List ℕ) : Type 0 where
  pub all : (i : ℕ) → is_carried (slice_index_or hand i Nothing) ≡ true → has order i ≡ true
  pub many : count_by is_carried hand ≡ length order

-- the slots in this order are just those that the port serves
pub record CarriesServed (serving : List (ℕ × Request)) (order : List ℕ) : Type 0 where
  pub all : (i : ℕ) (ask : Request) → ask_at serving i ≡ Some ask → has order i ≡ true
  pub many : length serving ≡ length order
