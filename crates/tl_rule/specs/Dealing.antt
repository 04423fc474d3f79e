-- The start of an arena, and the dealing of its seats: the first seat, the dealer's, gives out those of the masters in
-- order, and then those of the ports. All of it is this project's own.
use Rattle.std.specs.Prelude.{◌≡◌, ℕ, ◌+◌, ◌<◌, List, length, replicate, All, IsSome}
use Rattle.atomic_table.specs.Table.{Splits, opening}
use Rattle.tl_slots.specs.Machine.{IsInLimits}
use Rattle.tl_map.specs.Owners.{AreLawfulOwners}
use Rattle.tl_rule.specs.declared.view.About.{About}
use Rattle.tl_rule.specs.declared.view.View.{View}
use Rattle.tl_rule.specs.declared.view.View.TheVariants.{Dealer, Master, Port}
use Rattle.tl_rule.specs.Record.{Berth}
use Rattle.tl_rule.specs.Views.{new_hands, new_desk}
use Rattle.tl_rule.specs.Rule.{Fits}

-- the dealer's view before it has dealt any seat
abbrev pub opening_view : About → View
opening_view a = Dealer a 0 0

-- the dealer's view after it has dealt a seat to one master more; any other view stays as it is.
abbrev pub after_master : View → View
after_master (Dealer a m p) = Dealer a (m + 1) p
after_master (Master v) = Master v
after_master (Port u) = Port u

-- the view of the new seat, if the dealer deals one to the next master; any other view is handed on as it is.
abbrev pub next_master : View → View
next_master (Dealer a m p) = Master (new_hands a m)
next_master (Master v) = Master v
next_master (Port u) = Port u

-- the dealer's view after it has dealt a seat to one port more; any other view stays as it is.
abbrev pub after_port : View → View
after_port (Dealer a m p) = Dealer a m (p + 1)
after_port (Master v) = Master v
after_port (Port u) = Port u

-- the view of the new seat, if the dealer deals one to the next port; any other view is handed on as it is.
abbrev pub next_port : View → View
next_port (Dealer a m p) = Port (new_desk a p)
next_port (Master v) = Master v
next_port (Port u) = Port u

-- ---- the laws

-- the parts of a new table: zero words, a record in each slot, counts in their limits, and lawful owners
pub record AreOpeningParts (a : About) (words : List ℕ) (letters : List Berth) : Type 0 where
  pub zeros : words ≡ replicate (a.slots + a.masters) 0
  pub many : length letters ≡ a.slots
  pub there : All (λ (berth : Berth). IsSome berth) letters
  pub limits : IsInLimits a.slots a.masters a.ports
  pub owners : AreLawfulOwners a.owners

-- a table of these parts fits
abbrev pub Opens : Type 0
Opens =
    (a : About) (letters : List Berth) (words : List ℕ) → AreOpeningParts a words letters
    → Fits a (opening words letters (opening_view a))

-- the dealer deals the seat of the next master
abbrev pub DealsMaster : Type 0
DealsMaster =
    (a : About) (id m p : ℕ) → m < a.masters
    → Splits (Fits a) id (Dealer a m p) (after_master (Dealer a m p)) (next_master (Dealer a m p))

-- and after those of all masters that of the next port
abbrev pub DealsPort : Type 0
DealsPort =
    (a : About) (id m p : ℕ) → m ≡ a.masters → p < a.ports
    → Splits (Fits a) id (Dealer a m p) (after_port (Dealer a m p)) (next_port (Dealer a m p))
