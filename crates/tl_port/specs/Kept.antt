-- What a book keeps of itself: that it is lawful, and that there is room for all that it may get. This is this
-- project's own.
use Rattle.std.specs.Prelude.{ℕ, ◌≤◌}
use Rattle.tl_port.specs.Book.{BookView, IsLawfulBook}

-- the book is lawful; there is room for as many entries as its journal may have, and for a request in flight of each
-- slot.
pub record IsKeptBook (b : BookView) (entries flights : ℕ) : Type 0 where
  pub lawful : IsLawfulBook b
  pub entries_fit : b.journal ≤ entries
  pub flights_fit : b.seat.arena.about.slots ≤ flights
