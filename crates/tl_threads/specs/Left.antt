-- What a run by threads leaves beside its traces. All of it is this project's own.
use Rattle.std.specs.Prelude.{◌≡◌, ℕ, ◌<◌, List, Contains}
use Rattle.tl_arena.specs.Views.{ArenaId}
use Rattle.tl_port.specs.Book.{BookView, IsLawfulBook}

-- the book is that of this port of the arena, and lawful
pub record IsBookOf (arena : ArenaId) (port : ℕ) (book : BookView) : Type 0 where
  pub arena_is : book.seat.arena ≡ arena
  pub number_is : book.seat.number ≡ port
  pub lawful : IsLawfulBook book

-- each of so many masters is among those that left
abbrev pub HaveLeft : ℕ → List ℕ → Type 0
HaveLeft masters left = (m : ℕ) → m < masters → Contains left m
