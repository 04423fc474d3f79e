-- What a journal is to its callers. This project's own.
use Rattle.std.specs.Prelude.{ℕ, List, map}
use Rattle.tl_types.specs.Request.{Request}
use Rattle.tl_types.specs.Response.{Response}

-- the requests with their replies, in the order in which they were appended, and for how many there is room in all
pub record JournalView : Type 0 where
  pub items : List (Request × Response)
  pub room : ℕ

-- the requests and replies of journals
abbrev pub pairs_in : List JournalView → List (List (Request × Response))
pairs_in journals = map (λ (journal : JournalView). journal.items) journals
