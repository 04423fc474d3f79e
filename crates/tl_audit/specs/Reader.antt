-- What a reader of the traces gets if they agree with the histories of lawful books: the replies of one thread. What
-- a reply is stands in the chapter "TL-UL and TL-UH operations" of the TileLink specification; the rest is this
-- project's own.
use Rattle.std.specs.Prelude.{◌≡◌, ℕ, ◌<◌, List, [], ◌∷◌, map, Some, slice_get}
use Rattle.tl_types.specs.Request.{Request}
use Rattle.tl_types.specs.Response.{Response}
use Rattle.tl_types.specs.declared.trace.Entry.{Entry}
use Rattle.tl_ops.specs.Store.{Store, after, reply}
use Rattle.tl_ops.specs.History.{asks_of}
use Rattle.tl_map.specs.Owner.{IsWideSource}
use Rattle.tl_map.specs.declared.owners.Owner.{Owner}
use Rattle.tl_port.specs.Book.{BookView, IsLawfulBook, reset}
use Rattle.tl_audit.specs.Agrees.{Agrees, HasEntry, HasPlace}

-- the replies that one thread gives which serves these requests one after the other
abbrev pub replies_of : Store → List Request → List Response
replies_of store [] = []
replies_of store (ask ∷ asks) = reply store ask ∷ replies_of (after store ask) asks

-- the histories of books
abbrev pub histories_of : List BookView → List (List (Request × Response))
histories_of books = map (λ (book : BookView). book.history) books

-- each book is lawful
abbrev pub AreLawful : List BookView → Type 0
AreLawful books = (p : ℕ) (book : BookView) → slice_get books p ≡ Some book → IsLawfulBook book

-- the entry of master m, with its source widened, is the request at its index in the history of its port, and carries
-- the reply of the one thread that serves this history from reset
pub record CarriesReply (owners : List Owner) (books : List BookView) (m : ℕ) (e : Entry) : Type 0 where
  pub book : BookView
  pub port : slice_get books e.port ≡ Some book
  pub wide : ℕ
  pub is : IsWideSource owners m e.ask.source wide
  pub asked : slice_get (asks_of book.history) e.index ≡ Some (record e.ask { source = wide })
  pub replied : slice_get (replies_of (reset book) (asks_of book.history)) e.index ≡ Some
      (record e.reply { source = wide })

-- one entry of the traces is of place i of the history of port p, and no other
pub record IsTracedOnce (traces : List (List Entry)) (p i : ℕ) : Type 0 where
  pub master : ℕ
  pub place : ℕ
  pub entry : Entry
  pub at : HasEntry traces master place entry
  pub port : entry.port ≡ p
  pub index : entry.index ≡ i
  pub alone : (m k : ℕ) (e : Entry) → HasEntry traces m k e → e.port ≡ p → e.index ≡ i → (m ≡ master) × (k ≡ place)

-- of two entries of a master with one source and port, the earlier was served first
abbrev pub IsServedInOrder : List Entry → Type 0
IsServedInOrder trace =
    (j k : ℕ) (earlier later : Entry) → slice_get trace j ≡ Some earlier → slice_get trace k ≡ Some later
    → j < k → earlier.ask.source ≡ later.ask.source → earlier.port ≡ later.port → earlier.index < later.index

-- the traces are those of one thread that serves each port's history from reset: each entry carries its reply, each
-- entry of a history is traced once, and each source's entries at a port were served in the order of the trace
pub record AreOneThreads (owners : List Owner) (traces : List (List Entry)) (books : List BookView) : Type 0 where
  pub replies : (m k : ℕ) (e : Entry) → HasEntry traces m k e → CarriesReply owners books m e
  pub once : (p i : ℕ) → HasPlace (histories_of books) p i → IsTracedOnce traces p i
  pub order : (m : ℕ) (trace : List Entry) → slice_get traces m ≡ Some trace → IsServedInOrder trace

-- traces that agree with the histories of lawful books are those of one thread
abbrev pub AgreeingIsOneThreads : Type 0
AgreeingIsOneThreads = (owners : List Owner) (traces : List (List Entry)) (books : List BookView) → AreLawful books
    → Agrees owners traces (histories_of books) → AreOneThreads owners traces books
