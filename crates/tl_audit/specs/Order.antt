-- What is kept while a trace's order is checked: the last index of each source at each port. For the proofs of the
-- audit.
use Rattle.std.specs.Prelude.{◌≡◌, ℕ, ◌<◌, ◌≤◌, List, Option, Some, None, slice_get, IsSome, IsSomeAnd}
use Rattle.tl_types.specs.declared.trace.Entry.{Entry}
use Rattle.tl_map.specs.Blocks.{counts_in}
use Rattle.tl_map.specs.declared.owners.Owner.{Owner}
use Rattle.tl_audit.specs.Agrees.{IsOutOfOrder}
use Rattle.tl_audit.specs.Marks.{cell}

-- there is a last index, and it is at least this one
abbrev pub IsAtLeast : Option ℕ → ℕ → Type 0
IsAtLeast None index = ⊥
IsAtLeast (Some last) index = index ≤ last

-- an entry before place k of the trace has this port, source and index
pub record IsSeen (trace : List Entry) (k p s index : ℕ) : Type 0 where
  pub place : ℕ
  pub before : place < k
  pub entry : Entry
  pub at : slice_get trace place ≡ Some entry
  pub port : entry.port ≡ p
  pub source : entry.ask.source ≡ s
  pub is : entry.index ≡ index

-- the first k entries of the trace are in order, and these are their last indexes by port and source
pub record IsOrderedTo (trace : List Entry) (k : ℕ) (lasts : List (List (Option ℕ))) : Type 0 where
  pub bounds : (j : ℕ) (e : Entry) (last : Option ℕ) → j < k → slice_get trace j ≡ Some e
      → cell lasts e.port e.ask.source ≡ Some last → IsAtLeast last e.index
  pub seen : (p s last : ℕ) → cell lasts p s ≡ Some (Some last) → IsSeen trace k p s last
  pub ordered : (j : ℕ) → j < k → IsOutOfOrder trace j → ⊥

-- each entry's source at its port has a cell
abbrev pub HaveCells : List (List (Option ℕ)) → List Entry → Type 0
HaveCells lasts trace = (k : ℕ) (e : Entry) → slice_get trace k ≡ Some e → IsSome (cell lasts e.port e.ask.source)

-- nothing was seen yet
abbrev pub AreBlank : List (List (Option ℕ)) → Type 0
AreBlank lasts = (p s : ℕ) (last : Option ℕ) → cell lasts p s ≡ Some last → last ≡ None

-- each entry is of a port below this many and of a source that the master has
abbrev pub HavePlaces : List Owner → ℕ → ℕ → List Entry → Type 0
HavePlaces owners ports master trace = (k : ℕ) (e : Entry) → slice_get trace k ≡ Some e
    → (e.port < ports) × IsSomeAnd (slice_get (counts_in owners) master) (λ count. e.ask.source < count)
