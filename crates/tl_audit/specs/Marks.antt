-- A mark for each place of each history: how often the entries so far name it. For the proofs of the audit.
use Rattle.std.specs.Prelude.{◌≡◌, ℕ, zero, suc, ◌&&◌, ◌==◌, if◌then◌else◌, List, map, Option, Some, slice_get, option_and_then, option_map, Vec, IsSome}
use Rattle.std.specs.Global.{Global}
use Rattle.tl_types.specs.Request.{Request}
use Rattle.tl_types.specs.Response.{Response}
use Rattle.tl_types.specs.declared.trace.Entry.{Entry}
use Rattle.tl_audit.specs.Agrees.{times_named}
use Rattle.tl_audit.specs.declared.marks.Mark.{Mark}
use Rattle.tl_audit.specs.declared.marks.Mark.TheVariants.{Unnamed, Named, NamedAgain}

-- the lists in vectors
abbrev pub rows_in : {A : Type 0} → List (Vec A Global) → List (List A)
rows_in vectors = map (λ vector. vector.items) vectors

-- what stands at place i of row p
abbrev pub cell : {A : Type 0} → List (List A) → ℕ → ℕ → Option A
cell rows p i = option_and_then (λ row. slice_get row i) (slice_get rows p)

-- the mark of a place that one entry more names.
abbrev pub next_of : Mark → Mark
next_of Unnamed = Named
next_of Named = NamedAgain
next_of NamedAgain = NamedAgain

-- the mark of a place that so many entries more name.
abbrev pub next_times : ℕ → Mark → Mark
next_times zero mark = mark
next_times (suc n) mark = next_of (next_times n mark)

-- one cell is another, and all else is as it was
abbrev pub IsSetAt : {A : Type 0} → ℕ → ℕ → A → List (List A) → List (List A) → Type 0
IsSetAt port index x old new = (p i : ℕ) → cell new p i
    ≡ (if (port == p) && (index == i) then option_map (λ _. x) (cell old p i) else cell old p i)

-- each place was named so many times more
abbrev pub AreMarkedBy : (ℕ → ℕ → ℕ) → List (List Mark) → List (List Mark) → Type 0
AreMarkedBy times old new = (p i : ℕ) → cell new p i ≡ option_map (next_times (times p i)) (cell old p i)

-- each entry names a place that has a mark
abbrev pub NamePlaces : List (List Mark) → List Entry → Type 0
NamePlaces rows trace = (k : ℕ) (e : Entry) → slice_get trace k ≡ Some e → IsSome (cell rows e.port e.index)

-- so does each entry of each trace
abbrev pub AllNamePlaces : List (List Mark) → List (List Entry) → Type 0
AllNamePlaces rows traces = (m : ℕ) (trace : List Entry) → slice_get traces m ≡ Some trace → NamePlaces rows trace

-- there is a mark for each place of the histories, and it says how many entries of the traces name the place
abbrev pub AreCounted : List (List Entry) → List (List (Request × Response)) → List (List Mark) → Type 0
AreCounted traces histories rows = (p i : ℕ) → cell rows p i
    ≡ option_map (λ _. next_times (times_named traces p i) Unnamed) (cell histories p i)
