-- What the marks tell of the places of histories.
use Rattle.std.proofs.Common.{◌≡◌, ℕ, ◌<◌, List, Option, Some, None, IsSome, refl}
use Rattle.std.proofs.lemmas.Bool.{false≢true}
use Rattle.tl_types.specs.Request.{Request}
use Rattle.tl_types.specs.Response.{Response}
use Rattle.tl_types.specs.declared.trace.Entry.{Entry}
use Rattle.tl_audit.specs.Agrees.{HasPlace, times_named}
use Rattle.tl_audit.specs.Marks.{AreCounted, cell, next_times}
use Rattle.tl_audit.specs.declared.marks.Mark.{Mark}
use Rattle.tl_audit.specs.declared.marks.Mark.TheVariants.{Unnamed, NamedAgain}
use Rattle.tl_audit.proofs.Cells.{cell_of}
use Rattle.tl_audit.proofs.Counting.{named_again, named_never, named_once}

module _ (traces : List (List Entry)) (histories : List (List (Request × Response))) (rows : List (List Mark))
    (counted : AreCounted traces histories rows) where
  pub again : (p i : ℕ) → cell rows p i ≡ Some NamedAgain → HasPlace histories p i × (1 < times_named traces p i)
  again p i is =
      let told = cell_of (next_times (times_named traces p i) Unnamed) NamedAgain (cell histories p i)
      (rw (counted p i) at is) in
      (told.0, named_again (times_named traces p i) told.1)

  pub never : (p i : ℕ) → cell rows p i ≡ Some Unnamed → HasPlace histories p i × (times_named traces p i ≡ 0)
  never p i is =
      let told = cell_of (next_times (times_named traces p i) Unnamed) Unnamed (cell histories p i)
      (rw (counted p i) at is) in
      (told.0, named_never (times_named traces p i) told.1)

  marked : (p i : ℕ) (mark : Mark) → HasPlace histories p i → next_times (times_named traces p i) Unnamed ≡ mark
      → cell rows p i ≡ Some mark
  marked p i mark place is = by_pair (cell histories p i) refl where
    by_pair : (o : Option (Request × Response)) → cell histories p i ≡ o → cell rows p i ≡ Some mark
    by_pair None none = absurd (let there : IsSome (cell histories p i) = place in false≢true (rw none at there))
    by_pair (Some pair) there = rw (counted p i, there, is) refl

  pub once : ((p i : ℕ) → cell rows p i ≡ Some NamedAgain → ⊥) → ((p i : ℕ) → cell rows p i ≡ Some Unnamed → ⊥)
      → (p i : ℕ) → HasPlace histories p i → times_named traces p i ≡ 1
  once few some p i place =
      named_once (times_named traces p i) (λ is. some p i (marked p i Unnamed place is))
      (λ is. few p i (marked p i NamedAgain place is))
