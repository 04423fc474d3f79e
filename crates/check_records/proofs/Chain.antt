-- One record after another, as a caller's loop has them.
use Rattle.std.proofs.Common.{ℕ, List, [], ◌∷◌, ◌++◌, Option, Some, None, refl}
use Rattle.check_records.specs.Reading.{HaveRead, Reading}
use Rattle.check_records.specs.Source.{Between}
use Rattle.check_records.specs.Text.{GivesRecord, TextPlace, Reads, RecordRow}
use Rattle.check_records.proofs.KnownLemmas.{between-trans}

pub reads-more : (a b c : TextPlace) (rows : List RecordRow) (row : RecordRow) → Reads a rows b → GivesRecord b row c
    → Reads a (rows ++ row ∷ []) c
unfolding Reads
reads-more a b c [] row so_far next = rw so_far (c, next, refl)
reads-more a b c (first ∷ rows) row so_far next = (so_far.0, so_far.1, reads-more so_far.0 b c rows row so_far.2 next)

-- no record was read yet
pub have-read-none : (a : Reading) → HaveRead a [] a
unfolding Reads
have-read-none a = none a.left.text
  where
    none : (text : Option (List ℕ)) → Between (record { line = a.left.line; text = text })
        (record { line = a.left.line; text = text }) (λ from to. Reads from [] to)
    none None = tt
    none (Some text) = refl

-- a read that answered true
pub have-read-more : (a b c : Reading) (rows : List RecordRow) → HaveRead a rows b
    → Between b.left c.left (λ from to. GivesRecord from c.row to)
    → HaveRead a (rows ++ c.row ∷ []) c
have-read-more a b c rows so_far next =
    between-trans a.left b.left c.left (λ from to. Reads from rows to) (λ from to. GivesRecord from c.row to)
    (λ from to. Reads from (rows ++ c.row ∷ []) to)
    (λ x y z. reads-more x y z rows c.row) so_far next
