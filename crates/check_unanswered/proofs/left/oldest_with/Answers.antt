-- One request more, or none.
use Rattle.std.proofs.Common.{[], ◌∷◌, ◌++◌, Option, Some, sym, subst}
use Rattle.check_rows.specs.declared.request.Open.{Open}
use Rattle.check_unanswered.specs.Table.{IsOldestOf, opens}
use Rattle.check_unanswered.proofs.Tables.{opens-append, opens-none}
use Rattle.check_unanswered.proofs.left.oldest_with.Goals as goal

pub returns-in-Some : goal.returns-in-Some
returns-in-Some c before is =
    let P : Option Open → Type 0 = λ k. IsOldestOf (opens (before ++ k ∷ [])) (Some c.older.result) in
    subst P (sym c.in-Some.is)
    (subst (λ l. IsOldestOf l (Some c.older.result)) (sym (opens-append before (Some c.in-Some.ask ∷ [])))
    (c.older.ensures (opens before) is))

pub returns-in-None : goal.returns-in-None
returns-in-None c before is =
    let P : Option Open → Type 0 = λ k. IsOldestOf (opens (before ++ k ∷ [])) c.args.first in
    subst P (sym c.in-None.is)
    (subst (λ l. IsOldestOf l c.args.first) (sym (opens-none before)) is)
