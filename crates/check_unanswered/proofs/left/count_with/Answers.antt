use Rattle.std.proofs.Common.{◌≡◌, ◌+◌, [], ◌∷◌, length, Option, sym, subst, arith}
use Rattle.check_rows.specs.declared.request.Open.{Open}
use Rattle.check_unanswered.specs.Table.{opens}
use Rattle.check_unanswered.proofs.left.count_with.Goals as goal

pub returns-in-Some : goal.returns-in-Some
returns-in-Some c =
    let P : Option Open → Type 0 = λ k. c.args.requests + 1 ≡ c.args.requests + length (opens (k ∷ [])) in
    subst P (sym c.in-Some.is) (omega arith)

pub returns-in-None : goal.returns-in-None
returns-in-None c =
    let P : Option Open → Type 0 = λ k. c.args.requests ≡ c.args.requests + length (opens (k ∷ [])) in
    subst P (sym c.in-None.is) (omega arith)
