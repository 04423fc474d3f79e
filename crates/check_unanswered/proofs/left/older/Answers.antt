-- Which of two requests began first.
use Rattle.std.proofs.Common.{◌≡◌, ◌≤◌, subst}
use Rattle.check_rows.specs.declared.request.Open.{Open}
use Rattle.check_unanswered.specs.Table.{IsOldestOf}
use Rattle.check_unanswered.proofs.Tables.{oldest_comes, oldest_of_one, oldest_stays}
use Rattle.check_unanswered.proofs.left.older.Goals as goal

pub returns-in-Some : goal.returns-in-Some
returns-in-Some c before is =
    oldest_comes before c.in-Some.first c.args.ask.now (subst (IsOldestOf before) c.in-Some.is is) c.if-ask-first.true

pub returns-in-Some-2 : goal.returns-in-Some-2
returns-in-Some-2 c before is =
    let one = c.in-Some.is in
    let other = c.in-Some-2.is in
    let same : c.in-Some.first ≡ c.in-Some-2.first = cc in
    oldest_stays before c.in-Some-2.first c.args.ask.now (subst (IsOldestOf before) other is)
    (subst (λ (o : Open). o.began.place ≤ c.args.ask.now.began.place) same c.if-ask-first.false)

pub returns-in-None : goal.returns-in-None
returns-in-None c before is = oldest_of_one before c.args.ask.now (subst (IsOldestOf before) c.in-None.is is)
