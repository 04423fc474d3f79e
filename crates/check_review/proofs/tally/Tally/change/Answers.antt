use Rattle.check_review.proofs.tally.Tally.change.Goals as goal

pub returns-in-Some-clause-change : goal.returns-in-Some-clause-change
returns-in-Some-clause-change c plan past lanes keeps lawful =
    c.change.ensures.change plan past c.args.row.now.known lanes keeps lawful
