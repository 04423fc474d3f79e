-- What is left of the requests that are kept.
use Rattle.check_review.proofs.Leaving.{what_is_left}
use Rattle.check_review.proofs.tally.Tally.left.Goals as goal

pub returns-in-Some : goal.returns-in-Some
returns-in-Some c plan rows holds =
    what_is_left plan rows c.args.self.now.pending _ c.left.result c.in-Some.is holds
    (λ kept. c.left.ensures.complete plan rows kept) (λ kept. c.left.ensures.left plan rows kept)
