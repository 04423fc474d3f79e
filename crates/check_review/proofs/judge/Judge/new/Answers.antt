use Rattle.std.proofs.Common.{refl}
use Rattle.check_review.proofs.Judging.{judges_none}
use Rattle.check_review.proofs.judge.Judge.new.Goals as goal

pub returns-clause-judges : goal.returns-clause-judges
returns-clause-judges c plan keeps loads pending covers waits =
    judges_none plan _ c.new.ensures refl refl refl keeps loads pending covers waits
