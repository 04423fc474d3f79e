use Rattle.check_flight.specs.Crossing.{Crossing}
use Rattle.check_flight.specs.Crossing.Crossing.{Waiting}
use Rattle.check_contests.proofs.Mapped.{mapped-more}
use Rattle.check_watch.proofs.reset.clear_crossings.Goals as goal

pub loop-crossing-preserved : goal.loop-crossing-preserved
loop-crossing-preserved c =
    mapped-more (λ (_ : Crossing). Waiting) c.args.crossings.now c.loop-crossing.crossings c.loop-crossing.crossing-index
    c.crossing-item.result c.wait.new.self c.loop-crossing-test.true c.loop-crossing.invariant c.wait.ensures
