use Rattle.check_beats.specs.State.{Under, nothing_under}
use Rattle.check_contests.proofs.Mapped.{mapped-more}
use Rattle.check_flight.proofs.side.reset_links.Goals as goal

pub loop-link-preserved : goal.loop-link-preserved
loop-link-preserved c =
    mapped-more (λ (under : Under). nothing_under under.bus) c.args.links.now c.loop-link.links c.loop-link.link-index
    c.link-item.result c.reset.new.self c.loop-link-test.true c.loop-link.invariant c.reset.ensures
