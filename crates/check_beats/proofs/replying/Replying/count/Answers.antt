use Rattle.check_beats.specs.Bus.{bus_log}
use Rattle.check_beats.proofs.Returning.{few_replied}
use Rattle.check_beats.specs.State.{reply_begun}
use Rattle.check_beats.proofs.replying.Replying.count.Goals as goal

pub returns-in-Some-clause-in_limit : goal.returns-in-Some-clause-in_limit
returns-in-Some-clause-in_limit c =
    let i = c.self.inside in
    let few = few_replied (bus_log i.bus) (reply_begun i.first i.beats i.bytes i.marks) c.self.invariant in
    rw c.in-Some.is at few
