use Rattle.check_beats.specs.Bus.{bus_log}
use Rattle.check_beats.proofs.Going.{few_crossed}
use Rattle.check_beats.specs.State.{ask_begun}
use Rattle.check_beats.proofs.asking.Asking.count.Goals as goal

pub returns-in-Some-clause-in_limit : goal.returns-in-Some-clause-in_limit
returns-in-Some-clause-in_limit c =
    let i = c.self.inside in
    let few = few_crossed (bus_log i.bus) (ask_begun i.first i.beats i.bytes i.marks) c.self.invariant in
    rw c.in-Some.is at few
