use Rattle.check_beats.specs.Bus.{bus_bytes}
use Rattle.check_beats.proofs.Going.{first_of, of_first}
use Rattle.check_beats.proofs.asking.Asking.fault.Goals as goal

pub next_ask_fault-requires-clause-formed : goal.next_ask_fault-requires-clause-formed
next_ask_fault-requires-clause-formed c =
    let i = c.self.inside in
    (of_first (bus_bytes i.bus) i.first c.in-Some.head i.beats i.bytes i.marks c.self.invariant c.in-Some.is).formed

pub returns-in-Some-clause-fault : goal.returns-in-Some-clause-fault
returns-in-Some-clause-fault c =
    let i = c.self.inside in
    rw (← c.self.view_is, first_of i.first i.beats i.bytes i.marks) c.next_ask_fault.ensures.fault
