use Rattle.check_beats.specs.Bus.{bus_bytes}
use Rattle.check_beats.proofs.Returning.{reply_of_first}
use Rattle.check_beats.proofs.replying.Replying.fault.Goals as goal

pub next_reply_fault-requires-clause-formed : goal.next_reply_fault-requires-clause-formed
next_reply_fault-requires-clause-formed c =
    let i = c.self.inside in
    (reply_of_first (bus_bytes i.bus) i.first c.in-Some.head i.beats i.bytes i.marks c.self.invariant c.in-Some.is).formed
