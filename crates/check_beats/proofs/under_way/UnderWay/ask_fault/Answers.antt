use Rattle.check_beats.proofs.under_way.UnderWay.ask_fault.Goals as goal

pub returns-clause-fault : goal.returns-clause-fault
returns-clause-fault c = rw (← c.self.view_is) c.fault.ensures.fault
