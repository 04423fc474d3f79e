use Rattle.std.proofs.Common.{subst}
use Rattle.tl_master.specs.Master.{MasterState, AreWidened}
use Rattle.tl_master.proofs.Ending.{kept_widened}
use Rattle.tl_master.proofs.master.Master.finish.Goals as goal

pub returns-clause-widened : goal.returns-clause-widened
returns-clause-widened c =
    let inside = c.self.inside in
    let m : MasterState =
    record { seat = inside.seat; out = inside.out.items; trace = inside.trace.items; limit = inside.limit } in
    subst (λ (n : MasterState). AreWidened n.seat.arena.about.owners n.seat.number inside.trace.items n.seat.got) c.self.view_is
    (kept_widened m inside.start inside.count c.self.invariant.0)
