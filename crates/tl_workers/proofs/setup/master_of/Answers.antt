-- A new master of a new seat has asked nothing.
use Rattle.std.proofs.Common.{◌≡◌, rules}
use Rattle.tl_master.specs.Master.{new_state}
use Rattle.tl_workers.proofs.Asking.{new_idle}
use Rattle.tl_workers.proofs.setup.master_of.Goals as goal

pub returns-clause-idle : goal.returns-clause-idle
returns-clause-idle c =
    let is : c.in-Ok.master ≡ new_state c.args.seat c.args.limit = search rules in
    new_idle c.args.arena.now c.args.number c.args.limit c.args.seat c.in-Ok.master c.requires.seat is
