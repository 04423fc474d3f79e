-- None so far is the master.
use Rattle.std.proofs.Common.{◌≡◌, drop}
use Rattle.check_description.specs.Placed.{is_listed}
use Rattle.check_description.proofs.placed.is_listed.Given as goal

abbrev pub invariant-loop-one : goal.invariant-loop-one
invariant-loop-one l = is_listed l.master (drop l.one-index l.placed) ≡ is_listed l.master l.placed
