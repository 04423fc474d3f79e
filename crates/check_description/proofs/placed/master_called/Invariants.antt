-- No master so far has the name.
use Rattle.std.proofs.Common.{◌≡◌, drop, map}
use Rattle.check_description.specs.Called.{called_from}
use Rattle.check_description.specs.Master.{master_view}
use Rattle.check_description.specs.Placed.{names_of_masters}
use Rattle.check_description.proofs.placed.master_called.Given as goal

abbrev pub invariant-loop-number : goal.invariant-loop-number
invariant-loop-number l =
    called_from l.number l.name (names_of_masters (map master_view (drop l.number l.masters)))
    ≡ called_from 0 l.name (names_of_masters (map master_view l.masters))
