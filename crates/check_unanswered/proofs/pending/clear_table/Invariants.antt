-- Those of the first places are cleared.
use Rattle.std.proofs.Common.{◌≡◌, ◌++◌, Option, None, map, take, drop}
use Rattle.check_rows.specs.declared.request.Open.{Open}
use Rattle.check_unanswered.proofs.pending.clear_table.Given as goal

abbrev pub invariant-loop-ask : goal.invariant-loop-ask
invariant-loop-ask l =
    l.table ≡ map (λ (_ : Option Open). None) (take l.ask-index l.initial.table) ++ drop l.ask-index l.initial.table
