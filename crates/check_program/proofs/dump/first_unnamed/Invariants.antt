-- No link so far lacks signals.
use Rattle.std.proofs.Common.{◌≡◌, drop, map}
use Rattle.check_signals.specs.Names.{link_view}
use Rattle.check_program.specs.Dump.{first_unnamed}
use Rattle.check_program.proofs.dump.first_unnamed.Given as goal

abbrev pub invariant-loop-number : goal.invariant-loop-number
invariant-loop-number l =
    first_unnamed (map link_view (drop l.number l.links)) l.number ≡ first_unnamed (map link_view l.links) 0
