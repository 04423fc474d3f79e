use Rattle.std.proofs.Common.{◌≡◌, ◌++◌, map, take, drop}
use Rattle.check_memory.specs.declared.slave.Slave.TheVariants.{Memory}
use Rattle.check_contests.specs.Contests.{entry_accepting}
use Rattle.check_contests.proofs.contests.hide_new.Given as goal

abbrev pub invariant-loop-entry : goal.invariant-loop-entry
invariant-loop-entry l =
    l.kept ≡ map (entry_accepting (Memory l.memory) l.ask) (take l.entry-index l.initial.kept)
    ++ drop l.entry-index l.initial.kept
