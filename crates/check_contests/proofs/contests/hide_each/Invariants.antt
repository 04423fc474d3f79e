use Rattle.std.proofs.Common.{◌≡◌, take}
use Rattle.check_contests.specs.Contests.{one_may_write, due_beside}
use Rattle.check_contests.proofs.contests.hide_each.Given as goal

abbrev pub invariant-loop-entry : goal.invariant-loop-entry
invariant-loop-entry l =
    l.due ≡ due_beside l.memory l.ask (one_may_write l.memory (take l.entry-index l.kept)) l.initial.due
