use Rattle.std.proofs.Common.{◌≡◌, All}
use Rattle.std.specs.Vec.Iter.{into_iter_items}
use Rattle.tl_arena.specs.Views.{new_master}
use Rattle.tl_arena_tests.proofs.tests.agents.caller.callers_of.Given as goal

-- the seats that are left are new
abbrev pub invariant-loop-seat : goal.invariant-loop-seat
invariant-loop-seat g l = All (λ v. v ≡ new_master l.fn.arena v.number) (into_iter_items l.seat-iterator)
