use Rattle.std.proofs.Common.{◌≡◌}
use Rattle.tl_arena.proofs.arena.Arena.claim_among.Given as goal

abbrev pub invariant-loop-slot : goal.invariant-loop-slot
invariant-loop-slot l = l.master ≡ l.initial.master
