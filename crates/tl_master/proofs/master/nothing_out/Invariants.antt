use Rattle.std.proofs.Common.{◌≡◌, replicate, None}
use Rattle.tl_master.proofs.master.nothing_out.Given as goal

abbrev pub invariant-loop : goal.invariant-loop
invariant-loop l = l.out.items ≡ replicate l.counter None
