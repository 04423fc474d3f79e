use Rattle.std.proofs.Common.{◌≡◌, drop}
use Rattle.check_memory.proofs.wide.is_less.Given as goal

-- the words from k on are the same
abbrev pub invariant-loop-k : goal.invariant-loop-k
invariant-loop-k l = drop l.k l.less ≡ drop l.k l.more
