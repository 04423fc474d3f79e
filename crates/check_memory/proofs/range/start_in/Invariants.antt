use Rattle.std.proofs.Common.{◌≡◌, drop}
use Rattle.check_memory.specs.Partial.{start_in}
use Rattle.check_memory.proofs.range.start_in.Given as goal

-- what is left says where the bytes stand
abbrev pub invariant-loop-base : goal.invariant-loop-base
invariant-loop-base l =
    start_in l.range (drop l.base-index l.mirrors) l.address l.width ≡ start_in l.range l.mirrors l.address l.width
