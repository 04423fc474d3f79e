use Rattle.std.proofs.Common.{◌≡◌, drop}
use Rattle.check_memory.specs.Partial.{start_in}
use Rattle.check_coverage.proofs.mirrors.Mirrors.start.Given as goal

-- what is left says where the bytes stand
abbrev pub invariant-loop-base : goal.invariant-loop-base
invariant-loop-base l =
    start_in l.self.range (drop l.base-index l.self.others) l.address l.span
    ≡ start_in l.self.range l.self.others l.address l.span
