-- The bytes of the first lanes are marked.
use Rattle.std.proofs.Common.{◌≡◌, ℕ, ◌^◌, ◌++◌, Bool, List}
use Rattle.check_coverage.specs.Shape.{lanes_given, marks_of}
use Rattle.check_coverage.proofs.marks.Marks.mark_beat.Given as goal

abbrev pub invariant-loop-k : goal.invariant-loop-k
invariant-loop-k l = (size : ℕ) (bytes : List Bool) → l.fn.span ≡ 2 ^ size → l.initial.self ≡ marks_of size bytes
    → l.self ≡ marks_of size (bytes ++ lanes_given l.mask l.first l.k)
