use Rattle.std.proofs.Common.{◌≡◌, take, None}
use Rattle.check_contests.specs.Contests.{kept_of}
use Rattle.check_contests.proofs.contests.place_of.Given as goal

abbrev pub invariant-loop-place : goal.invariant-loop-place
invariant-loop-place l = kept_of (take l.place l.kept) l.wide ≡ None
