use Rattle.std.proofs.Common.{◌≡◌, ℕ, ◌*◌, ◌<◌, ◌≤◌, slice_get}
use Rattle.check_flight.proofs.crossing.are_same_in_cut.Given as goal

-- the bytes so far are the same
abbrev pub invariant-loop-place : goal.invariant-loop-place
invariant-loop-place l =
    (k : ℕ) → l.width * l.cut ≤ k → k < l.place → slice_get l.captured k ≡ slice_get l.given k
