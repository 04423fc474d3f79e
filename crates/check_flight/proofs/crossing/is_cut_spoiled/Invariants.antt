use Rattle.std.proofs.Common.{◌≡◌, ℕ, ◌*◌, ◌<◌, ◌≤◌, false}
use Rattle.std.specs.Prelude.{slice_index_or}
use Rattle.check_flight.proofs.crossing.is_cut_spoiled.Given as goal

-- no byte so far is spoiled
abbrev pub invariant-loop-place : goal.invariant-loop-place
invariant-loop-place l =
    (k : ℕ) → l.width * l.cut ≤ k → k < l.place → slice_index_or l.marks k false ≡ false
