use Rattle.std.proofs.Common.{◌≡◌, ℕ, ◌+◌, ◌<◌, ◌≤◌, length, slice_index}
use Rattle.tl_beats.specs.Packing.{plain_at_place}
use Rattle.tl_beats.proofs.bus.placed.Given as goal

-- the lanes of the first k bytes are as they are to be, and the others are empty
abbrev pub invariant-loop-k : goal.invariant-loop-k
invariant-loop-k l = record {
  long : length l.lanes ≡ 8;
  lanes : (j : ℕ) → j < l.first + l.k → slice_index l.lanes j ≡ plain_at_place l.given l.first j;
  lanes_rest : (j : ℕ) → l.first + l.k ≤ j → slice_index l.lanes j ≡ 0;
}
