use Rattle.std.proofs.Common.{◌≡◌, ℕ, ◌/◌, ◌%◌, ◌<◌, slice_get, slice_index, Some}
use Rattle.tl_beats.specs.declared.beat.DBeat.{DBeat}
use Rattle.tl_beats.proofs.reply_assemble.put_lanes.Given as goal

-- the lanes of the beats so far are there
abbrev pub invariant-loop-b : goal.invariant-loop-b
invariant-loop-b l = (j : ℕ) (beat : DBeat) → j / 8 < l.b → slice_get l.beats (j / 8) ≡ Some beat
    → slice_index l.lanes j ≡ slice_index beat.lanes (j % 8)
