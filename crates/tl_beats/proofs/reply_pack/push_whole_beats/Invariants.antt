use Rattle.std.proofs.Common.{◌≡◌, ℕ, length, Some, slice_get}
use Rattle.std.specs.Prelude.{All}
use Rattle.tl_beats.specs.declared.beat.DBeat.{DBeat}
use Rattle.tl_beats.specs.Replies.{IsReplyBeatOf, IsCleanReply}
use Rattle.tl_beats.proofs.reply_pack.push_whole_beats.Given as goal

-- the beats so far are the first ones
abbrev pub invariant-loop-b : goal.invariant-loop-b
invariant-loop-b l = record {
  count : length l.beats.items ≡ l.b;
  each : (address b : ℕ) (beat : DBeat) → slice_get l.beats.items b ≡ Some beat → IsReplyBeatOf l.reply address b beat;
  clean : (address : ℕ) → All (λ beat. IsCleanReply l.reply address beat) l.beats.items;
}
