-- The bytes so far go on with the record.
use Rattle.std.proofs.Common.{◌≡◌, ◌≤◌, take}
use Rattle.check_records.specs.Draft.{DraftGoesOn, IsDraft, partial}
use Rattle.check_records.specs.Text.{line_feeds}
use Rattle.check_records.proofs.draft.Draft.feed_bytes.Given as goal

abbrev pub invariant-loop-i : goal.invariant-loop-i
invariant-loop-i l = record {
  draft : IsDraft l.self;
  so_far : DraftGoesOn (partial l.fn.self) (take l.i l.text) (partial l.self);
  feeds : l.feeds ≡ line_feeds (take l.i l.text);
  few : l.feeds ≤ l.i;
  line : l.self.line ≡ l.fn.self.line;
}
