-- The bytes so far end lines.
use Rattle.std.proofs.Common.{◌≡◌, ◌≤◌, take}
use Rattle.std.specs.List.{AllPass}
use Rattle.check_records.specs.Text.{is_line_end, line_feeds}
use Rattle.check_records.proofs.source.count_line_ends.Given as goal

abbrev pub invariant-loop-count : goal.invariant-loop-count
invariant-loop-count l = record {
  all : AllPass is_line_end (take l.count l.text);
  feeds : l.feeds ≡ line_feeds (take l.count l.text);
  few : l.feeds ≤ l.count;
}
