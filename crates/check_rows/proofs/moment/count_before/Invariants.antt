-- The row after those that are left crosses later.
use Rattle.std.proofs.Common.{◌≤◌, ◌<◌, length, get_or}
use Rattle.check_rows.specs.Moment.{kept_place}
use Rattle.check_rows.specs.declared.moment.Kept.{Kept}
use Rattle.check_rows.proofs.moment.count_before.Given as goal

abbrev pub invariant-loop-count : goal.invariant-loop-count
invariant-loop-count l = record {
  inside : l.count ≤ length l.rows;
  behind : (kept : Kept) → l.count < length l.rows → l.place ≤ kept_place (get_or l.rows l.count kept);
}

abbrev pub decreases-loop-count : goal.decreases-loop-count
decreases-loop-count l = l.count
