-- The digits so far, and their value.
use Rattle.std.proofs.Common.{◌^◌, ◌<◌, ◌≤◌}
use Rattle.check_rows.specs.Front.{BeginsWithNumber}
use Rattle.check_rows.proofs.front.front_hexadecimal.Given as goal

abbrev pub invariant-loop-count : goal.invariant-loop-count
invariant-loop-count l = record {
  number : BeginsWithNumber 16 l.text l.value l.count;
  small : l.value < 16 ^ l.count;
  few : l.count ≤ 16;
}
