-- The fields before `start` went on with the record.
use Rattle.std.proofs.Common.{◌≡◌, ◌≤◌, ◌+◌, ◌-◌, [], length, take, get_or, true}
use Rattle.csv.specs.Records.{fields_of, partial_of}
use Rattle.check_records.specs.Draft.{DraftGoesOn, partial}
use Rattle.check_records.specs.Machine.{begins_field}
use Rattle.check_records.specs.Text.{line_feeds}
use Rattle.check_records.specs.declared.draft.TheConstants.{MAX_ROW}
use Rattle.check_records.proofs.BareLemmas.{behind_fields}
use Rattle.check_records.proofs.draft.Draft.feed_fields.Given as goal

abbrev pub invariant-loop-start : goal.invariant-loop-start
invariant-loop-start l =
    let p = behind_fields (partial l.fn.self) (fields_of l.self.columns) l.start in
    record {
      whole : partial_of l.self.columns ≡ [];
      short : l.fn.self.size + l.start ≤ MAX_ROW;
      inside : l.start ≤ length l.text;
      so_far : DraftGoesOn (partial l.fn.self) (take l.start l.text) p;
      begins : begins_field p.state (get_or l.text l.start 0) ≡ true;
      feeds : line_feeds (take l.start l.text) ≡ 0;
      line : l.self.line ≡ l.fn.self.line;
      state : l.self.state ≡ l.fn.self.state;
      field : l.self.field ≡ l.fn.self.field;
      size : l.self.size ≡ l.fn.self.size;
    }

abbrev pub decreases-loop-start : goal.decreases-loop-start
decreases-loop-start l = length l.text - l.start
