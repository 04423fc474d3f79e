-- A row of the moment's time, one of a later time, and one that may not follow.
use Rattle.std.proofs.Common.{refl, subst}
use Rattle.check_rows.specs.Row.{seen_row}
use Rattle.check_review.specs.Steps.{TakesRow}
use Rattle.check_review.specs.View.{JudgeView}
use Rattle.check_review.proofs.Judging.{judges_now, fault_of, told_now}
use Rattle.check_review.proofs.judge.Judge.take.Goals as goal

pub returns-in-Ok-true-clause-row : goal.returns-in-Ok-true-clause-row
returns-in-Ok-true-clause-row c =
    let row = seen_row c.args.row.now c.args.lanes.now in
    let text = c.args.text.now.items in
    let taken = c.in-Ok-true.field-0-test in
    record {
      keeps = λ plan file judges.
          judges_now plan file row c.args.self.now c.put.new.self judges (c.in-Ok-true.ensures.taken taken)
          (record {
            tally = c.put.ensures.tally;
            was = c.put.ensures.was;
            moment = c.put.ensures.moment;
            rows = c.in-Ok-true.ensures.rows taken;
          });
      told = λ plan file so_far has.
          told_now plan file row c.args.self.now c.put.new.self so_far text has (c.in-Ok-true.ensures.taken taken)
          (record {
            tally = c.put.ensures.tally;
            was = c.put.ensures.was;
            moment = c.put.ensures.moment;
            rows = c.in-Ok-true.ensures.rows taken;
          });
      stop = λ plan file judges. tt;
      stop_told = λ plan file so_far has. tt;
      stop_covered = λ plan file judges. tt;
      memory = λ plan file judges. tt;
    }

pub returns-in-Ok-false-clause-row : goal.returns-in-Ok-false-clause-row
returns-in-Ok-false-clause-row c =
    let row = seen_row c.args.row.now c.args.lanes.now in
    subst (λ (judge : JudgeView). TakesRow row judge c.go_on.new.self c.args.text.now.items c.go_on.new.text.items
    c.go_on.result) (c.in-Ok-false.ensures.left c.in-Ok-false.field-0-test) c.go_on.ensures.row

pub returns-in-Err-clause-row : goal.returns-in-Err-clause-row
returns-in-Err-clause-row c =
    let row = seen_row c.args.row.now c.args.lanes.now in
    record {
      keeps = λ plan file judges. tt;
      told = λ plan file so_far has. tt;
      stop = λ plan file judges.
          fault_of plan file row c.args.self.now c.in-Err.fault c.put.ensures.was judges c.in-Err.ensures.fault;
      stop_told = λ plan file so_far has. refl;
      stop_covered = λ plan file judges. tt;
      memory = λ plan file judges is. absurd (cc);
    }
