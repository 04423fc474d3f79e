-- A row of the moment's time, and one of a later time.
use Rattle.std.proofs.Common.{sym, subst}
use Rattle.check_rows.specs.Row.{seen_row}
use Rattle.check_review.specs.View.{HasTold, JudgeView}
use Rattle.check_review.proofs.Judging.{told_now}
use Rattle.check_review.proofs.judge.Judge.take_quietly.Goals as goal

pub returns-in-Ok-true-clause-told : goal.returns-in-Ok-true-clause-told
returns-in-Ok-true-clause-told c plan file so_far text has = λ _.
    let row = seen_row c.args.row.now c.args.lanes.now in
    told_now plan file row c.args.self.now c.put.new.self so_far text has
    (c.in-Ok-true.ensures.taken c.in-Ok-true.field-0-test)
    (record {
      tally = c.put.ensures.tally;
      was = c.put.ensures.was;
      moment = c.put.ensures.moment;
      rows = c.in-Ok-true.ensures.rows c.in-Ok-true.field-0-test;
    })

pub returns-in-Ok-false-clause-told : goal.returns-in-Ok-false-clause-told
returns-in-Ok-false-clause-told c plan file so_far text has =
    let same = c.in-Ok-false.ensures.left c.in-Ok-false.field-0-test in
    c.go_on_quietly.ensures.told plan file so_far text
    (subst (λ (judge : JudgeView). HasTold plan file judge so_far) (sym same) has)
