-- The row before is judged, and nothing is told of it.
use Rattle.std.proofs.Common.{◌∙◌, ◌<◌, ◌++◌, ◌∷◌, [], IfErr, ap, subst}
use Rattle.check_rows.specs.Row.{seen_row}
use Rattle.check_review.specs.Verdict.{MayWantMemory}
use Rattle.check_review.specs.View.{HasTold, JudgeView, Judges, TellsOn, wants}
use Rattle.check_review.proofs.Keeping.{any_err}
use Rattle.check_review.proofs.Judging.{may_want, told_later}
use Rattle.check_review.proofs.judge.Judge.go_on_quietly.Goals as goal

pub returns-clause-told : goal.returns-clause-told
returns-clause-told c plan file so_far text has = λ _.
    let row = seen_row c.args.row.now c.args.lanes.now in
    let new = c.begin_moment.new.self in
    let passed = c.if-not-branch.false in
    subst (λ (judge : JudgeView). judge.moment.time < row.time → HasTold plan file judge so_far
    → TellsOn plan (file ++ row ∷ []) new so_far text text) c.self.view_is
    (λ later has. told_later plan file row _ new c.pass_rows.new.self so_far text text has
    (record {
      was = c.len-rows.ensures.moment;
      later = later;
      moment = ap (λ (judge : JudgeView). judge.moment) c.begin_moment.ensures;
      rows = ap (λ (judge : JudgeView). judge.rows) c.begin_moment.ensures;
    })
    (c.in_ok-pass_rows.ensures.in_time passed)
    (ap (λ (judge : JudgeView). judge.tally) c.begin_moment.ensures)
    (ap (λ (judge : JudgeView). judge.tally.trace) c.begin_moment.ensures ∙ c.in_ok-pass_rows.ensures.same.trace)
    (c.in_ok-pass_rows.ensures.keeps plan has.judges.before has.judges.course text has.judges.kept passed))
    c.requires.later has

pub returns-in_err-pass_rows-clause-memory : goal.returns-in_err-pass_rows-clause-memory
returns-in_err-pass_rows-clause-memory c plan file =
    subst (λ (judge : JudgeView). Judges plan file judge
    → IfErr c.from_residual.result (λ _. MayWantMemory (wants judge.tally) plan file)) c.self.view_is
    (λ judges. any_err c.from_residual.result (may_want (wants c.self.inside.tally) plan file _ judges
    (c.in_err-pass_rows.ensures.memory plan judges.before judges.course judges.kept)))
