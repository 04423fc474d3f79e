-- The rows before are judged, or are not lawful, and what is told of them.
use Rattle.std.proofs.Common.{◌≡◌, ◌∙◌, ◌<◌, ◌++◌, Ok, Err, ap, reverse, sym, subst}
use Rattle.check_rows.specs.Row.{seen_row}
use Rattle.check_review.specs.declared.tally.Tally.{Tally}
use Rattle.check_review.specs.Steps.{TakesRow}
use Rattle.check_review.specs.View.{JudgeView, KeptIn, wants}
use Rattle.check_review.proofs.Covering.{covered_before, covers_so}
use Rattle.check_review.proofs.Judging.{first_unlawful, judges_later, later_all, may_want, stops_so, tells_so, told_before, told_later, wants_so}
use Rattle.check_review.proofs.Keeping.{of_unlawful}
use Rattle.check_review.proofs.judge.Judge.go_on.Goals as goal

pub returns-in-Err-clause-row : goal.returns-in-Err-clause-row
returns-in-Err-clause-row c =
    let row = seen_row c.args.row.now c.args.lanes.now in
    let now = c.args.text.now.items in
    let next = c.judge_moment.new.text.items in
    let tally = c.judge_moment.new.self in
    let new : JudgeView = record { tally = tally; moment = c.self.inside.moment; rows = c.self.inside.rows } in
    subst (λ (judge : JudgeView). judge.moment.time < row.time → TakesRow row judge new now next (Err c.stop_of.result))
    c.self.view_is
    (λ later. record {
      keeps = λ plan file judges. tt;
      told = λ plan file so_far has. tt;
      stop = λ plan file judges. rw c.stop_of.ensures (stops_so plan file row c.in-Err.refusal
          (later_all c.self.inside.moment file judges.before row c.len-rows.ensures.moment judges.crossing.same judges.earlier later)
          (of_unlawful _ _ c.in-Err.refusal (λ found stops. first_unlawful plan file _ found judges stops.stops)
          (c.in-Err.ensures.fault plan judges.before judges.course judges.kept)));
      stop_told = λ plan file so_far has. rw c.stop_of.ensures
          (tells_so c.self.inside.tally.trace plan file so_far now next c.in-Err.refusal
          (of_unlawful _ _ c.in-Err.refusal (λ found stops. told_before plan file _ found so_far now next has stops)
          (c.in-Err.ensures.fault plan has.judges.before has.judges.course has.judges.kept)));
      stop_covered = λ plan file judges. rw c.stop_of.ensures (covers_so plan file tally c.in-Err.refusal
          (of_unlawful _ _ c.in-Err.refusal (λ found stops. covered_before plan file _ tally found judges stops)
          (c.in-Err.ensures.fault_covered plan judges.before judges.course judges.kept)));
      memory = λ plan file judges is. wants_so c.in-Err.refusal (sym c.stop_of.ensures ∙ is) (λ refused.
          may_want (wants c.self.inside.tally) plan file _ judges
          (c.in-Err.ensures.memory plan judges.before judges.course judges.kept refused));
    }) c.requires.later

pub returns-clause-row : goal.returns-clause-row
returns-clause-row c =
    let row = seen_row c.args.row.now c.args.lanes.now in
    let new = c.begin_moment.new.self in
    let now = c.args.text.now.items in
    let next = c.judge_moment.new.text.items in
    let tally : new.tally ≡ c.judge_moment.new.self = ap (λ (judge : JudgeView). judge.tally) c.begin_moment.ensures in
    subst (λ (judge : JudgeView). judge.moment.time < row.time → TakesRow row judge new now next (Ok tt)) c.self.view_is
    (λ later. record {
      keeps = λ plan file judges.
          let on = c.in_default.ensures.keeps plan judges.before judges.course judges.kept in
          judges_later plan file row _ new judges
          (record {
            was = c.len-rows.ensures.moment;
            later = later;
            moment = ap (λ (judge : JudgeView). judge.moment) c.begin_moment.ensures;
            rows = ap (λ (judge : JudgeView). judge.rows) c.begin_moment.ensures;
          })
          c.in_default.ensures.in_time on.next
          (subst (KeptIn plan (reverse c.self.inside.moment.rows ++ judges.before) on.next) (sym tally) on.kept);
      told = λ plan file so_far has. told_later plan file row _ new c.judge_moment.new.self so_far now next has
          (record {
            was = c.len-rows.ensures.moment;
            later = later;
            moment = ap (λ (judge : JudgeView). judge.moment) c.begin_moment.ensures;
            rows = ap (λ (judge : JudgeView). judge.rows) c.begin_moment.ensures;
          })
          c.in_default.ensures.in_time tally (ap (λ (t : Tally). t.trace) tally ∙ c.in_default.ensures.same.trace)
          (c.in_default.ensures.keeps plan has.judges.before has.judges.course has.judges.kept);
      stop = λ plan file judges. tt;
      stop_told = λ plan file so_far has. tt;
      stop_covered = λ plan file judges. tt;
      memory = λ plan file judges. tt;
    }) c.requires.later
