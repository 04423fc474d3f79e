-- The last rows are not lawful, and what is told.
use Rattle.std.proofs.Common.{◌≡◌, ◌++◌, Bool, Err, List, ℕ, ap, reverse, subst}
use Rattle.check_review.specs.Stretches.{watched_in}
use Rattle.check_review.specs.Covered.{IsCoveredBefore, IsCoveredFile}
use Rattle.check_review.specs.View.{HasTold, JudgeView, Judges, is_asked, is_traced, wants}
use Rattle.check_review.specs.Verdict.{HasCounts, HasLeft, IsFirstUnlawful, IsLawfulFile, IsToldBefore, IsToldFile, IsWhatIsLeft, MayWantMemory, OfUnlawful}
use Rattle.check_review.specs.declared.stop.Refusal.TheVariants as refusals
use Rattle.check_review.proofs.Covering.{covered_before, covered_file}
use Rattle.check_review.proofs.Judging.{first_unlawful, may_want, refused_is_not_lawful, still_in_time, told_before, told_file}
use Rattle.check_review.proofs.Keeping.{of_unlawful}
use Rattle.check_review.proofs.judge.Judge.end.Goals as goal

pub returns-in-Err-clause-fault : goal.returns-in-Err-clause-fault
returns-in-Err-clause-fault c plan file =
    subst (λ (judge : JudgeView). Judges plan file judge → OfUnlawful (IsFirstUnlawful plan file) c.in-Err.refusal)
    c.self.view_is
    (λ judges. of_unlawful _ _ c.in-Err.refusal
    (λ found stops. first_unlawful plan file _ found judges stops.stops)
    (c.in-Err.ensures.fault plan judges.before judges.course judges.kept))

pub returns-in-Err-clause-taken : goal.returns-in-Err-clause-taken
returns-in-Err-clause-taken c plan file judges other lawful =
    let first : OfUnlawful (IsFirstUnlawful plan file) c.in-Err.refusal = returns-in-Err-clause-fault c plan file judges in
    absurd (refused_is_not_lawful plan file c.in-Err.refusal first (λ is. other (ap Err is)) lawful)

pub returns-clause-lawful : goal.returns-clause-lawful
returns-clause-lawful c plan file =
    subst (λ (judge : JudgeView). Judges plan file judge → IsLawfulFile plan file) c.self.view_is
    (λ judges.
    let on = c.in_default.ensures.keeps plan judges.before judges.course judges.kept in
    record {
      crossed = reverse c.self.inside.moment.rows ++ judges.before;
      crossing = judges.crossing;
      course = on.next;
      lawful = on.kept.tallied.keeps.lawful;
      in_time = still_in_time plan file _ judges c.len-rows.ensures.moment c.in_default.ensures.in_time on.next;
    })

pub returns-in-Err-clause-fault_told : goal.returns-in-Err-clause-fault_told
returns-in-Err-clause-fault_told c plan file so_far =
    let now = c.args.text.now.items in
    let next = c.judge_moment.new.text.items in
    subst (λ (judge : JudgeView). HasTold plan file judge so_far → OfUnlawful (λ found. (more : List ℕ)
    × (next ≡ now ++ more) × IsToldBefore (is_traced judge) plan file (so_far ++ more) found) c.in-Err.refusal)
    c.self.view_is
    (λ has. of_unlawful _ _ c.in-Err.refusal (λ found stops. told_before plan file _ found so_far now next has stops)
    (c.in-Err.ensures.fault plan has.judges.before has.judges.course has.judges.kept))

pub returns-in-Err-clause-memory : goal.returns-in-Err-clause-memory
returns-in-Err-clause-memory c plan file =
    subst (λ (judge : JudgeView). Judges plan file judge → c.in-Err.refusal ≡ refusals.Memory
    → MayWantMemory (wants judge.tally) plan file) c.self.view_is
    (λ judges is. may_want (wants c.self.inside.tally) plan file _ judges
    (c.in-Err.ensures.memory plan judges.before judges.course judges.kept is))

pub returns-clause-told : goal.returns-clause-told
returns-clause-told c plan file so_far =
    let now = c.args.text.now.items in
    let next = c.judge_moment.new.text.items in
    subst (λ (judge : JudgeView). HasTold plan file judge so_far → (more : List ℕ) × (next ≡ now ++ more)
    × IsToldFile (is_traced judge) plan file (so_far ++ more)) c.self.view_is
    (λ has. told_file plan file _ c.judge_moment.new.self so_far now next has c.len-rows.ensures.moment
    c.in_default.ensures.in_time
    (c.in_default.ensures.keeps plan has.judges.before has.judges.course has.judges.kept))

pub returns-clause-left : goal.returns-clause-left
returns-clause-left c plan file =
    subst (λ (judge : JudgeView). Judges plan file judge → HasLeft (is_asked judge) plan file c.left.result) c.self.view_is
    (λ judges.
    let on = c.in_default.ensures.keeps plan judges.before judges.course judges.kept in
    let A : Bool → Type 0 = λ asked. IsWhatIsLeft asked on.next.now.plan (watched_in on.next.now) c.left.result in
    record {
      crossed = reverse c.self.inside.moment.rows ++ judges.before;
      crossing = judges.crossing;
      course = on.next;
      is = subst A c.in_default.ensures.same.asked
          (c.left.ensures on.next.now.plan (watched_in on.next.now) on.kept.pending);
    })

pub returns-clause-counts : goal.returns-clause-counts
returns-clause-counts c plan file =
    subst (λ (judge : JudgeView). Judges plan file judge → HasCounts plan file (record {
      rows = c.self.inside.rows;
      requests = c.judge_moment.new.self.requests;
      answered = c.judge_moment.new.self.answered;
    })) c.self.view_is
    (λ judges.
    let on = c.in_default.ensures.keeps plan judges.before judges.course judges.kept in
    record {
      crossed = reverse c.self.inside.moment.rows ++ judges.before;
      crossing = judges.crossing;
      course = on.next;
      rows = judges.rows;
      requests = on.kept.tallied.requests;
      answered = on.kept.tallied.answered;
    })

pub returns-in-Err-clause-fault_covers : goal.returns-in-Err-clause-fault_covers
returns-in-Err-clause-fault_covers c plan file =
    let tally = c.judge_moment.new.self in
    subst (λ (judge : JudgeView). Judges plan file judge → OfUnlawful (IsCoveredBefore plan file tally) c.in-Err.refusal)
    c.self.view_is
    (λ judges. of_unlawful _ _ c.in-Err.refusal (λ found stops. covered_before plan file _ tally found judges stops)
    (c.in-Err.ensures.fault_covered plan judges.before judges.course judges.kept))

pub returns-clause-covers : goal.returns-clause-covers
returns-clause-covers c plan file =
    let tally = c.judge_moment.new.self in
    subst (λ (judge : JudgeView). Judges plan file judge → IsCoveredFile plan file tally) c.self.view_is
    (λ judges. covered_file plan file _ tally _ _ _ judges c.len-rows.ensures.moment c.in_default.ensures.in_time
    (c.in_default.ensures.keeps plan judges.before judges.course judges.kept))
