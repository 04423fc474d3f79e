-- What is said of the answer, at the place where the text begins.
use Rattle.std.proofs.Common.{◌∙◌, Err, List, ℕ, [], IfOk, IfSome, ap, refl, subst}
use Rattle.check_records.specs.Text.{text_start}
use Rattle.check_review.specs.View.{Judges, is_asked, is_traced}
use Rattle.check_review.specs.Verdict.{SystemPlan}
use Rattle.check_text.specs.Out.{Finishes}
use Rattle.check_text.specs.Buses.{link_buses}
use Rattle.check_text.specs.Capture.{IsCovered}
use Rattle.check_text.specs.Fault.{of_record}
use Rattle.check_text.proofs.Answering.{Says, covered_judged, says_covered, says_fault, says_judged, says_verdict, says_written, told}
use Rattle.check_text.proofs.Stopped.{no_header, not_ok, says_not_made, says_stopped}
use Rattle.check_text.proofs.capture.judge_capture.Goals as goal

pub returns-in_err-records : goal.returns-in_err-records
returns-in_err-records g c =
    let known = g.R.Read.remaining c.args.reader in
    let buses = link_buses c.args.buses.now in
    let trace = is_traced c.args.judge.now in
    let asked = is_asked c.args.judge.now in
    let old = g.W.Write.contents c.args.writer.now.writer.now in
    let result = c.from_residual.result in
    let why = c.in_err-records.field-0.0 in
    let is = c.from_residual.ensures.1 in
    let says : (plan : SystemPlan) → IfSome known (λ text. Says asked trace plan buses old old result (text_start text)) = λ plan.
    says_not_made asked trace plan buses old known result why is
    (λ line same. c.in_err-records.ensures.kind line (ap Err same)) in
    record {
      verdict = λ plan start. says_verdict asked trace plan buses old old known result (says plan);
      fault = λ plan start. says_fault asked trace plan buses old old known result (says plan);
      covered = refl;
      covers = λ plan start. not_ok _ result (of_record why) is;
      same = refl;
      told = λ plan start. says_written asked trace plan buses old old known result (says plan);
    }

pub returns-in_err-read_header : goal.returns-in_err-read_header
returns-in_err-read_header g c =
    let known = g.R.Read.remaining c.args.reader in
    let buses = link_buses c.args.buses.now in
    let trace = is_traced c.args.judge.now in
    let asked = is_asked c.args.judge.now in
    let old = g.W.Write.contents c.args.writer.now.writer.now in
    let result = c.from_residual-in_err-read_header.result in
    let why = c.in_err-read_header.field-0.0 in
    let is = c.from_residual-in_err-read_header.ensures.1 in
    let a = c.in_ok-records.records.left in
    let b = c.read_header.new.records.left in
    let says : (plan : SystemPlan) → IfSome known (λ text. Says asked trace plan buses old old result (text_start text)) = λ plan.
    says_stopped asked trace plan buses old known result why is
    (told known a (Says asked trace plan buses old old (Err why)) c.in_ok-records.ensures.text
    c.in_ok-records.ensures.line (no_header asked trace plan buses old a b why c.in_err-read_header.ensures.fault)) in
    record {
      verdict = λ plan start. says_verdict asked trace plan buses old old known result (says plan);
      fault = λ plan start. says_fault asked trace plan buses old old known result (says plan);
      covered = refl;
      covers = λ plan start. not_ok _ result why is;
      same = refl;
      told = λ plan start. says_written asked trace plan buses old old known result (says plan);
    }

pub returns : goal.returns
returns g c =
    let contents = g.W.Write.contents in
    let known = g.R.Read.remaining c.args.reader in
    let buses = (link_buses c.args.buses.now) in
    let trace = is_traced c.args.judge.now in
    let asked = is_asked c.args.judge.now in
    let a = c.in_ok-records.records.left in
    let b = c.read_header.new.records.left in
    let old = contents c.args.writer.now.writer.now in
    let mid = contents c.judge_rows-answer.new.writer.writer.now in
    let new = contents c.finish.new.writer.writer.now in
    let result = c.finish.result in
    let left = c.judge_rows-answer.new.text.items in
    let tally = c.judge_rows-answer.new.judge.tally in
    let F : List ℕ → Type 0 = λ t. Finishes mid new t c.judge_rows-answer.result result in
    let says : (plan : SystemPlan) → Judges plan [] c.args.judge.now
    → IfSome known (λ text. Says asked trace plan buses old new result (text_start text)) = λ plan start.
    told known a (Says asked trace plan buses old new result) c.in_ok-records.ensures.text c.in_ok-records.ensures.line
    (says_judged plan buses a b old mid new left c.judge_rows-answer.result result c.args.judge.now tally start
    c.in_ok-read_header.ensures.ok c.judge_rows-answer.ensures.judged
    (subst F c.deref.ensures.value c.finish.ensures.finishes)) in
    record {
      verdict = λ plan start. says_verdict asked trace plan buses old new known result (says plan start);
      fault = λ plan start. says_fault asked trace plan buses old new known result (says plan start);
      covered = c.judge_rows-answer.ensures.covered;
      covers = λ plan start. says_covered plan buses tally known result
          (told known a (λ from. IfOk result (IsCovered plan buses from tally)) c.in_ok-records.ensures.text
          c.in_ok-records.ensures.line
          (covered_judged plan buses a b old mid new left c.judge_rows-answer.result result c.args.judge.now tally start
          c.in_ok-read_header.ensures.ok c.judge_rows-answer.ensures.judged
          (subst F c.deref.ensures.value c.finish.ensures.finishes)));
      same = c.finish.ensures.same ∙ c.judge_rows-answer.ensures.same;
      told = λ plan start. says_written asked trace plan buses old new known result (says plan start);
    }
