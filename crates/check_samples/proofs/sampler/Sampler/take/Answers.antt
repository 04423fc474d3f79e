-- A value changes, changes are told again, or a time begins.
use Rattle.std.proofs.Common.{◌≡◌, Ok, Err, false, true, rules, sym, ◌∙◌}
use Rattle.check_samples.specs.Due.{due_text}
use Rattle.check_samples.specs.EdgeFault.{some_crossed}
use Rattle.check_samples.specs.Rows.{Writes}
use Rattle.check_samples.specs.Sampling.{is_at, rows_now}
use Rattle.check_samples.proofs.TakeLemmas.{takes-none, takes-resume, takes-same, takes-time, takes-value}
use Rattle.check_samples.proofs.sampler.Sampler.take.Goals as goal

pub returns-in_ok-change-in-Change-clause-rows : goal.returns-in_ok-change-in-Change-clause-rows
returns-in_ok-change-in-Change-clause-rows c = λ rest.
    rw c.in-Change.is (takes-value (due_text c.args.due.now) c.args.self.now c.change.new.self c.in-Change.slot
    c.args.digits.now rest c.in_ok-change-in-Change.ensures)

pub returns-else-some_crossed-clause-rows : goal.returns-else-some_crossed-clause-rows
returns-else-some_crossed-clause-rows c = λ rest.
    let joined : some_crossed c.args.self.now.watched ≡ false = search rules in
    rw c.in-Resume.is (takes-resume (due_text c.args.due.now) c.args.self.now c.in-Resume.line rest joined)

pub returns-in_ok-begin-in-Ok-clause-rows : goal.returns-in_ok-begin-in-Ok-clause-rows
returns-in_ok-begin-in-Ok-clause-rows c = λ rest.
    let old = c.args.self.now in
    let not : is_at old c.in-Time.time ≡ false = sym c.is_at.ensures ∙ c.if-not-is_at.true in
    let writes : Writes (Ok tt) (due_text c.args.due.now) (due_text c.push_rows.new.due) (rows_now old) =
    rw c.in-Ok.is at c.push_rows.ensures.writes in
    rw c.in-Time.is (takes-time (due_text c.args.due.now) (due_text c.push_rows.new.due) old c.begin.new.self c.in-Time.time rest
    not writes (rw c.push_rows.ensures.same at c.in_ok-begin-in-Ok.ensures))

pub returns-in-Err-clause-rows : goal.returns-in-Err-clause-rows
returns-in-Err-clause-rows c = λ rest.
    let old = c.args.self.now in
    let not : is_at old c.in-Time.time ≡ false = sym c.is_at.ensures ∙ c.if-not-is_at.true in
    let writes : Writes (Err c.in-Err.fault) (due_text c.args.due.now) (due_text c.push_rows.new.due) (rows_now old) =
    rw c.in-Err.is at c.push_rows.ensures.writes in
    rw c.in-Time.is (takes-none (due_text c.args.due.now) (due_text c.push_rows.new.due) old c.push_rows.new.self c.in-Time.time rest
    c.in-Err.fault not writes)

pub returns-else-not-is_at-clause-rows : goal.returns-else-not-is_at-clause-rows
returns-else-not-is_at-clause-rows c = λ rest.
    let same : is_at c.args.self.now c.in-Time.time ≡ true = sym c.is_at.ensures ∙ c.if-not-is_at.false in
    rw c.in-Time.is (takes-same (due_text c.args.due.now) c.args.self.now c.in-Time.time rest same)
