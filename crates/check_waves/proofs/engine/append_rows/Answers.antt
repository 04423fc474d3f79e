-- What was due stands behind the text.
use Rattle.check_samples.specs.Due.{due_text}
use Rattle.check_waves.proofs.DueLemmas.{appended-on, appended-stop}
use Rattle.check_waves.proofs.engine.append_rows.Goals as goal

pub returns-clause-ok : goal.returns-clause-ok
returns-clause-ok g c =
    rw c.in_ok-push_text.ensures
    (appended-on c.args.text.now.items (due_text c.read-answer.new.due) c.args.rows.now c.read-answer.new.self
    c.read-answer.result (rw c.clear.ensures at c.read-answer.ensures.ok))

pub returns-clause-fault : goal.returns-clause-fault
returns-clause-fault g c =
    rw c.in_ok-push_text.ensures
    (appended-stop c.args.text.now.items (due_text c.read-answer.new.due) c.args.rows.now c.read-answer.result
    (rw c.clear.ensures at c.read-answer.ensures.fault))
