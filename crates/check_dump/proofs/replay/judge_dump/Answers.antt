-- What becomes of the dump, after what is left of the text was written.
use Rattle.std.proofs.Common.{List, ℕ, subst}
use Rattle.check_text.specs.Buses.{link_buses}
use Rattle.check_dump.specs.Lines.{coming}
use Rattle.check_dump.specs.Replay.{ReplayFinishes}
use Rattle.check_dump.proofs.ReplayLemmas.{says_counted, says_replayed}
use Rattle.check_dump.proofs.replay.judge_dump.Goals as goal

pub returns-clause-replayed : goal.returns-clause-replayed
returns-clause-replayed g c = λ plan start.
    let contents = g.W.Write.contents in
    let F : List ℕ → Type 0 = λ text. ReplayFinishes (contents c.judge_lines-answer.new.writer.writer.now)
    (contents c.finish.new.writer.writer.now) text c.judge_lines-answer.result c.finish.result in
    says_replayed plan (link_buses c.args.buses.now) c.args.judge.now c.judge_lines-answer.new.judge.tally
    (contents c.args.writer.now.writer.now) (contents c.judge_lines-answer.new.writer.writer.now)
    (contents c.finish.new.writer.writer.now) c.judge_lines-answer.new.told.items c.judge_lines-answer.result c.finish.result
    start (subst F c.deref.ensures.value c.finish.ensures.finishes) c.args.rows (coming c.new-lines.result) c.new-lines.ensures.coming c.judge_lines-answer.ensures.judged

pub returns-clause-covers : goal.returns-clause-covers
returns-clause-covers g c = λ plan start.
    let contents = g.W.Write.contents in
    let F : List ℕ → Type 0 = λ text. ReplayFinishes (contents c.judge_lines-answer.new.writer.writer.now)
    (contents c.finish.new.writer.writer.now) text c.judge_lines-answer.result c.finish.result in
    says_counted plan (link_buses c.args.buses.now) c.args.judge.now c.judge_lines-answer.new.judge.tally
    (contents c.args.writer.now.writer.now) (contents c.judge_lines-answer.new.writer.writer.now)
    (contents c.finish.new.writer.writer.now) c.judge_lines-answer.new.told.items c.judge_lines-answer.result c.finish.result
    start (subst F c.deref.ensures.value c.finish.ensures.finishes) c.args.rows (coming c.new-lines.result) c.new-lines.ensures.coming c.judge_lines-answer.ensures.judged
