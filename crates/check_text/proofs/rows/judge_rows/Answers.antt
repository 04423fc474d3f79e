-- The last rows are lawful, or are refused.
use Rattle.std.proofs.Common.{refl}
use Rattle.check_text.specs.Buses.{link_buses}
use Rattle.check_text.proofs.Answering.{ends_lawful, ends_refused}
use Rattle.check_text.proofs.rows.judge_rows.Goals as goal

pub returns-in-Ok-clause-judged : goal.returns-in-Ok-clause-judged
returns-in-Ok-clause-judged g c =
    let contents = g.W.Write.contents in
    rw c.verdict_at_end.ensures
    (ends_lawful (link_buses c.args.buses.now) c.args.judge.now c.take_rows.new.judge c.end.new.self.tally (contents c.args.writer.now.writer.now)
    (contents c.take_rows.new.writer.writer.now)
    c.take_rows.new.text.items c.end.new.text.items c.args.records.now.left c.take_rows.new.records.left c.in_default.ensures.ok c.in-Ok.ending.counts c.in-Ok.ending.left
    (λ plan rows judges. (
      c.in-Ok.ensures.lawful plan rows judges,
      c.in-Ok.ensures.counts plan rows judges,
      c.in-Ok.ensures.left plan rows judges,
    ))
    (λ plan rows judges. c.in-Ok.ensures.covers plan rows judges)
    (λ plan rows so_far has. c.in-Ok.ensures.told plan rows so_far has))

pub returns-in-Err-end-clause-judged : goal.returns-in-Err-end-clause-judged
returns-in-Err-end-clause-judged g c =
    let contents = g.W.Write.contents in
    rw c.verdict_refused.ensures
    (ends_refused (link_buses c.args.buses.now) c.args.judge.now c.take_rows.new.judge c.end.new.self.tally (contents c.args.writer.now.writer.now)
    (contents c.take_rows.new.writer.writer.now)
    c.take_rows.new.text.items c.end.new.text.items c.args.records.now.left c.take_rows.new.records.left c.in_default.ensures.ok c.in-Err-end.refusal
    (λ plan rows judges. c.in-Err-end.ensures.fault plan rows judges)
    (λ plan rows judges. c.in-Err-end.ensures.fault_covers plan rows judges)
    (λ plan rows so_far has. c.in-Err-end.ensures.fault_told plan rows so_far has))
