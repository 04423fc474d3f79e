-- What becomes of the dump at the end of its lines.
use Rattle.std.proofs.Common.{◌∙◌, sym}
use Rattle.check_text.specs.Buses.{link_buses}
use Rattle.check_dump.specs.Lines.{coming}
use Rattle.check_dump.proofs.ReplayLemmas.{ends_judged}
use Rattle.check_dump.proofs.replay.judge_lines.Goals as goal

pub returns-in-Some-clause-judged : goal.returns-in-Some-clause-judged
returns-in-Some-clause-judged g c =
    let contents = g.W.Write.contents in
    ends_judged (link_buses c.args.buses.now) c.args.judge.now c.take_lines.new.judge c.in-Ok.place
    (contents c.args.writer.now.writer.now) (contents c.take_lines.new.writer.writer.now) c.take_lines.new.told.items
    c.take_lines.new.lines.ended (coming c.args.lines.now) c.in-Ok.ensures.ok
    c.end_lines.new.judge.tally c.in-Some.end c.end_lines.new.told.items c.end_lines.result
    (sym c.take_end.ensures ∙ c.in-Some.is) c.end_lines.ensures.ended
