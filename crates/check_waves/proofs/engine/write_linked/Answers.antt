-- What was written of the links of a system and a dump.
use Rattle.check_waves.proofs.OpenLemmas.{captured, refused-dump}
use Rattle.check_waves.proofs.engine.write_linked.Goals as goal

pub returns-in_err-rows-clause-written : goal.returns-in_err-rows-clause-written
returns-in_err-rows-clause-written g c read_old read_new given =
    refused-dump (g.D.Read.remaining c.args.dump) c.from_residual.result c.in_err-rows.field-0.0 _ read_old read_new
    (g.W.Write.contents c.args.writer.now.writer.now) c.from_residual.ensures.1 given c.in_err-rows.ensures.fault

pub returns-clause-written : goal.returns-clause-written
returns-clause-written g c read_old read_new given =
    captured (g.D.Read.remaining c.args.dump) _ c.write_rows-answer.result c.end_capture.result _ read_old read_new
    (g.W.Write.contents c.args.writer.now.writer.now) (g.W.Write.contents c.write_rows-answer.new.writer.writer.now)
    (g.W.Write.contents c.end_capture.new.writer.writer.now) given c.in_ok-rows.ensures.ok
    c.write_rows-answer.ensures.written c.end_capture.ensures.ends
