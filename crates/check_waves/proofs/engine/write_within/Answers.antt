-- What was written of a system and a dump.
use Rattle.check_waves.proofs.OpenLemmas.{refused-system}
use Rattle.check_waves.proofs.engine.write_within.Goals as goal

pub returns-in_err-links-clause-written : goal.returns-in_err-links-clause-written
returns-in_err-links-clause-written g c =
    refused-system (g.D.Read.remaining c.args.dump) c.from_residual.result c.in_err-links.field-0.0
    (g.S.Read.remaining c.args.reader.now.reader.now) (g.S.Read.remaining c.read_links.new.reader.reader.now)
    (g.W.Write.contents c.args.writer.now.writer.now) c.from_residual.ensures.1 c.in_err-links.ensures.fault

pub returns-clause-written : goal.returns-clause-written
returns-clause-written g c = c.write_linked.ensures.written _ _ c.in_ok-links.ensures.ok
