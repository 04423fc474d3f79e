use Rattle.std.proofs.Common.{sym}
use Rattle.tl_audit.specs.Agrees.{journals_in}
use Rattle.tl_audit.proofs.Pairs.{recorded_just}
use Rattle.tl_audit.proofs.recorded.is_recorded.Goals as goal

pub returns : goal.returns
returns c =
    recorded_just c.args.sources.now
    (journals_in c.args.histories.now) c.args.master c.args.entry.now c.in-Some.wide c.read_pair.new.pair c.is_pair.result
    (rw c.source.ensures at c.in-Some.ensures)
    (sym (c.read_pair.ensures.found c.if-not-read_pair.false)) c.is_pair.ensures
