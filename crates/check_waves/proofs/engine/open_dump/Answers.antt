-- The rows are those of what happens after the header.
use Rattle.std.specs.Option.{IfSome}
use Rattle.check_waves.specs.Capture.{IsUnopened}
use Rattle.check_waves.specs.Fault.{of_dump}
use Rattle.check_waves.specs.Links.{wave_links_view}
use Rattle.check_waves.proofs.OpenLemmas.{fails-by, unopened-dump}
use Rattle.check_waves.proofs.engine.open_dump.Goals as goal

pub returns-in_err-vars-clause-fault : goal.returns-in_err-vars-clause-fault
returns-in_err-vars-clause-fault g c =
    let text = g.D.Read.remaining c.args.reader in
    let links = wave_links_view c.args.links.now in
    let fault = c.in_err-vars.field-0.0 in
    fails-by c.from_residual.result (of_dump fault) (λ f. IfSome text (IsUnopened links f))
    c.from_residual.ensures.1
    (unopened-dump links text fault (λ line mistake is. c.open.ensures.wrong line mistake (cc (c.in_err-vars.was, is))))
