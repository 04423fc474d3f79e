-- The rows are those of what happens after the header.
use Rattle.std.proofs.Common.{map, option_map}
use Rattle.std.specs.Option.{IfSome}
use Rattle.check_vcd.specs.Header.{var_view}
use Rattle.check_waves.specs.Capture.{IsUnopened, found_among}
use Rattle.check_waves.specs.Fault.{of_signal}
use Rattle.check_waves.specs.Links.{wave_links_view}
use Rattle.check_waves.proofs.OpenLemmas.{fails-by, found-is, fresh-is, opened-rows, unopened-signal}
use Rattle.check_waves.proofs.engine.sampler_of.Goals as goal

pub returns-in_err-resolved-clause-fault : goal.returns-in_err-resolved-clause-fault
returns-in_err-resolved-clause-fault g c text opens =
    let links = wave_links_view c.args.links.now in
    let fault = c.in_err-resolved.field-0.0 in
    fails-by c.from_residual.result (of_signal fault) (λ f. IfSome text (IsUnopened links f))
    c.from_residual.ensures.1
    (unopened-signal links text (map var_view c.args.vars.now) c.args.dump.now fault opens
    (rw (c.deref.ensures.value, c.deref-2.ensures.value) at c.in_err-resolved.ensures))

pub returns-clause-ok : goal.returns-clause-ok
returns-clause-ok g c text opens =
    let links = wave_links_view c.args.links.now in
    let vars = map var_view c.args.vars.now in
    let resolved = c.in_ok-resolved.resolved in
    let f = found-is (found_among vars links) resolved
    (rw (c.deref.ensures.value, c.deref-2.ensures.value) at c.in_ok-resolved.ensures) in
    let is = f.2 in
    opened-rows links text vars
    c.args.dump.now c.keep_all.new.dump (map (λ code. option_map (λ code. code.items) code) c.deref-3.result.now)
    f.0 c.in_ok-new.field-0
    opens c.in_ok-keep_all.ensures.words c.in_ok-keep_all.ensures.body c.in_ok-keep_all.ensures.kept
    (rw c.deref-3.ensures.value is.codes)
    (fresh-is c.in_ok-new.field-0 resolved f.0 is c.in_ok-new.ensures)
    f.1
