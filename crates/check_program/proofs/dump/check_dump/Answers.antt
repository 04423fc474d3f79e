-- The names of the signals, or why there are none; and then the verdict over the rows.
use Rattle.std.proofs.Common.{inl}
use Rattle.std.proofs.KnownBytes.{Keeps-refl}
use Rattle.check_signals.specs.Names.{names_view}
use Rattle.check_waves.specs.Links.{wave_links_view}
use Rattle.check_program.specs.Engine.{GivenParts}
use Rattle.check_program.specs.declared.fault.CheckFault.TheVariants as check
use Rattle.check_program.proofs.DumpJudged.{dump_err, has_links, of_names}
use Rattle.check_program.proofs.dump.check_dump.Goals as goal

pub returns-in_err-names-clause-checked : goal.returns-in_err-names-clause-checked
returns-in_err-names-clause-checked g c = λ asked parts images known links is same.
    let given : GivenParts = record { file = c.args.file.now; parts = parts; images = images; capture = known } in
    dump_err asked given _ _ _ _ c.from_residual.ensures.1
    (of_names asked given _ c.args.links _ links c.in_err-names.ensures.fault)

pub returns-in_err-links-clause-checked : goal.returns-in_err-links-clause-checked
returns-in_err-links-clause-checked g c = λ asked parts images known links is same.
    let given : GivenParts = record { file = c.args.file.now; parts = parts; images = images; capture = known } in
    dump_err asked given _ _ _ check.Memory c.from_residual-in_err-links.ensures.1 (inl (Keeps-refl _))

pub returns-clause-checked : goal.returns-clause-checked
returns-clause-checked g c = λ asked parts images known links is same.
    let names = names_view c.in_ok-names.names in
    c.check_linked.ensures.checked asked c.args.file.now parts images known is
    (has_links asked c.args.file.now c.args.links names _ _ is.system (wave_links_view c.in_ok-links.links) links
    c.in_ok-names.ensures.named c.in_ok-names.ensures.all c.in_ok-links.ensures is.masters is.ports) same

pub returns-clause-covered : goal.returns-clause-covered
returns-clause-covered g c = λ asked parts images known links is same.
    let names = names_view c.in_ok-names.names in
    c.check_linked.ensures.covered asked c.args.file.now parts images known is
    (has_links asked c.args.file.now c.args.links names _ _ is.system (wave_links_view c.in_ok-links.links) links
    c.in_ok-names.ensures.named c.in_ok-names.ensures.all c.in_ok-links.ensures is.masters is.ports) same
