-- The verdict over the rows of the dump, or why there is none, and what was written for that.
use Rattle.std.proofs.Common.{◌≡◌, ◌∙◌, Bool, IfOk, ap, inr, subst}
use Rattle.std.proofs.KnownBytes.{Keeps-refl}
use Rattle.check_rows.specs.PortNumbers.{numbers_in}
use Rattle.check_start.specs.Start.{system_names}
use Rattle.check_waves.specs.Links.{wave_links_view}
use Rattle.check_program.specs.Engine.{GivenParts, is_lawful, line_of}
use Rattle.check_program.specs.Fault.{of_replay, of_wave}
use Rattle.check_program.specs.declared.fault.CheckFault.TheVariants as check
use Rattle.check_program.proofs.DumpJudged.{dump_counted, dump_counted_if, dump_err, is_answered, of_stopped_dump, of_unopened, told_dump}
use Rattle.check_program.proofs.Judged.{as_known, buses_are, of_prepared}
use Rattle.check_program.proofs.dump.check_linked.Goals as goal

pub returns-in_err-rows-clause-checked : goal.returns-in_err-rows-clause-checked
returns-in_err-rows-clause-checked g c = λ asked file parts images known is has same.
    let given : GivenParts = record { file = file; parts = parts; images = images; capture = known } in
    let fault = c.in_err-rows.field-0.0 in
    dump_err asked given _ _ _ (of_wave fault) c.from_residual.ensures.1
    (of_unopened asked given _ is.system (wave_links_view c.args.links.now) fault is.made has
    (as_known known (g.D.Read.remaining c.args.dump) _ same c.in_err-rows.ensures.fault))

pub returns-in_err-verdict-clause-checked : goal.returns-in_err-verdict-clause-checked
returns-in_err-verdict-clause-checked g c = λ asked file parts images known is has same.
    let given : GivenParts = record { file = file; parts = parts; images = images; capture = known } in
    let of_it = of_prepared asked given c.args.prepared.now _ is
    (buses_are asked.terms.links _ _ _ _ is.system (c.deref.ensures.value ∙ is.masters)
    (c.deref-2.ensures.value ∙ is.ports) is.resets (ap numbers_in c.deref-3.ensures.value ∙ is.numbers)) in
    let opened = as_known known (g.D.Read.remaining c.args.dump) _ same c.in_ok-rows.ensures.ok in
    let fault = c.in_err-verdict.field-0.0 in
    dump_err asked given _ _ _ (of_replay fault) c.from_residual-in_err-verdict.ensures.1
    (of_stopped_dump asked given _ _ fault (record {
      system = is.system;
      made = is.made;
      is = is_answered asked given is.system _ _ of_it (wave_links_view c.args.links.now) _ has opened _ _ _
          c.in_err-verdict.ensures.replayed;
    }))

pub returns-in_err-append_coverage-clause-checked : goal.returns-in_err-append_coverage-clause-checked
returns-in_err-append_coverage-clause-checked g c = λ asked file parts images known is has same.
    let given : GivenParts = record { file = file; parts = parts; images = images; capture = known } in
    let of_it = of_prepared asked given c.args.prepared.now _ is
    (buses_are asked.terms.links _ _ _ _ is.system (c.deref.ensures.value ∙ is.masters)
    (c.deref-2.ensures.value ∙ is.ports) is.resets (ap numbers_in c.deref-3.ensures.value ∙ is.numbers)) in
    let opened = as_known known (g.D.Read.remaining c.args.dump) _ same c.in_ok-rows.ensures.ok in
    dump_err asked given _ _ _ check.Memory c.from_residual-in_err-append_coverage.ensures.1
    (inr (inr (record {
      system = is.system;
      made = is.made;
      verdict = c.in_ok-verdict.verdict;
      told = _;
      is = is_answered asked given is.system _ _ of_it (wave_links_view c.args.links.now) _ has opened _ _ _
          c.in_ok-verdict.ensures.replayed;
      line = Keeps-refl _;
    })))

pub returns-clause-checked : goal.returns-clause-checked
returns-clause-checked g c = λ asked file parts images known is has same.
    let given : GivenParts = record { file = file; parts = parts; images = images; capture = known } in
    let of_it = of_prepared asked given c.args.prepared.now _ is
    (buses_are asked.terms.links _ _ _ _ is.system (c.deref.ensures.value ∙ is.masters)
    (c.deref-2.ensures.value ∙ is.ports) is.resets (ap numbers_in c.deref-3.ensures.value ∙ is.numbers)) in
    let opened = as_known known (g.D.Read.remaining c.args.dump) _ same c.in_ok-rows.ensures.ok in
    let verdict = c.in_ok-verdict.verdict in
    let P : Bool → Type 0 = λ b. IfOk c.tell.result (λ lawful. lawful ≡ is_lawful b verdict) in
    told_dump asked given _ _ _ is.system verdict is.made
    (is_answered asked given is.system _ _ of_it (wave_links_view c.args.links.now) _ has opened _ _ _
    c.in_ok-verdict.ensures.replayed) _ c.tell.result
    (ap (λ n. line_of c.args.prepared.now.complete n verdict) is.names
    ∙ ap (λ b. line_of b (system_names is.system) verdict) is.told)
    (subst P is.told c.tell.ensures.answered) c.tell.ensures.written c.tell.ensures.fault

pub returns-clause-covered : goal.returns-clause-covered
returns-clause-covered g c = λ asked file parts images known is has same.
    let given : GivenParts = record { file = file; parts = parts; images = images; capture = known } in
    let of_it = of_prepared asked given c.args.prepared.now _ is
    (buses_are asked.terms.links _ _ _ _ is.system (c.deref.ensures.value ∙ is.masters)
    (c.deref-2.ensures.value ∙ is.ports) is.resets (ap numbers_in c.deref-3.ensures.value ∙ is.numbers)) in
    let opened = as_known known (g.D.Read.remaining c.args.dump) _ same c.in_ok-rows.ensures.ok in
    let verdict = c.in_ok-verdict.verdict in
    let P : Bool → Type 0 = λ b. IfOk c.tell.result (λ lawful. lawful ≡ is_lawful b verdict) in
    dump_counted_if asked given _ _ (is_lawful asked.complete verdict) c.tell.result
    (subst P is.told c.tell.ensures.answered)
    (dump_counted asked given is.system _ _ of_it (wave_links_view c.args.links.now) _ has opened _ _ _ _ verdict is.made
    c.in_ok-verdict.ensures.covered c.in_ok-verdict.ensures.covers
    c.in_ok-append_coverage.ensures.told)
