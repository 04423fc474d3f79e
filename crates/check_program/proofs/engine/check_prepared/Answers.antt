-- The verdict or the fault is that of the system, and what was written is what is told with it.
use Rattle.std.proofs.Common.{◌≡◌, ◌∙◌, Bool, IfOk, ap, inr, subst}
use Rattle.std.proofs.KnownBytes.{Keeps-refl}
use Rattle.check_program.proofs.Failing.{checked_by, of_stopped, told_checked}
use Rattle.check_program.proofs.Judged.{as_known, buses_are, counted_if, has_verdict, is_counted, is_stopped, of_prepared}
use Rattle.check_rows.specs.PortNumbers.{numbers_in}
use Rattle.check_start.specs.Start.{system_names}
use Rattle.check_program.specs.Engine.{GivenParts, is_lawful, line_of}
use Rattle.check_program.specs.Fault.{of_capture}
use Rattle.check_program.specs.declared.fault.CheckFault.TheVariants as check
use Rattle.check_program.proofs.engine.check_prepared.Goals as goal

pub returns-in_err-verdict-clause-checked : goal.returns-in_err-verdict-clause-checked
returns-in_err-verdict-clause-checked g c = λ asked file parts images known is same.
    let given : GivenParts = record { file = file; parts = parts; images = images; capture = known } in
    let text = g.C.Read.remaining c.args.capture in
    let of_it = of_prepared asked given c.args.prepared.now _ is
    (buses_are asked.terms.links _ _ _ _ is.system (c.deref.ensures.value ∙ is.masters)
    (c.deref-2.ensures.value ∙ is.ports) is.resets (ap numbers_in c.deref-3.ensures.value ∙ is.numbers)) in
    let fault = c.in_err-verdict.field-0.0 in
    let stopped = is_stopped _ _ is.system _ _ _ _ fault of_it is.made
    (λ plan start. as_known known text _ same (c.in_err-verdict.ensures.fault plan start))
    (λ plan start. as_known known text _ same (c.in_err-verdict.ensures.told plan start)) in
    checked_by _ _ _ _ _ (of_capture fault) c.from_residual.ensures.1 (of_stopped _ _ _ _ fault stopped)

pub returns-in_err-append_coverage-clause-checked : goal.returns-in_err-append_coverage-clause-checked
returns-in_err-append_coverage-clause-checked g c = λ asked file parts images known is same.
    let given : GivenParts = record { file = file; parts = parts; images = images; capture = known } in
    let text = g.C.Read.remaining c.args.capture in
    let of_it = of_prepared asked given c.args.prepared.now _ is
    (buses_are asked.terms.links _ _ _ _ is.system (c.deref.ensures.value ∙ is.masters)
    (c.deref-2.ensures.value ∙ is.ports) is.resets (ap numbers_in c.deref-3.ensures.value ∙ is.numbers)) in
    let verdict = c.in_ok-verdict.verdict in
    let has = has_verdict _ _ is.system _ _ _ _ verdict of_it is.made
    (λ plan start. as_known known text _ same (c.in_ok-verdict.ensures.verdict plan start))
    (λ plan start. as_known known text _ same (c.in_ok-verdict.ensures.told plan start)) in
    checked_by _ _ _ _ _ check.Memory c.from_residual-in_err-append_coverage.ensures.1
    (inr (inr (record { system = is.system; verdict = verdict; told = _; has = has; line = Keeps-refl _ })))

pub returns-clause-checked : goal.returns-clause-checked
returns-clause-checked g c = λ asked file parts images known is same.
    let given : GivenParts = record { file = file; parts = parts; images = images; capture = known } in
    let text = g.C.Read.remaining c.args.capture in
    let of_it = of_prepared asked given c.args.prepared.now _ is
    (buses_are asked.terms.links _ _ _ _ is.system (c.deref.ensures.value ∙ is.masters)
    (c.deref-2.ensures.value ∙ is.ports) is.resets (ap numbers_in c.deref-3.ensures.value ∙ is.numbers)) in
    let verdict = c.in_ok-verdict.verdict in
    let has = has_verdict _ _ is.system _ _ _ _ verdict of_it is.made
    (λ plan start. as_known known text _ same (c.in_ok-verdict.ensures.verdict plan start))
    (λ plan start. as_known known text _ same (c.in_ok-verdict.ensures.told plan start)) in
    let P : Bool → Type 0 = λ b. IfOk c.tell.result (λ lawful. lawful ≡ is_lawful b verdict) in
    told_checked _ _ _ _ _ is.system verdict has _ c.tell.result
    (ap (λ n. line_of c.args.prepared.now.complete n verdict) is.names
    ∙ ap (λ b. line_of b (system_names is.system) verdict) is.told)
    (subst P is.told c.tell.ensures.answered) c.tell.ensures.written c.tell.ensures.fault

pub returns-clause-covered : goal.returns-clause-covered
returns-clause-covered g c = λ asked file parts images known is same.
    let given : GivenParts = record { file = file; parts = parts; images = images; capture = known } in
    let text = g.C.Read.remaining c.args.capture in
    let of_it = of_prepared asked given c.args.prepared.now _ is
    (buses_are asked.terms.links _ _ _ _ is.system (c.deref.ensures.value ∙ is.masters)
    (c.deref-2.ensures.value ∙ is.ports) is.resets (ap numbers_in c.deref-3.ensures.value ∙ is.numbers)) in
    let verdict = c.in_ok-verdict.verdict in
    let has = has_verdict _ _ is.system _ _ _ _ verdict of_it is.made
    (λ plan start. as_known known text _ same (c.in_ok-verdict.ensures.verdict plan start))
    (λ plan start. as_known known text _ same (c.in_ok-verdict.ensures.told plan start)) in
    let P : Bool → Type 0 = λ b. IfOk c.tell.result (λ lawful. lawful ≡ is_lawful b verdict) in
    counted_if _ _ _ _ (is_lawful asked.complete verdict) c.tell.result (subst P is.told c.tell.ensures.answered)
    (is_counted _ _ is.system _ _ _ _ _ _ verdict of_it is.made has.is c.in_ok-verdict.ensures.covered
    (λ plan start. as_known known text _ same (c.in_ok-verdict.ensures.covers plan start))
    c.in_ok-append_coverage.ensures.told)
