use Rattle.std.proofs.Common.{◌≡◌, ◌∙◌, Option, Some, None, ap, sym, subst}
use Rattle.std.specs.Prelude.{IsSomeAnd, option_map}
use Rattle.check_beats.specs.Form.{FitsReply, HasReplyFormFault}
use Rattle.check_beats.specs.Rules.{IsMarkedBy}
use Rattle.check_beats.specs.State.{first_reply}
use Rattle.check_flight.specs.declared.answer.Answer.{Answer}
use Rattle.check_watch.specs.declared.beat.Beat.TheVariants.{D}
use Rattle.check_watch.specs.declared.fault.Fault.TheVariants.{WrongReply}
use Rattle.check_watch.specs.declared.fault.Reason.TheVariants as reasons
use Rattle.check_watch.specs.Faults.{IsWrongReply, IsFirstReplyReason}
use Rattle.check_watch.specs.Plan.{IsWideAt}
use Rattle.check_watch.specs.View.{under_in, scene_in, due_in}
use Rattle.check_watch.proofs.Replying.{carried_here, found_here, no_form_before, none_or_due}
use Rattle.check_watch.proofs.replies.wrong_reply.Goals as goal

pub returns-in-Some : goal.returns-in-Some
returns-in-Some c plan suits first =
    let view = c.args.watch.now in
    let link = c.args.link in
    let beat = c.args.beat.now in
    let has : HasReplyFormFault view.layout.rules (first_reply (under_in view link).replying) beat c.in-Some._fault =
    rw (← c.rules.ensures, ← c.link-under.ensures) c.in-Some.ensures.fault.applies in
    no_form_before view.layout link (scene_in plan view link (D beat)) beat c.args.known c.args.lanes.now c.in-Some._fault first has

pub returns-in-Some-due : goal.returns-in-Some-due
returns-in-Some-due c plan suits first =
    let view = c.args.watch.now in
    let link = c.args.link in
    let beat = c.args.beat.now in
    let known = c.args.known in
    let lanes = c.args.lanes.now in
    let wide = c.from-wide.result in
    let at : IsWideAt view.layout link beat.source wide =
    rw c.from-wide.ensures ((c.wide.ensures.wide c.in-Some-wide.source).0 c.in-Some-wide.is) in
    let port = c.port_in_flight-port.result in
    let port_here = c.port_in_flight-port.ensures.port plan beat suits in
    let fits : FitsReply (first_reply (under_in view link).replying) beat =
    rw (← c.link-under.ensures) c.in_default.ensures.fits in
    let marked : IsMarkedBy view.layout.rules beat = rw (← c.rules.ensures) c.in_default.ensures.marked in
    let is : Some c.in-Some-due.due.now ≡ due_in view link wide port =
    sym (ap (λ o. option_map (λ a. a.now) o) c.in-Some-due.is) ∙ c.due.ensures in
    let told : IsSomeAnd (due_in view link wide port) (λ answer. answer.reply ≡ c.copy.result) =
    subst (λ (o : Option Answer). IsSomeAnd o (λ answer. answer.reply ≡ c.copy.result)) is (sym c.copy.ensures) in
    carried_here plan view link beat known lanes wide port suits at port_here fits marked
    (λ s. IsWrongReply s beat known lanes (WrongReply c.copy.result c.capture.new.reply)) (told, c.capture.ensures)

pub returns-in-None : goal.returns-in-None
returns-in-None c plan suits first =
    let view = c.args.watch.now in
    let link = c.args.link in
    let beat = c.args.beat.now in
    let known = c.args.known in
    let lanes = c.args.lanes.now in
    let wide = c.from-wide.result in
    let at : IsWideAt view.layout link beat.source wide =
    rw c.from-wide.ensures ((c.wide.ensures.wide c.in-Some-wide.source).0 c.in-Some-wide.is) in
    let port = c.port_in_flight-port.result in
    let port_here = c.port_in_flight-port.ensures.port plan beat suits in
    let fits : FitsReply (first_reply (under_in view link).replying) beat =
    rw (← c.link-under.ensures) c.in_default.ensures.fits in
    let marked : IsMarkedBy view.layout.rules beat = rw (← c.rules.ensures) c.in_default.ensures.marked in
    let is : None ≡ due_in view link wide port =
    sym (ap (λ o. option_map (λ a. a.now) o) c.in-None.is) ∙ c.due.ensures in
    let here = found_here plan view link beat known lanes wide port suits at port_here fits marked
    (λ s. IsFirstReplyReason view.layout link s beat known lanes reasons.WrongReply) first in
    absurd (none_or_due (due_in view link wide port) is here.applies.1.1)
