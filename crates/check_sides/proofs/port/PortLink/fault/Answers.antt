use Rattle.std.proofs.Common.{sym, subst}
use Rattle.check_watch.specs.declared.beat.Beat.{Beat}
use Rattle.check_watch.specs.declared.beat.Beat.TheVariants.{A, D}
use Rattle.check_watch.specs.declared.beat.Link.TheVariants.{Port}
use Rattle.check_watch.specs.declared.fault.Fault.TheVariants.{NotGiven}
use Rattle.check_watch.specs.declared.fault.Reason.{Reason}
use Rattle.check_watch.specs.Lawful.{IsFirstReason, IsFirstGroupFault}
use Rattle.check_watch.specs.Plan.{seen_at}
use Rattle.check_sides.proofs.PortSteps.{beyond_of}
use Rattle.check_sides.proofs.Telling.{tells_wrong, asks_tell, tells_other}
use Rattle.check_sides.proofs.port.PortLink.fault.Goals as goal

pub returns-in-A : goal.returns-in-A
returns-in-A c plan past same keeps =
    let port = c.args.port in
    let known = c.args.known in
    let lanes = c.args.lanes.now in
    let P : Beat → Reason → Type 0 =
    λ b r. IsFirstReason plan past (seen_at (Port port) b known lanes) r
    → IsFirstGroupFault plan past (seen_at (Port port) b known lanes) NotGiven in
    subst (λ (b : Beat). P b c.args.reason) (sym c.in-A.is)
    (subst (λ (r : Reason). P (A c.in-A.field-0) r) (sym c.in-WrongReply.is)
    (asks_tell plan port past c.args.self.now known lanes keeps NotGiven c.in-A.field-0))

pub returns-in-D : goal.returns-in-D
returns-in-D c plan past same keeps =
    let port = c.args.port in
    let known = c.args.known in
    let lanes = c.args.lanes.now in
    let fault = c.wrong_reply.result in
    let P : Beat → Reason → Type 0 =
    λ b r. IsFirstReason plan past (seen_at (Port port) b known lanes) r
    → IsFirstGroupFault plan past (seen_at (Port port) b known lanes) fault in
    subst (λ (b : Beat). P b c.args.reason) (sym c.in-D.is)
    (subst (λ (r : Reason). P (D c.in-D.beat) r) (sym c.in-WrongReply.is)
    (tells_wrong plan port past c.args.self.now known lanes keeps fault c.in-D.beat
    (c.wrong_reply.ensures plan.layout (beyond_of plan port past c.args.self.now known lanes keeps c.in-D.beat.source) same)))

pub returns-in_default : goal.returns-in_default
returns-in_default c plan past same keeps =
    tells_other plan c.args.port past c.args.self.now c.args.known c.args.lanes.now keeps c.fault_of.result
    c.args.beat.now c.args.reason c.in_default.not-WrongReply (c.fault_of.ensures c.in_default.not-WrongReply)
