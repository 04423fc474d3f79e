use Rattle.std.proofs.Common.{sym, subst}
use Rattle.std.specs.Prelude.{◌∷◌, IfNone, IfSome}
use Rattle.check_watch.specs.declared.beat.Beat.{Beat}
use Rattle.check_watch.specs.declared.beat.Beat.TheVariants.{A, D}
use Rattle.check_watch.specs.declared.beat.Link.TheVariants.{Port}
use Rattle.check_watch.specs.declared.fault.Reason.{Reason}
use Rattle.check_watch.specs.Allowed.{IsAllowedAsk, IsAllowedReply}
use Rattle.check_watch.specs.Faults.{IsFirstAskReason, IsFirstReplyReason}
use Rattle.check_watch.specs.Lawful.{IsFirstReason, IsLawfulGroup}
use Rattle.check_watch.specs.Plan.{seen_at}
use Rattle.check_watch.specs.Scene.{Scene}
use Rattle.check_sides.proofs.Outcomes.{if_none, if_some}
use Rattle.check_sides.proofs.PortSteps.{beyond_of, carried}
use Rattle.check_sides.proofs.port.PortLink.reason.Goals as goal

pub returns-in-A-clause-reason : goal.returns-in-A-clause-reason
returns-in-A-clause-reason c plan past own keeps =
    let port = c.args.port in
    let view = c.args.self.now in
    let known = c.args.known in
    let lanes = c.args.lanes.now in
    let beat = c.in-A.beat in
    let P : Beat → Type 0 =
    λ b. IfSome c.ask_reason.result (IsFirstReason plan past (seen_at (Port port) b known lanes)) in
    subst P (sym c.in-A.is) (if_some c.ask_reason.result
    (λ (reason : Reason). carried plan port past view known lanes keeps (A beat)
    (λ (s : Scene). IsFirstAskReason plan.layout (Port port) s beat known lanes reason))
    (c.ask_reason.ensures.reason plan.layout
    (beyond_of plan port past view known lanes keeps beat.source) lanes own))

pub returns-in-A-clause-allowed : goal.returns-in-A-clause-allowed
returns-in-A-clause-allowed c plan past own keeps =
    let port = c.args.port in
    let view = c.args.self.now in
    let known = c.args.known in
    let lanes = c.args.lanes.now in
    let beat = c.in-A.beat in
    let P : Beat → Type 0 =
    λ b. IfNone c.ask_reason.result (IsLawfulGroup plan (seen_at (Port port) b known lanes ∷ past)) in
    subst P (sym c.in-A.is) (if_none c.ask_reason.result (λ allowed. (
      keeps.lawful,
      carried plan port past view known lanes keeps (A beat)
          (λ (s : Scene). IsAllowedAsk plan.layout (Port port) s beat known lanes) allowed,
    )) (c.ask_reason.ensures.allowed plan.layout
    (beyond_of plan port past view known lanes keeps beat.source) lanes own))

pub returns-in-D-clause-reason : goal.returns-in-D-clause-reason
returns-in-D-clause-reason c plan past own keeps =
    let port = c.args.port in
    let view = c.args.self.now in
    let known = c.args.known in
    let lanes = c.args.lanes.now in
    let beat = c.in-D.beat in
    let P : Beat → Type 0 =
    λ b. IfSome c.reply_reason.result (IsFirstReason plan past (seen_at (Port port) b known lanes)) in
    subst P (sym c.in-D.is) (if_some c.reply_reason.result
    (λ (reason : Reason). carried plan port past view known lanes keeps (D beat)
    (λ (s : Scene). IsFirstReplyReason plan.layout (Port port) s beat known lanes reason))
    (c.reply_reason.ensures.reason plan.layout
    (beyond_of plan port past view known lanes keeps beat.source) c.args.map.now own))

pub returns-in-D-clause-allowed : goal.returns-in-D-clause-allowed
returns-in-D-clause-allowed c plan past own keeps =
    let port = c.args.port in
    let view = c.args.self.now in
    let known = c.args.known in
    let lanes = c.args.lanes.now in
    let beat = c.in-D.beat in
    let P : Beat → Type 0 =
    λ b. IfNone c.reply_reason.result (IsLawfulGroup plan (seen_at (Port port) b known lanes ∷ past)) in
    subst P (sym c.in-D.is) (if_none c.reply_reason.result (λ allowed. (
      keeps.lawful,
      carried plan port past view known lanes keeps (D beat)
          (λ (s : Scene). IsAllowedReply plan.layout (Port port) s beat known lanes) allowed,
    )) (c.reply_reason.ensures.allowed plan.layout
    (beyond_of plan port past view known lanes keeps beat.source) c.args.map.now own))
