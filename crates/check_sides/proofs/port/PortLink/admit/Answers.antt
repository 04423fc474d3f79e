use Rattle.std.proofs.Common.{sym, subst}
use Rattle.std.specs.Prelude.{◌∷◌, OnOk}
use Rattle.check_watch.specs.declared.beat.Beat.{Beat}
use Rattle.check_watch.specs.declared.beat.Beat.TheVariants.{A, D}
use Rattle.check_watch.specs.declared.beat.Link.TheVariants.{Port}
use Rattle.check_watch.specs.Lawful.{IsLawfulGroup}
use Rattle.check_watch.specs.Plan.{seen_at}
use Rattle.check_watch.proofs.Keeping.{on_ok}
use Rattle.check_sides.specs.View.{KeepsPort}
use Rattle.check_sides.proofs.PortSteps.{beyond_of, kept}
use Rattle.check_sides.proofs.port.PortLink.admit.Goals as goal

pub returns-in-A-clause-keeps : goal.returns-in-A-clause-keeps
returns-in-A-clause-keeps c plan past keeps =
    let port = c.args.port in
    let view = c.args.self.now in
    let known = c.args.known in
    let lanes = c.args.lanes.now in
    let r = c.admit_ask.result in
    let new = c.admit_ask.new.self in
    let beat = c.in-A.beat in
    let P : Beat → Type 0 =
    λ b. IsLawfulGroup plan (seen_at (Port port) b known lanes ∷ past)
    → OnOk r (KeepsPort plan port (seen_at (Port port) b known lanes ∷ past) new) in
    subst P (sym c.in-A.is) (λ lawful.
    on_ok r (λ after. kept plan port past view known lanes keeps new (A beat) after lawful)
    (c.admit_ask.ensures.after plan.layout (beyond_of plan port past view known lanes keeps beat.source) known))

pub returns-in-D-clause-keeps : goal.returns-in-D-clause-keeps
returns-in-D-clause-keeps c plan past keeps =
    let port = c.args.port in
    let view = c.args.self.now in
    let known = c.args.known in
    let lanes = c.args.lanes.now in
    let r = c.admit_reply.result in
    let new = c.admit_reply.new.self in
    let beat = c.in-D.beat in
    let P : Beat → Type 0 =
    λ b. IsLawfulGroup plan (seen_at (Port port) b known lanes ∷ past)
    → OnOk r (KeepsPort plan port (seen_at (Port port) b known lanes ∷ past) new) in
    subst P (sym c.in-D.is) (λ lawful.
    on_ok r (λ after. kept plan port past view known lanes keeps new (D beat) after lawful)
    (c.admit_reply.ensures.after plan.layout (beyond_of plan port past view known lanes keeps beat.source)))
