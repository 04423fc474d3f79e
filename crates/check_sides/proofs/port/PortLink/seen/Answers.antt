use Rattle.std.proofs.Common.{◌≡◌, sym, subst}
use Rattle.check_watch.specs.declared.beat.Beat.{Beat}
use Rattle.check_watch.specs.declared.beat.Beat.TheVariants.{D}
use Rattle.check_watch.specs.declared.beat.Link.TheVariants.{Port}
use Rattle.check_watch.specs.Lawful.{seen_in_group}
use Rattle.check_watch.specs.Plan.{seen_at}
use Rattle.check_watch.specs.Scene.{Scene, seen}
use Rattle.check_sides.proofs.PortSteps.{beyond_of, carried}
use Rattle.check_sides.proofs.port.PortLink.seen.Goals as goal

pub returns-in-D : goal.returns-in-D
returns-in-D c plan past keeps =
    let port = c.args.port in
    let view = c.args.self.now in
    let known = c.args.known in
    let lanes = c.args.lanes.now in
    let beat = c.in-D.beat in
    let P : Beat → Type 0 =
    λ b. c.seen_reply.result ≡ seen_in_group plan past (seen_at (Port port) b known lanes) in
    subst P (sym c.in-D.is)
    (carried plan port past view known lanes keeps (D beat)
    (λ (s : Scene). c.seen_reply.result ≡ seen plan.layout (Port port) s (D beat) known lanes)
    (c.seen_reply.ensures plan.layout (beyond_of plan port past view known lanes keeps beat.source)))
