use Rattle.check_beats.specs.Form.{HasReplyFormFault}
use Rattle.check_beats.specs.State.{first_reply}
use Rattle.check_watch.specs.declared.beat.Beat.TheVariants.{D}
use Rattle.check_watch.specs.declared.beat.Link.TheVariants.{Port}
use Rattle.check_watch.proofs.Replying.{no_form_before}
use Rattle.check_sides.specs.View.{port_scene}
use Rattle.check_sides.proofs.port.PortLink.wrong_reply.Goals as goal

pub returns-in-Some : goal.returns-in-Some
returns-in-Some c layout beyond same first =
    let view = c.args.self.now in
    let beat = c.args.beat.now in
    let has : HasReplyFormFault layout.rules (first_reply view.under.replying) beat c.in-Some._fault =
    rw (same, ← c.self.view_is) c.in-Some.ensures.fault.applies in
    no_form_before layout (Port c.args.port) (port_scene layout c.args.port beyond view (D beat)) beat c.args.known
    c.args.lanes.now c.in-Some._fault first has
