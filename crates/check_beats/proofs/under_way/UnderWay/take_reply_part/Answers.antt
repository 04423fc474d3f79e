use Rattle.std.proofs.Common.{◌∙◌, ℕ, List, Option, ap}
use Rattle.check_beats.specs.State.{Under, ReplyBegun, ReplyChannel, reply_after}
use Rattle.check_beats.proofs.Past.{reply_after-on}
use Rattle.check_beats.proofs.under_way.UnderWay.take_reply_part.Goals as goal

pub returns : goal.returns
returns c =
    let i = c.self.inside in
    let beat = c.args.beat.now in
    let known = c.args.known in
    let lanes = c.args.lanes.now in
    let b = i.replying.begun in
    let shows : ReplyChannel → Under = λ r. record { bus = i.asking.bus; asking = i.asking.begun; replying = r.begun } in
    let keeps : Option ReplyBegun → Under = λ r. record { bus = i.asking.bus; asking = i.asking.begun; replying = r } in
    ap shows c.take_part.ensures
    ∙ ap keeps (ap (λ (n : ℕ). reply_after n b beat known c.on_bus-lanes.result.now) c.self.invariant
    ∙ ap (λ (l : List ℕ). reply_after i.asking.bus b beat known l) c.on_bus-lanes.ensures.value
    ∙ reply_after-on c.bus.result i.asking.bus c.bus.ensures b beat known lanes)
    ∙ ap (λ (u : Under). record u { replying = reply_after u.bus u.replying beat known lanes }) c.self.view_is
