use Rattle.std.proofs.Common.{◌∙◌, ℕ, List, ap}
use Rattle.check_beats.specs.State.{Under, reply_of}
use Rattle.check_beats.proofs.Past.{reply_of-on}
use Rattle.check_beats.proofs.under_way.UnderWay.reply_into.Goals as goal

pub returns : goal.returns
returns c =
    let i = c.self.inside in
    let beat = c.args.beat.now in
    let lanes = c.args.lanes.now in
    let b = i.replying.begun in
    let address = c.args.address in
    let known = c.args.known in
    c.reply_into.ensures ∙ ap (λ (n : ℕ). reply_of n b address beat known c.on_bus-lanes.result.now) c.self.invariant
    ∙ ap (λ (l : List ℕ). reply_of i.asking.bus b address beat known l) c.on_bus-lanes.ensures.value
    ∙ reply_of-on c.bus.result i.asking.bus c.bus.ensures b address beat known lanes
    ∙ ap (λ (u : Under). reply_of u.bus u.replying address beat known lanes) c.self.view_is
