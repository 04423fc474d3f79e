use Rattle.std.proofs.Common.{◌∙◌, ℕ, List, ap}
use Rattle.check_beats.specs.State.{Under, ask_of}
use Rattle.check_beats.proofs.Past.{ask_of-on}
use Rattle.check_beats.proofs.under_way.UnderWay.ask_into.Goals as goal

pub returns : goal.returns
returns c =
    let i = c.self.inside in
    let beat = c.args.beat.now in
    let lanes = c.args.lanes.now in
    c.ask_into.ensures ∙ ap (λ (l : List ℕ). ask_of i.asking.bus i.asking.begun beat l) c.on_bus.ensures.value
    ∙ ask_of-on c.bus.result i.asking.bus c.bus.ensures i.asking.begun beat lanes
    ∙ ap (λ (u : Under). ask_of u.bus u.asking beat lanes) c.self.view_is
