use Rattle.std.proofs.Common.{◌∙◌, ℕ, List, Option, ap}
use Rattle.check_beats.specs.State.{Under, AskBegun, AskChannel, ask_after}
use Rattle.check_beats.proofs.Past.{ask_after-on}
use Rattle.check_beats.proofs.under_way.UnderWay.take_ask_part.Goals as goal

pub returns : goal.returns
returns c =
    let i = c.self.inside in
    let beat = c.args.beat.now in
    let lanes = c.args.lanes.now in
    let shows : AskChannel → Under = λ a. record { bus = a.bus; asking = a.begun; replying = i.replying.begun } in
    let keeps : Option AskBegun → Under = λ a. record { bus = i.asking.bus; asking = a; replying = i.replying.begun } in
    ap shows c.take_part.ensures
    ∙ ap keeps (ap (λ (l : List ℕ). ask_after i.asking.bus i.asking.begun beat l) c.on_bus-lanes.ensures.value
    ∙ ask_after-on c.bus.result i.asking.bus c.bus.ensures i.asking.begun beat lanes)
    ∙ ap (λ (u : Under). record u { asking = ask_after u.bus u.asking beat lanes }) c.self.view_is
