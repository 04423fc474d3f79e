use Rattle.std.proofs.Common.{◌∙◌, ap}
use Rattle.check_sides.specs.Plan.{bus_of}
use Rattle.check_sides.specs.View.{View}
use Rattle.check_sides.proofs.watch.Watch.bus.Goals as goal

pub returns : goal.returns
returns c = c.bus.ensures ∙ ap (λ (v : View). bus_of v.layout c.args.link) c.self.view_is
