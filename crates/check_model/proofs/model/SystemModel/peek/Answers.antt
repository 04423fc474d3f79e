-- The port of the address was read.
use Rattle.std.proofs.Common.{◌≡◌, ◌∙◌, Some, slice_get, ap, sym}
use Rattle.check_model.specs.Bytes.{shown_at}
use Rattle.check_model.specs.declared.port.ModelPort.{ModelPort}
use Rattle.check_model.proofs.Reading.{read_there}
use Rattle.check_model.proofs.model.SystemModel.peek.Goals as goal

pub returns-clause-seen : goal.returns-clause-seen
returns-clause-seen c number port is =
    let found : Some c.in-Some.port ≡ Some number = sym c.in-Some.is ∙ c.port_of.ensures.only number is.routed is.some in
    let here : c.in-Some.port ≡ number = cc in
    let at : slice_get c.self.inside.ports.items c.in-Some.port ≡ Some port =
    rw (here) (rw (← c.self.view_is) at is.at) in
    c.peek.ensures
    ∙ ap (λ (p : ModelPort). shown_at p.slave c.args.address)
    (read_there c.self.inside.ports.items c.in-Some.port port c.index.result.now at c.index.ensures)
