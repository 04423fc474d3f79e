use Rattle.std.proofs.Common.{rules, ◌≡◌, ◌∙◌, ◌<◌, length, arith, Some, slice_get, refl, sym, ap}
use Rattle.std.proofs.lemmas.Option.{slice_get-get_or}
use Rattle.tl_map.specs.Map.{Routes}
use Rattle.tl_map.specs.Owner.{IsWideSource}
use Rattle.tl_map.proofs.Counted.{has_wide}
use Rattle.tl_map.proofs.Routing.{routed_in_range}
use Rattle.tl_serial.proofs.Serving.{stand_more}
use Rattle.tl_serial.specs.declared.run.Slave.{Slave}
use Rattle.tl_serial.proofs.run.send.Goals as goal

pub bounds-slaves-port : goal.bounds-slaves-port
bounds-slaves-port c =
    let routed : Routes c.args.system.now.ranges c.args.ask.now c.route-port.result =
    rw c.map.ensures at ((c.route-port.ensures.port c.route-port.result).0 refl) in
    let below = routed_in_range c.args.system.now.ranges c.args.ask.now c.route-port.result routed in
    omega (arith, below, c.requires.ready)

pub offset_bounds-slaves-port : goal.offset_bounds-slaves-port
offset_bounds-slaves-port c =
    let within : c.route-port.result < length c.args.slaves.now = bounds-slaves-port c in
    search rules

pub unwrap-wide-requires : goal.unwrap-wide-requires
unwrap-wide-requires c =
    let found = has_wide c.sources.result.now c.sources.ensures.blocks c.args.master c.source.result
    (rw (c.sources.ensures.value, c.source.ensures) c.requires.source) in
    let is : c.widen.result ≡ Some found.0 = (c.widen.ensures found.0).1 found.1 in
    rw is refl

pub returns-clause-stands : goal.returns-clause-stands
returns-clause-stands c = λ keeps log stand.
    let routed : Routes c.args.system.now.ranges c.args.ask.now c.route-port.result =
    rw c.map.ensures at ((c.route-port.ensures.port c.route-port.result).0 refl) in
    let below = routed_in_range c.args.system.now.ranges c.args.ask.now c.route-port.result routed in
    let within : c.route-port.result < length c.args.slaves.now = omega (arith, below, c.requires.ready) in
    let slave : slice_get c.args.slaves.now c.route-port.result ≡ Some c.index-slaves-port.result =
    slice_get-get_or c.args.slaves.now c.route-port.result c.index-slaves-port.result within
    ∙ ap (λ (s : Slave). Some s) (sym c.index-slaves-port.is) in
    let wide : IsWideSource c.args.system.now.owners c.args.master c.args.ask.now.source c.unwrap-wide.result =
    rw (c.sources.ensures.value, c.source.ensures) at ((c.widen.ensures c.unwrap-wide.result).0 c.unwrap-wide.ensures) in
    stand_more c.args.system.now keeps log c.args.slaves.now c.index-slaves-port.result c.serve.new.self c.args.master c.unwrap-wide.result _ stand
    slave routed (search rules) (search rules) (search rules) (search rules) (search rules) wide
