-- What is put there ends with the first range, or before.
use Rattle.std.proofs.Common.{◌≡◌, ◌∙◌, ap, arith, length}
use Rattle.check_description.specs.Ranges.{first_base}
use Rattle.check_description.proofs.Ends.{first_within}
use Rattle.check_description.proofs.slave.memory_of.Goals as goal

pub load-requires : goal.load-requires
load-requires c =
    let port = c.args.port.now in
    let base : c.first_base-base.result ≡ first_base port.ranges.items =
    c.first_base-base.ensures ∙ ap first_base c.deref.ensures.value in
    omega (arith, base, first_within port.ranges.items port.lawful, c.requires)

pub load-requires-2 : goal.load-requires-2
load-requires-2 c =
    let port = c.args.port.now in
    let base : c.first_base-base.result ≡ first_base port.ranges.items =
    c.first_base-base.ensures ∙ ap first_base c.deref.ensures.value in
    omega (arith, base, first_within port.ranges.items port.lawful, port.given, ap length c.deref-2.ensures.value)
