-- One port more is loaded.
use Rattle.std.proofs.Common.{◌∙◌, None, arith}
use Rattle.check_model.specs.Model.{loaded_port}
use Rattle.check_model.proofs.Loading.{all_are, none_yet, one_more}
use Rattle.check_model.proofs.Reading.{same_default}
use Rattle.check_model.proofs.port.load_ports.Goals as goal

pub loop-number-init : goal.loop-number-init
loop-number-init c = none_yet loaded_port c.args.ports.now c.args.loaded.now

pub loop-number-preserved : goal.loop-number-preserved
loop-number-preserved c =
    one_more loaded_port c.args.ports.now c.loop-number.ports c.args.loaded.now c.loop-number.loaded c.loop-number.number _
    c.load.new.self c.take.result c.take.new.self c.requires c.loop-number-test.true c.loop-number.invariant
    (c.take.ensures.value
    ∙ same_default c.loop-number.loaded c.loop-number.number _ None
    (omega (arith, c.loop-number-test.true, c.requires, c.loop-number.auto.loaded)))
    c.load.ensures

pub returns : goal.returns
returns c =
    all_are loaded_port c.args.ports.now c.loop-number.ports c.args.loaded.now c.loop-number.loaded c.loop-number.number
    c.requires (omega (arith, c.loop-number-test.false, c.loop-number.auto.number-end)) c.loop-number.invariant
