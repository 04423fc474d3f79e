-- The slaves keep no histories, and there are histories all the same.
use Rattle.std.proofs.Common.{◌≡◌, ◌∙◌, ◌++◌, ◌∷◌, [], false, List, map, ap}
use Rattle.tl_ops.specs.Store.{Store}
use Rattle.tl_script.specs.System.{resets, error_store}
use Rattle.tl_serial.specs.Slave.{Stand, bank_of}
use Rattle.tl_serial.proofs.Serving.{serial_text_is, stand_fresh}
use Rattle.tl_serial.proofs.text.traces_text.Goals as goal

pub returns : goal.returns
returns c =
    let system = c.args.system.now in
    let fresh = c.in_ok-slaves.slaves.items in
    let banks : map bank_of fresh ≡ resets system =
    c.in_ok-slaves.ensures.banks
    ∙ ap (λ (stores : List Store). stores ++ error_store ∷ []) c.devices.ensures.value in
    let start : Stand system false [] c.deref_mut.result.now =
    rw c.deref_mut.ensures.value
    (stand_fresh system false fresh c.devices.ensures.lawful banks c.in_ok-slaves.ensures.fresh) in
    serial_text_is system false c.deref_mut.result.now c.write_masters.new.slaves c.in_ok-text.text.items start c.in_ok-text.ensures
