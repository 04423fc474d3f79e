use Rattle.std.proofs.Common.{rules, ◌≡◌, ◌∙◌, ◌++◌, ◌∷◌, [], true, List, length, map, ap, take, drop}
use Rattle.std.proofs.lemmas.List.{length-map, take_at}
use Rattle.tl_ops.specs.Store.{Store}
use Rattle.tl_journal.specs.Journal.{pairs_in}
use Rattle.tl_journal.specs.Trace.{entries_in}
use Rattle.tl_serial.specs.Serial.{log_of}
use Rattle.tl_script.specs.System.{resets, error_store}
use Rattle.tl_serial.specs.Slave.{Stand, bank_of, history_of}
use Rattle.tl_serial.proofs.Serving.{stand_fresh, histories_are}
use Rattle.tl_serial.proofs.run.run_serial.Goals as goal

pub returns : goal.returns
returns c =
    let system = c.args.system.now in
    let fresh = c.in_ok-slaves.slaves.items in
    let banks : map bank_of fresh ≡ resets system =
    c.in_ok-slaves.ensures.banks
    ∙ ap (λ (stores : List Store). stores ++ error_store ∷ []) c.devices.ensures.value in
    let start : Stand system true [] c.deref_mut.result.now =
    rw c.deref_mut.ensures.value
    (stand_fresh system true fresh c.devices.ensures.lawful banks c.in_ok-slaves.ensures.fresh) in
    let stand = c.in_ok-traces.ensures.stands true start in
    let whole : take c.in_ok-slaves.slaves.len
    (c.run_masters.new.slaves ++ drop (length c.run_masters.new.slaves) fresh) ≡ c.run_masters.new.slaves =
    let long : length c.run_masters.new.slaves ≡ c.in_ok-slaves.slaves.len = search rules in
    take_at c.run_masters.new.slaves (drop (length c.run_masters.new.slaves) fresh) c.in_ok-slaves.slaves.len long in
    let are : pairs_in c.in_ok-histories.histories.items ≡ map history_of c.run_masters.new.slaves =
    rw (← whole) c.in_ok-histories.ensures in
    record {
      asked = c.in_ok-traces.ensures.asked;
      served = stand.served;
      ports = ap length are ∙ length-map c.run_masters.new.slaves history_of ∙ stand.ports;
      recorded = histories_are system (log_of (entries_in c.in_ok-traces.traces.items)) c.run_masters.new.slaves
          (pairs_in c.in_ok-histories.histories.items) stand are;
    }
