-- One more slave is fresh.
use Rattle.std.proofs.Common.{◌≡◌, ◌++◌, ◌∷◌, [], arith}
use Rattle.std.proofs.lemmas.Grind.{common_steps}
use Rattle.std.proofs.lemmas.List.Elements.{All-push}
use Rattle.tl_serial.specs.Slave.{IsFresh}
use Rattle.tl_serial.proofs.run.slaves_of.Goals as goal

pub loop-bank-preserved : goal.loop-bank-preserved
loop-bank-preserved c =
    let slaves = c.loop-bank.slaves.items in
    let slave = c.slave_of.result in
    let pushed : c.push.new.self.items ≡ slaves ++ slave ∷ [] = c.in_ok-push.ensures.items in
    record {
      banks = grind (arith, common_steps, c.loop-bank.invariant.banks, c.slave_of.ensures.bank, pushed);
      fresh = rw pushed (All-push
          (IsFresh c.args.keeps) slaves slave c.loop-bank.invariant.fresh c.slave_of.ensures.fresh);
    }
