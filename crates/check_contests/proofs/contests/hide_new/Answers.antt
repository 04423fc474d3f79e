use Rattle.std.proofs.Common.{◌∙◌, get_or, map, sym, ap}
use Rattle.check_memory.specs.declared.slave.Slave.{Slave}
use Rattle.check_memory.specs.declared.slave.Slave.TheVariants.{Memory}
use Rattle.check_contests.specs.Contests.{Accepted, entry_accepting}
use Rattle.check_contests.proofs.Mapped.{mapped-more}
use Rattle.check_contests.proofs.Uncontested.{device_keeps}
use Rattle.check_contests.proofs.contests.hide_new.Goals as goal

pub loop-entry-preserved : goal.loop-entry-preserved
loop-entry-preserved c =
    let was : Accepted = get_or c.loop-entry.kept c.loop-entry.entry-index c.entry-item.result in
    mapped-more (entry_accepting (Memory c.in-Memory.memory) c.args.ask.now) c.args.kept.now c.loop-entry.kept
    c.loop-entry.entry-index c.entry-item.result (record was { due = c.hide.new.due }) c.loop-entry-test.true
    c.loop-entry.invariant (ap (λ due. record was { due = due }) c.hide.ensures)

pub returns-in_default : goal.returns-in_default
returns-in_default c =
    sym (ap (λ (slave : Slave). map (entry_accepting slave c.args.ask.now) c.args.kept.now) c.in_default.is
    ∙ device_keeps c.args.ask.now c.args.kept.now)
