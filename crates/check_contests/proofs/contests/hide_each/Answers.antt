use Rattle.std.proofs.Common.{◌∙◌, ap, arith}
use Rattle.check_contests.specs.Writes.{may_write}
use Rattle.check_contests.specs.Contests.{due_beside}
use Rattle.check_contests.proofs.Places.{hide_none, hide_more}
use Rattle.check_contests.proofs.contests.hide_each.Goals as goal

pub loop-entry-init : goal.loop-entry-init
loop-entry-init c = hide_none c.args.memory.now c.args.ask.now c.args.due.now

pub loop-entry-preserved : goal.loop-entry-preserved
loop-entry-preserved c =
    let memory = c.args.memory.now in
    let ask = c.args.ask.now in
    let entry = c.entry-item.result in
    c.hide.ensures
    ∙ ap (λ due. due_beside memory ask (may_write memory entry.ask) due) c.loop-entry.invariant
    ∙ hide_more memory ask c.args.kept.now c.loop-entry.entry-index entry c.args.due.now (omega arith) c.entry-item.is
