-- A message that begins is noted, and no other beat.
use Rattle.std.proofs.Common.{◌∙◌, ap, sym, subst}
use Rattle.check_watch.specs.Plan.{is_fifo, seen_at}
use Rattle.check_turns.specs.Turns.{begins_after}
use Rattle.check_turns.specs.View.{KeepsTurns, OrderedView}
use Rattle.check_turns.proofs.Turning.{begins_if, not_noted, noted}
use Rattle.check_turns.proofs.watch.OrderedWatch.note.Goals as goal

pub returns-then-takes_turn-clause-turns : goal.returns-then-takes_turn-clause-turns
returns-then-takes_turn-clause-turns c plan past known lanes keeps takes in_turn =
    let x = seen_at c.args.link c.args.beat.now known lanes in
    let inside = subst (KeepsTurns plan past) (sym (ap (λ (v : OrderedView). v.turns) c.self.view_is)) keeps in
    noted plan past x c.self.inside.turns inside in_turn c.note.new.self c.note.ensures
    (begins_if (is_fifo plan.layout c.args.link) (begins_after plan past x) (sym takes ∙ c.if-takes_turn.true))

pub returns-else-takes_turn-clause-turns : goal.returns-else-takes_turn-clause-turns
returns-else-takes_turn-clause-turns c plan past known lanes keeps takes in_turn =
    not_noted plan past (seen_at c.args.link c.args.beat.now known lanes) c.args.self.now.turns keeps in_turn
    (sym takes ∙ c.if-takes_turn.false)
