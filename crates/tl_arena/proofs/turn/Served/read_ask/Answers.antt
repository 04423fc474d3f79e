use Rattle.std.proofs.Common.{ap, subst, ◌∙◌}
use Rattle.tl_rule.specs.Record.{SlotRecord, Spells}
use Rattle.tl_rule.proofs.Facts.{spells_one}
use Rattle.tl_arena.specs.Views.{ServedView}
use Rattle.tl_arena.proofs.turn.Served.read_ask.Goals as goal

pub returns : goal.returns
returns c =
    let served = c.self.inside in
    let spells = subst (λ (r : SlotRecord). Spells r c.read_ask.new.ask) c.deref.ensures c.read_ask.ensures in
    spells_one served.record.value c.read_ask.new.ask served.ask.value spells c.self.invariant.0
    ∙ ap (λ (s : ServedView). s.ask) c.self.view_is
