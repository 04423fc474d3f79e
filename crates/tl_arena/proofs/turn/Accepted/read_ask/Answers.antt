use Rattle.std.proofs.Common.{ℕ, ap, subst, ◌∙◌}
use Rattle.tl_types.specs.Request.{Request}
use Rattle.tl_beats.specs.ToldAsk.{told_ask}
use Rattle.tl_rule.specs.Record.{SlotRecord, Spells}
use Rattle.tl_rule.proofs.Facts.{spells_one}
use Rattle.tl_arena.proofs.turn.Accepted.read_ask.Goals as goal

pub returns : goal.returns
returns c =
    let held = c.self.inside.record.value in
    let spells = subst (λ (r : SlotRecord). Spells r c.read_ask.new.ask) c.deref.ensures c.read_ask.ensures in
    spells_one held c.read_ask.new.ask (told_ask held.beats) spells c.self.invariant
    ∙ ap (λ (f : ℕ × Request). f.1) c.self.view_is
