use Rattle.std.proofs.Common.{ap, subst, ◌∙◌}
use Rattle.tl_types.specs.Response.{IsLawfulResponse}
use Rattle.tl_beats.specs.Told.{told_reply}
use Rattle.tl_rule.specs.Record.{SlotRecord}
use Rattle.tl_arena.specs.Views.{ServedView}
use Rattle.tl_arena.proofs.turn.Served.is_denied.Goals as goal

pub returns-clause-value : goal.returns-clause-value
returns-clause-value c =
    let address = c.self.inside.ask.value.address in
    c.is_denied.ensures address ∙ ap (λ (r : SlotRecord). (told_reply r.replies address).denied) c.deref.ensures
    ∙ ap (λ (s : ServedView). s.reply.denied) c.self.view_is

pub returns-clause-lawful : goal.returns-clause-lawful
returns-clause-lawful c =
    subst (λ (s : ServedView). IsLawfulResponse s.reply.op s.reply.size s.reply.denied s.reply.bytes) c.self.view_is c.self.invariant.1.lawful
