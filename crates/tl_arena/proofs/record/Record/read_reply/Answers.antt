use Rattle.std.proofs.Common.{◌≡◌, List, ap, sym, subst, ◌∙◌}
use Rattle.tl_beats.specs.Replies.{SpellsReply}
use Rattle.tl_beats.specs.declared.beat.DBeat.{DBeat}
use Rattle.tl_beats.proofs.Told.{told_is}
use Rattle.tl_rule.specs.Record.{SlotRecord}
use Rattle.tl_arena.proofs.record.Record.read_reply.Goals as goal

pub returns : goal.returns
returns c =
    let reply = c.requires.0 in
    let spelled = c.requires.1 in
    let beats : c.deref.result.now ≡ c.args.self.now.replies =
    c.deref.ensures.0 ∙ ap (λ (r : SlotRecord). r.replies) c.self.view_is in
    let named = c.assemble_reply_into.ensures.all reply spelled.lawful
    (subst (λ (bs : List DBeat). SpellsReply reply c.args.address bs) (sym beats) spelled.beats) in
    named.1 ∙ sym (told_is reply c.args.address c.args.self.now.replies spelled.lawful spelled.beats)
