use Rattle.std.proofs.Common.{◌≡◌, ◌<◌, List, length, ap, sym, subst, ◌∙◌, arith}
use Rattle.std.proofs.lemmas.Option.{slice_get-get_or}
use Rattle.tl_types.specs.Operation.{carries_bytes}
use Rattle.tl_beats.specs.Beats.{SpellsAsk}
use Rattle.tl_beats.specs.declared.beat.ABeat.{ABeat}
use Rattle.tl_beats.proofs.Only.{some_beat}
use Rattle.tl_rule.specs.Record.{SlotRecord}
use Rattle.tl_arena.proofs.record.Record.first.Goals as goal

pub returns : goal.returns
returns c = λ ask spelled.
    let seen = c.deref.result.now in
    let beats : seen ≡ c.args.self.now.beats = c.deref.ensures.0 ∙ ap (λ (r : SlotRecord). r.beats) c.self.view_is in
    let spells = subst (λ (bs : List ABeat). SpellsAsk ask bs) (sym beats) spelled.beats in
    let some : 0 < length seen = omega (arith, spells.count, some_beat (carries_bytes ask.op) ask.size) in
    (spells.each 0 _ (slice_get-get_or seen 0 _ some)).fields
