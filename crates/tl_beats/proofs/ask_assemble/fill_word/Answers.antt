use Rattle.std.proofs.Common.{rules, ◌≡◌, length}
use Rattle.tl_beats.proofs.Reading.{read_from, read_lawful, read_spells}
use Rattle.tl_beats.proofs.Word.{word_bytes}
use Rattle.tl_beats.proofs.ask_assemble.fill_word.Goals as goal

pub refill_given-requires : goal.refill_given-requires
refill_given-requires c =
    let first = c.args.first.now in
    let eight : length first.lanes ≡ 8 = search rules in
    let bytes = word_bytes c.args.beats.now first c.args.op c.requires.begun.head c.requires.word c.requires.set eight in
    read_lawful c.args.beats.now first c.args.op c.requires.begun _
    (read_from c.args.beats.now first c.args.op _ c.requires.faultless bytes)

pub returns-clause-lawful : goal.returns-clause-lawful
returns-clause-lawful c =
    let first = c.args.first.now in
    let eight : length first.lanes ≡ 8 = search rules in
    let bytes = word_bytes c.args.beats.now first c.args.op c.requires.begun.head c.requires.word c.requires.set eight in
    rw c.refill_given.ensures (read_lawful c.args.beats.now first c.args.op c.requires.begun _
    (read_from c.args.beats.now first c.args.op _ c.requires.faultless bytes))

pub returns-clause-spells : goal.returns-clause-spells
returns-clause-spells c =
    let first = c.args.first.now in
    let eight : length first.lanes ≡ 8 = search rules in
    let bytes = word_bytes c.args.beats.now first c.args.op c.requires.begun.head c.requires.word c.requires.set eight in
    rw c.refill_given.ensures (read_spells c.args.beats.now first c.args.op c.requires.begun _
    (read_from c.args.beats.now first c.args.op _ c.requires.faultless bytes))
