use Rattle.tl_beats.proofs.Reading.{read_from, read_lawful, read_spells}
use Rattle.tl_beats.proofs.ask_assemble.fill_with_bytes.Goals as goal

pub refill_from-requires : goal.refill_from-requires
refill_from-requires c =
    let read = read_from c.args.beats.now c.args.first.now c.args.op _ c.requires.faultless c.gather_bytes.ensures in
    read_lawful c.args.beats.now c.args.first.now c.args.op c.requires.begun _ read

pub returns-clause-lawful : goal.returns-clause-lawful
returns-clause-lawful c =
    let read = read_from c.args.beats.now c.args.first.now c.args.op _ c.requires.faultless c.gather_bytes.ensures in
    rw c.refill_from.ensures (read_lawful c.args.beats.now c.args.first.now c.args.op c.requires.begun _ read)

pub returns-clause-spells : goal.returns-clause-spells
returns-clause-spells c =
    let read = read_from c.args.beats.now c.args.first.now c.args.op _ c.requires.faultless c.gather_bytes.ensures in
    rw c.refill_from.ensures (read_spells c.args.beats.now c.args.first.now c.args.op c.requires.begun _ read)
