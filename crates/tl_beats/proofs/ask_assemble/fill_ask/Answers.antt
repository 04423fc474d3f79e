use Rattle.std.proofs.Common.{rules, ◌≡◌, false, []}
use Rattle.tl_types.specs.Operation.{carries_bytes}
use Rattle.tl_beats.proofs.Reading.{read_from, read_lawful, read_spells, bytes_of_none}
use Rattle.tl_beats.proofs.ask_assemble.fill_ask.Goals as goal

pub refill-requires : goal.refill-requires
refill-requires c =
    let none : carries_bytes c.args.op ≡ false = search rules in
    let read = read_from c.args.beats.now c.args.first.now c.args.op [] c.requires.faultless
    (bytes_of_none c.args.beats.now c.args.first.now c.args.op none) in
    read_lawful c.args.beats.now c.args.first.now c.args.op c.requires.begun [] read

pub returns-then-not-carries_bytes-clause-lawful : goal.returns-then-not-carries_bytes-clause-lawful
returns-then-not-carries_bytes-clause-lawful c =
    let none : carries_bytes c.args.op ≡ false = search rules in
    let read = read_from c.args.beats.now c.args.first.now c.args.op [] c.requires.faultless
    (bytes_of_none c.args.beats.now c.args.first.now c.args.op none) in
    rw c.refill.ensures (read_lawful c.args.beats.now c.args.first.now c.args.op c.requires.begun [] read)

pub returns-then-not-carries_bytes-clause-spells : goal.returns-then-not-carries_bytes-clause-spells
returns-then-not-carries_bytes-clause-spells c =
    let none : carries_bytes c.args.op ≡ false = search rules in
    let read = read_from c.args.beats.now c.args.first.now c.args.op [] c.requires.faultless
    (bytes_of_none c.args.beats.now c.args.first.now c.args.op none) in
    rw c.refill.ensures (read_spells c.args.beats.now c.args.first.now c.args.op c.requires.begun [] read)
