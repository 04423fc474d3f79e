use Rattle.tl_beats.proofs.reply_pack.pack_reply_into.Goals as goal

pub returns-else-bytes-lt-BUS_BYTES-clause-spells : goal.returns-else-bytes-lt-BUS_BYTES-clause-spells
returns-else-bytes-lt-BUS_BYTES-clause-spells c = c.push_whole_beats.ensures.spells c.args.address
