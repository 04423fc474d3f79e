-- What the slice holds is what the chunk holds.
use Rattle.std.proofs.Common.{rules}
use Rattle.std.proofs.lemmas.List.{places, with_items_is}
use Rattle.check_vcd.proofs.scanner.read_over.Goals as goal

pub returns-clause-taken : goal.returns-clause-taken
returns-clause-taken g c =
    rw (with_items_is c.args.chunk.now c.read_some.new.buffer (search (rules, places))) (search rules)
