use Rattle.std.proofs.Common.{◌≡◌, ◌^◌, length, rules}
use Rattle.check_memory.specs.Paged.{paged_cells}
use Rattle.check_memory.proofs.SeenWindows.{none_forgotten}
use Rattle.check_memory.proofs.volatile.look.Goals as goal

pub returns-else-not-is_empty-clause-after : goal.returns-else-not-is_empty-clause-after
returns-else-not-is_empty-clause-after c =
    let empty : length c.args.volatile.now ≡ 0 = search rules in
    none_forgotten c.args.volatile.now c.args.ask.now.address (2 ^ c.args.ask.now.size) (paged_cells c.args.pages.now) empty
