use Rattle.std.proofs.Common.{◌≡◌, length, rules}
use Rattle.check_memory.proofs.SeenWindows.{none_hidden}
use Rattle.check_memory.proofs.volatile.hide.Goals as goal

pub returns-else-not-is_empty : goal.returns-else-not-is_empty
returns-else-not-is_empty c =
    let empty : length c.args.volatile.now ≡ 0 = search rules in
    none_hidden c.args.volatile.now c.args.address c.args.cells.now empty
