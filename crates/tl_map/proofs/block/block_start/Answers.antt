use Rattle.std.proofs.Common.{rules}
use Rattle.tl_map.proofs.Placing.{start_from}
use Rattle.tl_map.proofs.block.block_start.Goals as goal

pub returns-clause-start : goal.returns-clause-start
returns-clause-start c = search (rules, start_from)
