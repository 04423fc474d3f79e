use Rattle.std.proofs.Common.{rules}
use Rattle.tl_map.proofs.Placing.{size_from, size_low}
use Rattle.tl_map.proofs.block.block_size.Goals as goal

pub returns-clause-size : goal.returns-clause-size
returns-clause-size c = search (rules, size_from)

pub returns-clause-in_limit : goal.returns-clause-in_limit
returns-clause-in_limit c = size_low c.args.count _ (search (rules, size_from)) c.requires.few
