use Rattle.std.proofs.Common.{rules}
use Rattle.tl_master.proofs.Bits.{removed_here, removed_else}
use Rattle.tl_master.proofs.source_set.SourceSet.remove.Goals as goal

pub returns-clause-here : goal.returns-clause-here
returns-clause-here c = removed_here c.args.self.now.words c.args.source (search rules)

pub returns-clause-others : goal.returns-clause-others
returns-clause-others c = removed_else c.args.self.now.words c.args.source (search rules)
