use Rattle.std.proofs.Common.{rules}
use Rattle.tl_master.proofs.Bits.{none_left, lowest_left}
use Rattle.tl_master.proofs.source_set.lowest_from.Goals as goal

pub returns-then-rest-eq0-clause-none : goal.returns-then-rest-eq0-clause-none
returns-then-rest-eq0-clause-none c = none_left c.args.word c.args.from c.if-rest-eq0.true

pub returns-clause-some : goal.returns-clause-some
returns-clause-some c = lowest_left c.args.word c.args.from (search rules) c.if-rest-eq0.false
