-- The rows that are due are at hand, and the rest is to come.
use Rattle.std.proofs.Common.{◌∙◌, [], arith, sym}
use Rattle.check_samples.specs.Due.{due_text}
use Rattle.check_dump.proofs.LineLemmas.{goes_on}
use Rattle.check_dump.proofs.kept.DumpLines.read_on.Goals as goal

pub returns-clause-coming : goal.returns-clause-coming
returns-clause-coming g c =
    rw (c.requires.going, c.requires.none)
    (goes_on 0 [] (due_text c.read.new.due) c.args.self.now.rows c.read.new.self c.read.result c.in_ok-ended.ended
    (sym c.ended_by.ensures ∙ c.in_ok-ended.was) (omega arith) (omega arith) (rw c.clear.ensures at c.read.ensures.ok)
    (rw c.clear.ensures at c.read.ensures.fault))
