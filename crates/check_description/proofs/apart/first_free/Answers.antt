-- Each wide source that was passed is somebody's, and at the end these are all.
use Rattle.std.proofs.Common.{arith}
use borrow.Author.Count.{below_more}
use Rattle.check_description.specs.Apart.{IsNobodys}
use Rattle.check_description.proofs.apart.first_free.Goals as goal

pub loop-wide-preserved : goal.loop-wide-preserved
loop-wide-preserved c =
    below_more (λ wide. IsNobodys c.args.sources.now wide → ⊥) c.loop-wide.wide c.loop-wide.invariant
    (λ nobodys. nobodys.free (c.is_owned.ensures.0 c.if-not-is_owned.false))

pub returns-clause-none : goal.returns-clause-none
returns-clause-none c =
    λ wide nobodys. c.loop-wide.invariant wide (omega (arith, nobodys.few, c.loop-wide-test.false)) nobodys
