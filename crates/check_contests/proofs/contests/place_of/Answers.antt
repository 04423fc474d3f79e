use Rattle.std.proofs.Common.{arith}
use Rattle.check_contests.proofs.Places.{found, not_yet, none_at_all, none_answered}
use Rattle.check_contests.proofs.contests.place_of.Goals as goal

pub returns-then-entry-wide-clause-one : goal.returns-then-entry-wide-clause-one
returns-then-entry-wide-clause-one c =
    (found c.args.kept.now c.args.wide c.loop-place.place c.index-kept-place.result c.loop-place-test.true
    c.index-kept-place.is c.if-entry-wide.true c.loop-place.invariant).0

pub returns-then-entry-wide-clause-rest : goal.returns-then-entry-wide-clause-rest
returns-then-entry-wide-clause-rest c =
    (found c.args.kept.now c.args.wide c.loop-place.place c.index-kept-place.result c.loop-place-test.true
    c.index-kept-place.is c.if-entry-wide.true c.loop-place.invariant).1

pub loop-place-preserved : goal.loop-place-preserved
loop-place-preserved c =
    not_yet c.args.kept.now c.args.wide c.loop-place.place c.index-kept-place.result c.loop-place-test.true
    c.index-kept-place.is c.if-entry-wide.false c.loop-place.invariant

pub returns-clause-rest_same : goal.returns-clause-rest_same
returns-clause-rest_same c is =
    none_answered c.args.kept.now c.args.wide
    (none_at_all c.args.kept.now c.args.wide c.loop-place.place (omega arith) c.loop-place.invariant)
