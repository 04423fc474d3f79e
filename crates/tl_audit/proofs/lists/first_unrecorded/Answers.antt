use Rattle.std.proofs.Common.{◌≤◌, length, refl, arith}
use Rattle.std.proofs.lemmas.List.{take_all}
use Rattle.tl_audit.specs.Agrees.{IsRecorded, journals_in}
use Rattle.tl_audit.proofs.Entries.{all_more}
use Rattle.tl_audit.proofs.lists.first_unrecorded.Goals as goal

pub loop-place-preserved : goal.loop-place-preserved
loop-place-preserved c =
    all_more (IsRecorded c.args.sources.now
    (journals_in c.args.histories.now) c.args.master) c.args.trace.now.items c.loop-place.place c.read.new.entry
    c.read.ensures c.loop-place.invariant (c.if-not-is_recorded.ensures.0 refl)

pub returns-clause-none : goal.returns-clause-none
returns-clause-none c =
    let all : length c.args.trace.now.items ≤ c.loop-place.place =
    omega (arith, c.loop-place-test.false, c.len-place-end.ensures.value) in
    rw (take_all c.loop-place.place c.args.trace.now.items all) at c.loop-place.invariant
