-- One master more is marked, or the first wide source that two share is found.
use Rattle.std.proofs.Common.{◌≡◌, ◌∙◌, length, refl, arith}
use Rattle.tl_map.proofs.Faults.{first_shared}
use Rattle.tl_map.proofs.Kept.{marked_all, apart_all}
use Rattle.tl_map.proofs.owners.mark_all.Goals as goal

pub loop-master-init : goal.loop-master-init
loop-master-init c = record {
  counted = refl;
  marked = c.requires.none;
  apart = λ one other wide less below shared. absurd (omega (arith, below));
}

pub returns-in-Some-clause-fault : goal.returns-in-Some-clause-fault
returns-in-Some-clause-fault c =
    first_shared c.args.owners.now c.requires.few c.requires.lawful c.in-Some.other c.loop-master.master c.in-Some.wide c.in-Some.ensures.shared c.loop-master.invariant.apart

pub loop-master-preserved : goal.loop-master-preserved
loop-master-preserved c = record {
  counted = c.mark_master.ensures.counted ∙ c.loop-master.invariant.counted;
  marked = c.in_default.ensures.marked;
  apart = c.in_default.ensures.apart c.loop-master.invariant.apart;
}

pub returns-clause-marked : goal.returns-clause-marked
returns-clause-marked c =
    let test = c.loop-master-test.false in
    let end = c.loop-master.auto.master-end in
    let last : c.loop-master.master ≡ length c.args.owners.now = omega (arith, test, end) in
    marked_all c.args.owners.now c.loop-master.marks (rw (← last) c.loop-master.invariant.marked)

pub returns-clause-lawful : goal.returns-clause-lawful
returns-clause-lawful c =
    let test = c.loop-master-test.false in
    let end = c.loop-master.auto.master-end in
    let last : c.loop-master.master ≡ length c.args.owners.now = omega (arith, test, end) in
    record {
      masters = c.requires.few;
      each = c.requires.lawful;
      apart = apart_all c.args.owners.now (rw (← last) c.loop-master.invariant.apart);
    }
