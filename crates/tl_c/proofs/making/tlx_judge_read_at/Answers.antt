-- The fault of a file that is told.
use Rattle.std.proofs.Common.{Option, subst, sym}
use Rattle.check_start.specs.declared.start.Terms.{Terms}
use Rattle.tl_c.specs.Calls.{HoldsJudge}
use Rattle.tl_c.specs.Judging.{IsJudgeOfFile}
use Rattle.tl_c.specs.declared.held.HandleContent.{HandleContent}
use Rattle.tl_c.proofs.Told.{by_terms, no_file, of_file, then_written}
use Rattle.tl_c.proofs.making.tlx_judge_read_at.Goals as goal

pub returns-in-Ok-clause-ok : goal.returns-in-Ok-clause-ok
returns-in-Ok-clause-ok c ok =
    let file = c.args.file.now in
    by_terms c.args.links c.args.masters c.args.ports c.in-Some.terms
    (λ (t : Terms). HoldsJudge (IsJudgeOfFile t file) c.hold.new.handle.value)
    c.in-Some.ensures.links c.in-Some.ensures.masters c.in-Some.ensures.ports c.in-Some.ensures.within
    (subst (λ (v : Option HandleContent). HoldsJudge (IsJudgeOfFile c.in-Some.terms file) v) (sym (c.hold.ensures.ok ok))
    c.in-Ok.ensures.ok)

pub returns-in-Ok-clause-fault : goal.returns-in-Ok-clause-fault
returns-in-Ok-clause-fault c = no_file c.args.file.now c.hold.result c.hold.ensures.number

pub returns-in-Err-clause-fault : goal.returns-in-Err-clause-fault
returns-in-Err-clause-fault c =
    of_file c.args.file.now c.in-Err.fault c.refuse.result c.refuse.ensures.number c.in-Err.ensures.fault

pub returns-in-Err-clause-written : goal.returns-in-Err-clause-written
returns-in-Err-clause-written c =
    then_written c.args.room.now c.put_text.new.room c.refuse.new.room c.put_text.result c.refuse.new.written c.put_text.ensures.written
    c.refuse.ensures.written
