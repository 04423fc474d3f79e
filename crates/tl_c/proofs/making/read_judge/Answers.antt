-- A fault of the parts is the first of the file, if no image lacks.
use Rattle.std.proofs.Common.{rules, ◌≢◌, Result, Ok, Err, IfErr, inr}
use Rattle.check_description.specs.Description.{IsFirstFaultOf}
use Rattle.check_keys.specs.declared.fault.SystemFault.{SystemFault}
use Rattle.check_keys.specs.declared.fault.SystemFault.TheVariants.{Memory}
use Rattle.tl_c.specs.Draft.{IsDraftOf, IsFirstFileFault, LacksNone}
use Rattle.tl_c.proofs.Told.{parts_fault}
use Rattle.tl_c.proofs.making.read_judge.Goals as goal

each_err : {X E : Type 0} (r : Result X E) (P Q : E → Type 0) → ((e : E) → P e → Q e) → IfErr r P → IfErr r Q
each_err (Ok x) P Q to is = tt
each_err (Err e) P Q to is = to e is

pub returns-clause-fault : goal.returns-clause-fault
returns-clause-fault c =
    let draft = c.in_ok-draft.draft in
    let none : LacksNone draft = search rules in
    let named : IsDraftOf c.args.file.now draft = search rules in
    each_err c.make_judge.result (λ (fault : SystemFault). fault ≢ Memory → IsFirstFaultOf draft.parts fault)
    (λ (fault : SystemFault). fault ≢ Memory → IsFirstFileFault c.args.file.now fault)
    (λ fault first known. inr (draft, named, parts_fault draft fault none (first known))) c.make_judge.ensures.fault
