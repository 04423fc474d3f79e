-- One word more of the body.
use Rattle.std.proofs.Common.{◌≡◌, Err, None, Some, sym, ◌∙◌}
use Rattle.check_vcd.specs.Body.{Tells, body_of, step_of, told}
use Rattle.check_vcd.specs.Codes.{find_in}
use Rattle.check_vcd.specs.Dump.{Dumping}
use Rattle.check_vcd.specs.Fault.{on_line}
use Rattle.check_vcd.specs.declared.fault.DumpFault.TheVariants.{At}
use Rattle.check_vcd.proofs.DumpLemmas.{happened-none, happened-some, happens-on, same-faults, wrong-by}
use Rattle.check_vcd.proofs.dump.Dump.read.Goals as goal

pub returns-then-not-branch-clause-ok : goal.returns-then-not-branch-clause-ok
returns-then-not-branch-clause-ok g c =
    let inv = c.loop.invariant in
    let inside = c.loop.self-inside in
    let new : Dumping = record { words = c.read.new.self.left; codes = inside.body.codes; body = body_of inside.body } in
    happened-none c.args.self.now new inside.words.left inv.same_codes inv.same
    (rw c.if-not-branch.true at c.in_ok-read.ensures.ok)

pub returns-in-Ok-Some-clause-ok : goal.returns-in-Ok-Some-clause-ok
returns-in-Ok-Some-clause-ok g c =
    let inv = c.loop.invariant in
    let inside = c.loop.self-inside in
    let word = c.read.new.self.word in
    let end = c.take.new.self in
    let new : Dumping = record { words = c.read.new.self.left; codes = end.codes; body = body_of end } in
    let does : step_of (find_in c.args.self.now.codes) (body_of inside.body) word.line word.size word.bytes
    ≡ told (Some c.in-Ok-Some.event) (body_of end) =
    rw (c.in-Ok-Some.is, c.in-Ok-Some.field-0-is, c.bytes.ensures, c.size.ensures, c.line-line.ensures, inv.same_codes) at c.take.ensures.told in
    happened-some c.args.self.now new inside.words.left word (body_of inside.body) c.in-Ok-Some.event
    (c.take.ensures.codes ∙ inv.same_codes) inv.same
    (rw c.if-not-branch.false at c.in_ok-read.ensures.ok) does

pub returns-in-Err-clause-wrong : goal.returns-in-Err-clause-wrong
returns-in-Err-clause-wrong g c = λ line mistake is.
    let inv = c.loop.invariant in
    let inside = c.loop.self-inside in
    let word = c.read.new.self.word in
    let start = c.args.self.now in
    let same : on_line word.line c.in-Err.fault ≡ At line mistake =
    rw c.line-line.ensures at (sym c.on.ensures ∙ same-faults c.on.result (At line mistake) is) in
    let does : Tells (Err c.in-Err.fault)
    (step_of (find_in start.codes) (body_of inside.body) word.line word.size word.bytes) c.take.new.self =
    rw (c.in-Err.is, c.bytes.ensures, c.size.ensures, c.line-line.ensures, inv.same_codes) at c.take.ensures.told in
    wrong-by (find_in start.codes) start.words inside.words.left c.read.new.self.left word start.body
    (body_of inside.body) c.in-Err.fault c.take.new.self line mistake inv.same
    (rw c.if-not-branch.false at c.in_ok-read.ensures.ok) does same

pub loop-preserved : goal.loop-preserved
loop-preserved g c =
    let inv = c.loop.invariant in
    let inside = c.loop.self-inside in
    let word = c.read.new.self.word in
    let start = c.args.self.now in
    let does : step_of (find_in start.codes) (body_of inside.body) word.line word.size word.bytes
    ≡ told None (body_of c.take.new.self) =
    rw (c.in-Ok-None.is, c.in-Ok-None.field-0-is, c.bytes.ensures, c.size.ensures, c.line-line.ensures, inv.same_codes) at c.take.ensures.told in
    record {
      same = happens-on (find_in start.codes) start.words inside.words.left c.read.new.self.left word start.body
          (body_of inside.body) (told None (body_of c.take.new.self)) inv.same
          (rw c.if-not-branch.false at c.in_ok-read.ensures.ok) does;
      same_codes = c.take.ensures.codes ∙ inv.same_codes;
    }
