-- One word more of the header.
use Rattle.std.proofs.Common.{◌≡◌, Err, sym, ◌∙◌}
use Rattle.check_vcd.specs.Fault.{on_line}
use Rattle.check_vcd.specs.Header.{Ends, Goes, Leads, header_of, step_of}
use Rattle.check_vcd.specs.declared.fault.DumpFault.TheVariants.{At}
use Rattle.check_vcd.proofs.DumpLemmas.{cut-by, opens-on, refused-by, same-faults}
use Rattle.check_vcd.proofs.dump.read_header.Goals as goal

pub returns-then-not-branch-clause-wrong : goal.returns-then-not-branch-clause-wrong
returns-then-not-branch-clause-wrong g c = λ line mistake is.
    cut-by c.args.words.now.left c.loop.words.left c.read.new.self.left (header_of c.loop.header) line mistake
    c.loop.invariant (rw c.if-not-branch.true at c.in_ok-read.ensures.ok) (cc)

pub returns-in-Ok-true-clause-ok : goal.returns-in-Ok-true-clause-ok
returns-in-Ok-true-clause-ok g c =
    let word = c.read.new.self.word in
    let does : step_of (header_of c.loop.header) word.bytes ≡ Ends (header_of c.take.new.self) =
    rw (c.in-Ok-true.field-0-test, c.bytes.ensures) at c.in-Ok-true.ensures in
    opens-on c.args.words.now.left c.loop.words.left c.read.new.self.left word (header_of c.loop.header)
    (Ends (header_of c.take.new.self)) c.loop.invariant (rw c.if-not-branch.false at c.in_ok-read.ensures.ok) does

pub returns-in-Err-clause-wrong : goal.returns-in-Err-clause-wrong
returns-in-Err-clause-wrong g c = λ line mistake is.
    let word = c.read.new.self.word in
    let same : on_line word.line c.in-Err.fault ≡ At line mistake =
    rw c.line-in-Err.ensures at (sym c.on.ensures ∙ same-faults c.on.result (At line mistake) is) in
    let does : Leads (Err c.in-Err.fault) (step_of (header_of c.loop.header) word.bytes) c.take.new.self =
    rw (c.in-Err.is, c.bytes.ensures) at c.take.ensures in
    refused-by c.args.words.now.left c.loop.words.left c.read.new.self.left word (header_of c.loop.header)
    c.in-Err.fault c.take.new.self line mistake
    c.loop.invariant (rw c.if-not-branch.false at c.in_ok-read.ensures.ok) does same

pub loop-preserved : goal.loop-preserved
loop-preserved g c =
    let word = c.read.new.self.word in
    let does : step_of (header_of c.loop.header) word.bytes ≡ Goes (header_of c.take.new.self) =
    rw (c.in-Ok-false.field-0-test, c.bytes.ensures) at c.in-Ok-false.ensures in
    opens-on c.args.words.now.left c.loop.words.left c.read.new.self.left word (header_of c.loop.header)
    (Goes (header_of c.take.new.self)) c.loop.invariant (rw c.if-not-branch.false at c.in_ok-read.ensures.ok) does
