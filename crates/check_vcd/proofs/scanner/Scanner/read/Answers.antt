-- At the end of the text no word is left.
use Rattle.std.proofs.Common.{[], ◌≡◌}
use Rattle.check_vcd.specs.Words.{nothing}
use Rattle.check_vcd.specs.Scanner.{front, left}
use Rattle.check_vcd.proofs.LeftLemmas.{AreSame, ends-words, goes-on, refilled, same-then, same-trans}
use Rattle.check_vcd.proofs.scanner.Scanner.read.Goals as goal

pub returns-then-not-branch-clause-ok : goal.returns-then-not-branch-clause-ok
returns-then-not-branch-clause-ok g c =
    let read = g.R.Read.remaining in
    let start = c.args.self.now in
    let old = c.loop.self in
    let mid = c.take_bytes.new.self in
    let new = c.refill.new.self in
    let takes = rw c.if-branch.false at c.in_ok-take_bytes.ensures.ok in
    let none = c.in_ok-take_bytes.ensures.all c.if-branch.false in
    let end = c.in_ok-refill.ensures.end c.if-not-branch.true in
    let one = goes-on read old mid c.take_bytes.ensures.reader takes in
    let two = refilled read mid new none c.in_ok-refill.ensures.text c.refill.ensures.line c.refill.ensures.word in
    let so_far : AreSame (left read start nothing) (left read old (front old)) = c.loop.invariant.same in
    same-then (left read start nothing) (left read new (front new)) (left read new nothing)
    (λ x y. (x ≡ []) × (y ≡ []))
    (same-trans (left read start nothing) (left read old (front old)) (left read new (front new)) so_far
    (same-trans (left read old (front old)) (left read mid (front mid)) (left read new (front new)) one two))
    (ends-words read new end.0 end.1)
