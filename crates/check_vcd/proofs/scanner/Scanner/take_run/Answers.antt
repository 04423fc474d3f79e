-- The bytes up to the first blank belong to the word at hand.
use Rattle.std.proofs.Common.{◌≡◌, ◌+◌, ◌≤◌, ℕ, List, rules, subst, take, true}
use Rattle.std.specs.Prelude.{slice_range}
use Rattle.check_vcd.specs.Words.{are_letters}
use Rattle.check_vcd.proofs.ScannerLemmas.{took-run}
use Rattle.check_vcd.proofs.scanner.Scanner.take_run.Goals as goal

pub returns-clause-ok : goal.returns-clause-ok
returns-clause-ok g c =
    let old = c.args.self.now in
    let count = c.run_length-count.result in
    let inside : old.next + count ≤ old.filled = search rules in
    let are = subst (λ (xs : List ℕ). are_letters (take count (slice_range xs old.next old.filled)) ≡ true)
    c.deref.ensures.value c.run_length-count.ensures.letters in
    let pushed = c.push_run.ensures in
    took-run old c.push_run.new.self count c.push_run.result inside are c.requires pushed.front pushed.next pushed.chunk
    pushed.filled pushed.line
