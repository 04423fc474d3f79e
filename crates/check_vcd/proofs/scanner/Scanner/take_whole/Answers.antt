-- The word that is at hand as a whole is the next one.
use Rattle.std.proofs.Common.{◌≡◌, ◌≤◌, ◌+◌, ◌<◌, ℕ, List, length, rules, subst, take, true, arith}
use Rattle.std.specs.Prelude.{slice_range}
use Rattle.check_vcd.specs.Words.{are_letters}
use Rattle.check_vcd.proofs.ScannerLemmas.{whole-word}
use Rattle.check_vcd.proofs.scanner.Scanner.take_whole.Goals as goal

pub returns-clause-some : goal.returns-clause-some
returns-clause-some g c =
    let old = c.args.self.now in
    let count = c.run_length-count.result in
    let within : old.next + count < old.filled = search rules in
    let inside : old.filled ≤ length old.chunk.items = search rules in
    let fits : old.filled ≤ 65536 = search rules in
    let are = subst (λ (xs : List ℕ). are_letters (take count (slice_range xs old.next old.filled)) ≡ true)
    c.deref.ensures.value c.run_length-count.ensures.letters in
    record {
      from = omega arith;
      inside = omega (arith, within, inside);
      word = whole-word old.chunk.items old.next old.filled count (omega (arith, c.if-count-eq0.false)) within inside fits
          old.next_line c.in_ok-after.after c.index-byte.result.now are (search rules) (search rules) (search rules);
    }
