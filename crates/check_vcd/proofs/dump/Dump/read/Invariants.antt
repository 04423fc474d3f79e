-- What is left to happen is what was.
use Rattle.std.proofs.Common.{◌≡◌}
use Rattle.check_vcd.specs.Body.{body_of, happenings}
use Rattle.check_vcd.specs.Codes.{find_in}
use Rattle.check_vcd.specs.Words.{Both}
use Rattle.check_vcd.proofs.dump.Dump.read.Given as goal

abbrev pub invariant-loop : goal.invariant-loop
invariant-loop g l = record {
  same : Both l.fn.self.words l.self-inside.words.left
      (λ from to. happenings (find_in l.fn.self.codes) from l.fn.self.body
      ≡ happenings (find_in l.fn.self.codes) to (body_of l.self-inside.body));
  same_codes : l.self-inside.body.codes ≡ l.fn.self.codes;
}
