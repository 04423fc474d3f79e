-- The header that the words to come end is that of all.
use Rattle.std.proofs.Common.{◌≡◌}
use Rattle.check_vcd.specs.Header.{blank, header_of, opening}
use Rattle.check_vcd.specs.Words.{Both}
use Rattle.check_vcd.proofs.dump.read_header.Given as goal

abbrev pub invariant-loop : goal.invariant-loop
invariant-loop g l =
    Both l.fn.words.left l.words.left (λ from to. opening from blank ≡ opening to (header_of l.header))
