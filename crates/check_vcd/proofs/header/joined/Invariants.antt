-- The words so far stand before the rest.
use Rattle.std.proofs.Common.{◌≡◌, ◌++◌, drop, map}
use Rattle.check_vcd.specs.Header.{joined}
use Rattle.check_vcd.proofs.header.joined.Given as goal

abbrev pub invariant-loop-word : goal.invariant-loop-word
invariant-loop-word l =
    l.text.items ++ joined (map (λ word. word.items) (drop l.word-index l.words))
    ≡ joined (map (λ word. word.items) l.words)
