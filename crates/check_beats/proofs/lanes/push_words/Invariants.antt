use Rattle.std.proofs.Common.{◌≡◌, ◌*◌, ◌++◌, take, Some}
use Rattle.std.specs.Prelude.{map}
use Rattle.check_beats.proofs.lanes.push_words.Given as goal

-- the first words are appended
abbrev pub invariant-loop-word : goal.invariant-loop-word
invariant-loop-word l = l.bytes ≡ l.initial.bytes ++ map (λ byte. Some byte) (take (8 * l.word) l.words)
