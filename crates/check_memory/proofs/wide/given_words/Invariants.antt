use Rattle.std.proofs.Common.{◌≡◌, ◌*◌, ◌++◌, length, drop}
use Rattle.tl_types.specs.Bytes.{bytes_of_words}
use Rattle.check_memory.specs.Known.{known}
use Rattle.check_memory.proofs.wide.given_words.Given as goal

-- the bytes so far, and those of the words that are left
abbrev pub invariant-loop-word : goal.invariant-loop-word
invariant-loop-word l = record {
  gathered : l.bytes ++ known (bytes_of_words (drop l.word-index l.words)) ≡ known (bytes_of_words l.words);
  counted : length l.bytes ≡ 8 * l.word-index;
}
