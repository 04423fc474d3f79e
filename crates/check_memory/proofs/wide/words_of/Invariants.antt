use Rattle.std.proofs.Common.{◌≡◌, ◌*◌, length, take}
use Rattle.tl_types.specs.Bytes.{bytes_of_words}
use Rattle.check_memory.proofs.wide.words_of.Given as goal

-- the words so far spell the bytes so far
abbrev pub invariant-loop-k : goal.invariant-loop-k
invariant-loop-k l = record {
  spelled : bytes_of_words (take l.k l.words) ≡ take (8 * l.k) l.bytes;
  counted : length l.words ≡ 32;
}
