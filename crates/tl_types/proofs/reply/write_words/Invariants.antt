use Rattle.std.proofs.Common.{◌≡◌, ◌*◌, ◌++◌, drop, take}
use Rattle.tl_types.specs.Bytes.{bytes_of_words}
use Rattle.tl_types.proofs.reply.write_words.Given as goal

-- the words so far are written, and the bytes after them are as they were
abbrev pub invariant-loop-k : goal.invariant-loop-k
invariant-loop-k l = l.bytes ≡ bytes_of_words (take l.k l.words) ++ drop (8 * l.k) l.initial.bytes
