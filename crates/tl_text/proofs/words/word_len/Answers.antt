-- Nothing stands before the first part yet.
use Rattle.std.proofs.Common.{arith}
use Rattle.tl_text.proofs.WordLemmas.{before_nothing}
use Rattle.tl_text.proofs.words.word_len.Goals as goal

pub loop-len-init : goal.loop-len-init
loop-len-init c = record { inside = omega arith; parts = before_nothing c.args.line.now }
