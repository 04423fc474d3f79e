use Rattle.std.proofs.Common.{arith}
use Rattle.tl_types.proofs.Words.{length-bytes_of_words}
use Rattle.tl_types.proofs.reply.refill_words.Goals as goal

pub shared_ref_as_front-try_extend_from_slice : goal.shared_ref_as_front-try_extend_from_slice
shared_ref_as_front-try_extend_from_slice c = omega (arith, length-bytes_of_words c.args.words.now, c.requires)
