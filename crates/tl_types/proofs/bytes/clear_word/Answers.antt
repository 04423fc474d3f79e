use Rattle.std.proofs.Common.{◌==◌, ◌∙◌, take, replicate, w8, ap}
use Rattle.std.proofs.lemmas.Simd.{tops_compared}
use lib.Lanes.{put_chunk, sel_l}
use Rattle.tl_types.proofs.Masks.{word_cleared}
use Rattle.tl_types.proofs.bytes.clear_word.Goals as goal

pub returns : goal.returns
returns c =
    let flags = c.args.flags.now in
    let plain = c.args.bytes.now in
    ap (λ ms. put_chunk 0 plain (sel_l ms (replicate 8 0) (take 8 plain)))
    (tops_compared w8 (λ x y. x == y) (take 8 flags) (replicate 8 0))
    ∙ word_cleared flags plain c.requires.word c.requires.flags
