use Rattle.std.proofs.Common.{◌≡◌, ◌∙◌, ◌+◌, ◌*◌, ◌/◌, ◌≤◌, length, arith}
use Rattle.tl_ops.proofs.Merges.{window_grows}
use Rattle.tl_ops.proofs.lanes.Lanes.put.Goals as goal

pub loop-k-preserved : goal.loop-k-preserved
loop-k-preserved c =
    let start = c.args.start in
    let done = 8 * c.loop-k.k in
    let place : 8 * (start / 8 + c.loop-k.k) ≡ start + done =
    omega (
      arith,
      c.requires.fits.whole_start
          (omega (arith, c.if-width-lt-WORD_BYTES.false, c.len-width.ensures.value)),
    ) in
    let more : 8 * (c.loop-k.k + 1) ≡ done + 8 = omega arith in
    let enough : done + 8 ≤ length c.args.given.now = omega arith in
    let grown = window_grows c.args.self.now start done 8 c.args.given.now
    (omega (arith, enough, c.requires.inside)) enough in (
      c.put_word.ensures.after ∙ rw (place, more, c.loop-k.invariant.0) grown,
      c.put_word.ensures.len
          ∙ c.loop-k.invariant.1,
    )
