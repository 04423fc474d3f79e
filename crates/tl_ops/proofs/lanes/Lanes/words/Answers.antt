use Rattle.std.proofs.Common.{◌≡◌, ◌+◌, ◌-◌, ◌/◌, ◌≤◌, length, ap, arith}
use Rattle.tl_ops.proofs.LaneLists.{length-lanes_of, words_read}
use Rattle.tl_ops.proofs.lanes.Lanes.words.Goals as goal

pub overflow_add-result : goal.overflow_add-result
overflow_add-result c =
    record {
      fits = omega (
        arith,
        c.requires.inside,
        length-lanes_of c.self.inside.words.items,
        ap length c.self.view_is,
      );
    }

pub slice_bounds-result-end : goal.slice_bounds-result-end
slice_bounds-result-end c =
    let words = c.self.inside.words.items in
    omega (
      arith,
      c.requires.whole,
      c.requires.inside,
      length-lanes_of words,
      ap length c.self.view_is,
      ap length c.deref.ensures.value,
    )

pub returns : goal.returns
returns c =
    let words = c.self.inside.words.items in
    let first = c.args.start / 8 in
    let count : first + c.args.count - first ≡ c.args.count = omega arith in
    let within : first + c.args.count ≤ length words =
    omega (arith, c.requires.whole, c.requires.inside, length-lanes_of words, ap length c.self.view_is) in
    rw (c.deref.ensures.value, count, ← c.self.view_is)
    (words_read words c.args.start first c.args.count (omega (arith, c.requires.whole)) within)
