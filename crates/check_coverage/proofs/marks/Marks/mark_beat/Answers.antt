-- One lane more, and all of the beat.
use Rattle.std.proofs.Common.{◌≡◌, ◌∙◌, ◌++◌, ◌^◌, ap, arith, rules}
use Rattle.std.specs.Prelude.{min}
use Rattle.check_beats.specs.Bus.{bus_bytes}
use Rattle.check_coverage.specs.Shape.{lanes_given, marks_of}
use Rattle.check_coverage.proofs.Bytes.{lanes_more}
use Rattle.check_coverage.proofs.marks.Marks.mark_beat.Goals as goal

pub loop-k-preserved : goal.loop-k-preserved
loop-k-preserved c = λ size bytes span was.
    c.mark.ensures size (bytes ++ lanes_given c.args.beat.now.mask c.first_lane-first.result c.loop-k.k) span
    (c.loop-k.invariant size bytes span was)
    ∙ ap (marks_of size) (lanes_more bytes c.args.beat.now.mask c.first_lane-first.result c.loop-k.k _ c.is_set.ensures)

pub returns : goal.returns
returns c = λ size bytes span was.
    let end : c.loop-k.k ≡ c.min-count.result = omega (arith, c.loop-k-test.false, c.loop-k.auto.k-end) in
    let count : c.min-count.result ≡ min (bus_bytes c.args.bus) (2 ^ c.args.beat.now.size) = search rules in
    c.loop-k.invariant size bytes span was
    ∙ (λ i. marks_of size
    (bytes ++ lanes_given c.args.beat.now.mask (c.first_lane-first.ensures.value i) ((end ∙ count) i)))
