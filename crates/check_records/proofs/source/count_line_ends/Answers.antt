-- One byte more ends a line.
use Rattle.std.proofs.Common.{arith, ap}
use Rattle.check_records.specs.Text.{is_line_end}
use Rattle.check_records.proofs.TextLemmas.{all-more, feeds-no, feeds-yes}
use Rattle.check_records.proofs.source.count_line_ends.Goals as goal
use Rattle.check_records.proofs.source.count_line_ends.Goals.{in-10, in-13}

pub loop-count-preserved : goal.loop-count-preserved
loop-count-preserved c =
    let text = c.args.text.now in
    let i = c.loop-count.count in
    let inv = c.loop-count.invariant in
    let inside = c.loop-count-test.true in
    elim c.match-byte.branch [
      | in-10 w ↦
          let feeds = feeds-yes text i inside w.in-10.is in
          record {
            all = all-more text i inside inv.all (ap is_line_end w.in-10.is);
            feeds = omega (arith, feeds);
            few = omega arith;
          }
      | in-13 w ↦
          let feeds = feeds-no text i inside (λ other. let is = w.in-13.is in omega (arith, other, is)) in
          record {
            all = all-more text i inside inv.all (ap is_line_end w.in-13.is);
            feeds = omega (arith, feeds);
            few = omega arith;
          }
    ]
