-- The ends of lines at hand are skipped, and where nothing is left at hand more is read.
use Rattle.std.proofs.Common.{arith}
use Rattle.std.proofs.lemmas.Grind.{common_steps}
use Rattle.std.proofs.lemmas.List.{nil_from_length}
use Rattle.check_records.specs.Source.{Between, HasSameNext, at_hand, left}
use Rattle.check_records.proofs.KnownLemmas.{between-trans}
use Rattle.check_records.proofs.SourceLemmas.{IsAdvance, between-refill, skipped}
use Rattle.check_records.proofs.TextLemmas.{same-trans}
use Rattle.check_records.proofs.source.Source.skip_line_ends.Goals as goal

pub returns-then-not-is_empty-clause-skips : goal.returns-then-not-is_empty-clause-skips
returns-then-not-is_empty-clause-skips g c =
    let read = g.R.Read.remaining in
    let old = c.loop.self in
    let new = c.advance.new.self in
    let ends = c.count_line_ends-ends in
    let does = c.in_ok-advance.ensures in
    let is : IsAdvance old ends.result.count ends.result.feeds new = record {
      feeds_are = rw c.text.ensures at ends.ensures.feeds;
      text = does.text;
      line_is = does.line;
      same = does.reader;
    } in
    between-trans (left read c.args.self.now) (left read old)
    (left read new) HasSameNext HasSameNext HasSameNext same-trans c.loop.invariant
    (skipped read old new ends.result.count ends.result.feeds is (rw c.text.ensures at ends.ensures.all))

pub returns-then-not-branch-clause-skips : goal.returns-then-not-branch-clause-skips
returns-then-not-branch-clause-skips g c =
    let read = g.R.Read.remaining in
    let old = c.loop.self in
    let mid = c.advance.new.self in
    let new = c.refill.new.self in
    let ends = c.count_line_ends-ends in
    let does = c.in_ok-advance.ensures in
    let is : IsAdvance old ends.result.count ends.result.feeds mid = record {
      feeds_are = rw c.text.ensures at ends.ensures.feeds;
      text = does.text;
      line_is = does.line;
      same = does.reader;
    } in
    let so_far : Between (left read c.args.self.now) (left read mid) HasSameNext =
    between-trans (left read c.args.self.now) (left read old)
    (left read mid) HasSameNext HasSameNext HasSameNext same-trans c.loop.invariant
    (skipped read old mid ends.result.count ends.result.feeds is (rw c.text.ensures at ends.ensures.all)) in
    between-refill read (left read c.args.self.now) mid new HasSameNext so_far
    (record {
      none = nil_from_length (at_hand mid)
          (grind (arith, common_steps, c.is_empty.ensures, c.text-in-loop.ensures, c.if-not-is_empty.false));
      text = c.in_ok-refill.ensures.text;
      line_is = c.refill.ensures.line;
    })

pub loop-preserved : goal.loop-preserved
loop-preserved g c =
    let read = g.R.Read.remaining in
    let old = c.loop.self in
    let mid = c.advance.new.self in
    let new = c.refill.new.self in
    let ends = c.count_line_ends-ends in
    let does = c.in_ok-advance.ensures in
    let is : IsAdvance old ends.result.count ends.result.feeds mid = record {
      feeds_are = rw c.text.ensures at ends.ensures.feeds;
      text = does.text;
      line_is = does.line;
      same = does.reader;
    } in
    let so_far : Between (left read c.args.self.now) (left read mid) HasSameNext =
    between-trans (left read c.args.self.now) (left read old)
    (left read mid) HasSameNext HasSameNext HasSameNext same-trans c.loop.invariant
    (skipped read old mid ends.result.count ends.result.feeds is (rw c.text.ensures at ends.ensures.all)) in
    between-refill read (left read c.args.self.now) mid new HasSameNext so_far
    (record {
      none = nil_from_length (at_hand mid)
          (grind (arith, common_steps, c.is_empty.ensures, c.text-in-loop.ensures, c.if-not-is_empty.false));
      text = c.in_ok-refill.ensures.text;
      line_is = c.refill.ensures.line;
    })
