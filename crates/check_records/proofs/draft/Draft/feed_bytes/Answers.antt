-- The next byte of the text.
use Rattle.std.proofs.Common.{◌≡◌, Err, arith, ◌∙◌}
use Rattle.std.proofs.lemmas.Result.{err_from_is_err_and}
use Rattle.check_records.specs.Draft.{partial}
use Rattle.check_records.specs.declared.fault.RecordFault.TheVariants.{TooLong}
use Rattle.check_records.proofs.DraftLemmas.{feed-ends, feed-long, feed-more}
use Rattle.check_records.proofs.TextLemmas.{feeds-no, feeds-yes}
use Rattle.check_records.proofs.draft.Draft.feed_bytes.Goals as goal
use Rattle.check_records.proofs.draft.Draft.feed_bytes.Goals.{else-byte-eq10, then-byte-eq10}

pub returns-in_err-take_byte-clause-long : goal.returns-in_err-take_byte-clause-long
returns-in_err-take_byte-clause-long c = λ line is.
    let inv = c.loop-i.invariant in
    let p = err_from_is_err_and c.from_residual.result c.from_residual.ensures.1 in
    let told : c.take_byte.result ≡ Err (TooLong line) = cc (p.1, p.2, is, c.in_err-take_byte.was) in
    let long = c.take_byte.ensures.long line told in (
      long.0 ∙ inv.line,
      feed-long (partial c.args.self.now)
          (partial c.loop-i.self) c.args.text.now c.loop-i.i c.loop-i-test.true inv.so_far long.1 long.2,
    )

pub returns-then-branch-clause-ok : goal.returns-then-branch-clause-ok
returns-then-branch-clause-ok c =
    let inv = c.loop-i.invariant in
    let ok = rw c.if-branch.true at c.in_ok-take_byte.ensures.ok in (
      c.loop-i.self.size,
      rw ok.1 (feed-ends (partial c.args.self.now)
          (partial c.loop-i.self) c.args.text.now c.loop-i.i c.loop-i-test.true inv.so_far ok.0),
      inv.draft.short,
    )

pub loop-i-preserved : goal.loop-i-preserved
loop-i-preserved c =
    let inv = c.loop-i.invariant in
    let ok = rw c.if-branch.false at c.in_ok-take_byte.ensures.ok in
    let text = c.args.text.now in
    let i = c.loop-i.i in
    let inside = c.loop-i-test.true in
    elim c.if-byte-eq10.branch [
      | then-byte-eq10 w ↦
          let feeds = feeds-yes text i inside w.if-byte-eq10.true in
          record {
            draft = ok.2;
            so_far = rw ok.1 (feed-more (partial c.args.self.now)
                (partial c.loop-i.self) text i inside inv.so_far ok.0);
            feeds = omega (arith, feeds);
            few = omega arith;
            line = c.take_byte.ensures.line ∙ inv.line;
          }
      | else-byte-eq10 w ↦
          let feeds = feeds-no text i inside w.if-byte-eq10.false in
          record {
            draft = ok.2;
            so_far = rw ok.1 (feed-more (partial c.args.self.now)
                (partial c.loop-i.self) text i inside inv.so_far ok.0);
            feeds = omega (arith, feeds);
            few = omega arith;
            line = c.take_byte.ensures.line ∙ inv.line;
          }
    ]
