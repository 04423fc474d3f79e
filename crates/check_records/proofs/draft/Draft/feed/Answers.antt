-- What was taken at once, and then byte by byte.
use Rattle.std.proofs.Common.{◌≡◌, ◌+◌, Err, ap, ◌∙◌, take, drop, arith, take-add}
use Rattle.std.proofs.lemmas.Result.{err_from_is_err_and}
use Rattle.check_records.specs.Draft.{partial}
use Rattle.check_records.specs.Text.{line_feeds}
use Rattle.check_records.specs.declared.draft.Fed.{Fed}
use Rattle.check_records.specs.declared.fault.RecordFault.TheVariants.{TooLong}
use Rattle.check_records.proofs.FeedLemmas.{feeds-on, long-on, part-behind}
use Rattle.check_records.proofs.TextLemmas.{feeds-append}
use Rattle.check_records.proofs.draft.Draft.feed.Goals as goal

pub returns-in_err-rest-clause-long : goal.returns-in_err-rest-clause-long
returns-in_err-rest-clause-long c = λ line is.
    let front = rw c.if-fields.false at c.in_ok-fields.ensures.ok in
    let behind = part-behind c.args.text.now c.in_ok-fields.fields.taken c.in_ok-fields.ensures.taken in
    let p = err_from_is_err_and c.from_residual-in_err-rest.result c.from_residual-in_err-rest.ensures.1 in
    let told : c.feed_bytes-2.result ≡ Err (TooLong line) = cc (p.1, p.2, is, c.in_err-rest.was) in
    let long = c.feed_bytes-2.ensures.long line told in (
      long.0 ∙ c.feed_fields.ensures.line,
      long-on (partial c.args.self.now) (partial c.feed_fields.new.self) c.args.text.now c.in_ok-fields.fields.taken front.1
          (rw behind at long.1),
    )

pub returns-clause-ok : goal.returns-clause-ok
returns-clause-ok c =
    let front = rw c.if-fields.false at c.in_ok-fields.ensures.ok in
    let behind = part-behind c.args.text.now c.in_ok-fields.fields.taken c.in_ok-fields.ensures.taken in
    let whole : Fed = record {
      taken = c.in_ok-fields.fields.taken + c.in_ok-rest.rest.taken;
      feeds = c.in_ok-fields.fields.feeds + c.in_ok-rest.rest.feeds;
      ended = c.in_ok-rest.rest.ended;
    } in
    feeds-on c.args.self.now c.feed_fields.new.self c.feed_bytes-2.new.self c.args.text.now c.in_ok-fields.fields.taken
    c.in_ok-rest.rest whole c.in_ok-rest.rest.ended c.in_ok-fields.ensures.taken front.1 (rw behind at c.in_ok-rest.ensures.ok) (omega arith)

pub returns-clause-feeds : goal.returns-clause-feeds
returns-clause-feeds c =
    let n = c.in_ok-fields.fields.taken in
    let m = c.in_ok-rest.rest.taken in
    let text = c.args.text.now in
    let parts : line_feeds (take (n + m) text) ≡ line_feeds (take n text) + line_feeds (take m (drop n text)) =
    ap line_feeds (take-add n m text) ∙ feeds-append (take n text) (take m (drop n text)) in
    let front = c.in_ok-fields.ensures.feeds in
    let rest = rw (part-behind text n c.in_ok-fields.ensures.taken) at c.in_ok-rest.ensures.feeds in
    omega (arith, parts, front, rest)
