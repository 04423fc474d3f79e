-- What was fed is within the record, or ends it.
use Rattle.std.proofs.Common.{◌≡◌, [], length, arith, ◌∙◌}
use Rattle.std.proofs.lemmas.List.{drop_all}
use Rattle.csv.specs.Records.{fields_of}
use Rattle.check_records.specs.Draft.{partial}
use Rattle.check_records.specs.Reading.{row_of_draft}
use Rattle.check_records.specs.Source.{Between, at_hand, left}
use Rattle.check_records.proofs.SourceLemmas.{IsAdvance, answers-at-end, between-refill, gives-advance, within-advance}
use Rattle.check_records.proofs.WithinLemmas.{IsWithin}
use Rattle.check_records.proofs.records.read_begun.Goals as goal

pub returns-then-fed-clause-ok : goal.returns-then-fed-clause-ok
returns-then-fed-clause-ok g c =
    let read = g.R.Read.remaining in
    let from = left read c.args.source.now in
    let old = c.loop.source in
    let new = c.advance.new.self in
    let fed = c.in_ok-fed.fed in
    let does = c.in_ok-advance.ensures in
    let inv = c.loop.invariant in
    let is : IsAdvance old fed.taken fed.feeds new = record {
      feeds_are = rw c.text.ensures at c.in_ok-fed.ensures.feeds;
      text = does.text;
      line_is = does.line;
      same = does.reader;
    } in
    let ok = rw (c.if-fed.true, c.text.ensures) at c.in_ok-fed.ensures.ok in
    rw c.feed.ensures.line
    (gives-advance read from old new (partial c.loop.draft) c.loop.draft.line fed.taken fed.feeds ok.0
    (fields_of c.feed.new.self.columns)
    inv.within is ok.1 ok.2)

pub returns-then-not-branch-clause-ok : goal.returns-then-not-branch-clause-ok
returns-then-not-branch-clause-ok g c =
    let read = g.R.Read.remaining in
    let from = left read c.args.source.now in
    let old = c.loop.source in
    let mid = c.advance.new.self in
    let new = c.refill.new.self in
    let fed = c.in_ok-fed.fed in
    let does = c.in_ok-advance.ensures in
    let inv = c.loop.invariant in
    let line = c.loop.draft.line in
    let q = partial c.feed.new.self in
    let is : IsAdvance old fed.taken fed.feeds mid = record {
      feeds_are = rw c.text.ensures at c.in_ok-fed.ensures.feeds;
      text = does.text;
      line_is = does.line;
      same = does.reader;
    } in
    let ok = rw (c.if-fed.false, c.text.ensures) at c.in_ok-fed.ensures.ok in
    let within : Between from (left read mid) (λ a b. IsWithin a q line b) =
    within-advance read from old mid (partial c.loop.draft) q line fed.taken fed.feeds inv.within is ok.0 ok.1 in
    let none : at_hand mid ≡ [] = does.text ∙ rw ok.0 (drop_all (length (at_hand old)) (at_hand old) (omega arith)) in
    let last : Between from (left read new) (λ a b. IsWithin a q line b) =
    between-refill read from mid new (λ a b. IsWithin a q line b) within
    (record { none = none; text = c.in_ok-refill.ensures.text; line_is = c.refill.ensures.line }) in
    let end = c.in_ok-refill.ensures.end c.if-not-branch.true in
    answers-at-end read from new q line
    (row_of_draft c.finish.new.self) c.finish.result last end.0 end.1 ok.2.short c.finish.ensures.ends
    c.finish.ensures.fields (c.finish.ensures.line ∙ c.feed.ensures.line)

pub loop-preserved : goal.loop-preserved
loop-preserved g c =
    let read = g.R.Read.remaining in
    let from = left read c.args.source.now in
    let old = c.loop.source in
    let mid = c.advance.new.self in
    let new = c.refill.new.self in
    let fed = c.in_ok-fed.fed in
    let does = c.in_ok-advance.ensures in
    let inv = c.loop.invariant in
    let line = c.loop.draft.line in
    let q = partial c.feed.new.self in
    let is : IsAdvance old fed.taken fed.feeds mid = record {
      feeds_are = rw c.text.ensures at c.in_ok-fed.ensures.feeds;
      text = does.text;
      line_is = does.line;
      same = does.reader;
    } in
    let ok = rw (c.if-fed.false, c.text.ensures) at c.in_ok-fed.ensures.ok in
    let within : Between from (left read mid) (λ a b. IsWithin a q line b) =
    within-advance read from old mid (partial c.loop.draft) q line fed.taken fed.feeds inv.within is ok.0 ok.1 in
    let none : at_hand mid ≡ [] = does.text ∙ rw ok.0 (drop_all (length (at_hand old)) (at_hand old) (omega arith)) in
    let last : Between from (left read new) (λ a b. IsWithin a q line b) =
    between-refill read from mid new (λ a b. IsWithin a q line b) within
    (record { none = none; text = c.in_ok-refill.ensures.text; line_is = c.refill.ensures.line }) in
    record { draft = ok.2; within = rw c.feed.ensures.line last; line = c.feed.ensures.line ∙ inv.line }
