-- The line that was taken is the record.
use Rattle.std.proofs.Common.{◌+◌, ◌∙◌, ap, take, drop, arith}
use Rattle.check_records.specs.Source.{at_hand, left}
use Rattle.check_records.specs.Bare.{comma_parts}
use Rattle.check_records.proofs.LineLemmas.{bare-ends, bare-feeds}
use Rattle.check_records.proofs.SourceLemmas.{IsAdvance, gives-advance, within-first}
use Rattle.check_records.proofs.WithinLemmas.{blank}
use Rattle.check_records.proofs.bare.take_bare.Goals as goal

pub returns-clause-yes : goal.returns-clause-yes
returns-clause-yes g c = λ _.
    let read = g.R.Read.remaining in
    let old = c.args.source.now in
    let mid = c.note_bare.new.self in
    let new = c.advance.new.self in
    let hand = at_hand old in
    let n = c.in-Some.length in
    let line = rw c.text-text.ensures at c.in-Some.ensures in
    let feeds = bare-feeds hand n line in
    let does = c.in_ok-advance.ensures in
    let is : IsAdvance old (n + 1) c.from-feeds.result new = record {
      feeds_are = grind (arith, feeds, c.from-feeds.ensures, c.text-text.ensures);
      text = does.text ∙ ap (drop (n + 1)) c.note_bare.ensures.text;
      line_is = omega (arith, does.line, c.note_bare.ensures.line);
      same = does.reader ∙ c.note_bare.ensures.reader;
    } in
    rw (does.bare ∙ c.note_bare.ensures.bare)
    (gives-advance read (left read old) old new blank old.line (n + 1) c.from-feeds.result n (comma_parts (take n hand))
    (within-first read old c.requires) is (bare-ends hand n line c.requires.1) line.short)
