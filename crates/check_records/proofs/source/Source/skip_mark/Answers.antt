-- Three bytes at most are at hand, which are the mark or not.
use Rattle.std.proofs.Common.{◌≡◌, ◌-◌, [], length, drop, slice_range, refl, arith, length-drop, length-take, sym, ◌∙◌}
use Rattle.std.proofs.lemmas.Slice.Eq.{bytes_eq-Decides}
use Rattle.check_records.specs.Source.{at_hand, text_left}
use Rattle.check_records.proofs.KnownLemmas.{prepend-none}
use Rattle.check_records.proofs.MarkLemmas.{mark, strip-no, strip-yes}
use Rattle.check_records.proofs.source.Source.skip_mark.Goals as goal

pub returns-then-eq-clause-text : goal.returns-then-eq-clause-text
returns-then-eq-clause-text g c =
    let read = g.R.Read.remaining in
    let old = c.args.self.now in
    let mid = c.read_front.new.self in
    let start : text_left read old ≡ read old.reader =
    rw (c.requires.front, c.requires.unread) (prepend-none (read old.reader)) in
    let kept = rw start at c.in_ok-read_front.ensures.text in
    let same = rw (c.text.ensures, c.as_slice.ensures) at (sym c.eq.ensures ∙ c.if-eq.true) in
    let is : at_hand mid ≡ mark = (bytes_eq-Decides (at_hand mid) mark).0 same in
    let few = c.read_front.ensures.few in
    let none : mid.filled - 3 ≡ 0 = omega (arith, few) in
    let gone : slice_range mid.chunk.items 3 mid.filled ≡ [] = rw none refl in
    rw (gone, prepend-none (read mid.reader)) (strip-yes (read old.reader) (read mid.reader) (at_hand mid) is kept)

pub returns-else-eq-clause-text : goal.returns-else-eq-clause-text
returns-else-eq-clause-text g c =
    let read = g.R.Read.remaining in
    let old = c.args.self.now in
    let mid = c.read_front.new.self in
    let start : text_left read old ≡ read old.reader =
    rw (c.requires.front, c.requires.unread) (prepend-none (read old.reader)) in
    let kept = rw start at c.in_ok-read_front.ensures.text in
    let other = rw (c.text.ensures, c.as_slice.ensures) at (sym c.eq.ensures ∙ c.if-eq.false) in
    let few = c.read_front.ensures.few in
    let front = c.read_front.ensures.front in
    let end = c.in_ok-read_front.ensures.end in
    let inside = mid.inside in
    let len = mid.chunk.ok.0 in
    let size : length (at_hand mid) ≡ mid.filled =
    omega (
      arith,
      front,
      inside,
      len,
      length-take (mid.filled - mid.next) (drop mid.next mid.chunk.items),
      length-drop mid.next mid.chunk.items,
    ) in
    strip-no (read old.reader) (read mid.reader) (at_hand mid) (omega (arith, size, few))
    (λ short. end (omega (arith, size, short))) other kept
