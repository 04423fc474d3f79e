-- One field more stands whole in the text.
use Rattle.std.proofs.Common.{◌≡◌, ◌<◌, ◌≤◌, ◌+◌, ◌++◌, ◌∷◌, [], get_or, length, slice_range, ◌∙◌, refl, arith}
use Rattle.std.proofs.lemmas.List.{take-take}
use Rattle.csv.specs.Records.{fields_of}
use Rattle.check_records.specs.Draft.{partial}
use Rattle.check_records.proofs.BareLemmas.{begins-behind, behind_fields, part-length, plain-at, ends-at, text-bare, text-comma, text-end, text-feeds}
use Rattle.check_records.proofs.TextLemmas.{feeds-more, feeds-no}
use Rattle.check_records.proofs.draft.Draft.feed_fields.Goals as goal

pub returns-then-text-end-ne44-clause-ok : goal.returns-then-text-end-ne44-clause-ok
returns-then-text-end-ne44-clause-ok c =
    let inv = c.loop-start.invariant in
    let text = c.args.text.now in
    let start = c.loop-start.start in
    let count = c.field_length.result in
    let end = start + count in
    let o = partial c.args.self.now in
    let p = behind_fields o (fields_of c.loop-start.self.columns) start in
    let most = c.min-most.ensures in
    let room = c.if-end-most.false in
    let inside : end < length text = omega (arith, most, room) in
    let low : start ≤ end = omega arith in
    let plain = plain-at text start count inv.inside c.field_length.ensures.plain in
    let ends = ends-at text start count inv.inside inside c.field_length.ensures.ends in
    let bare = text-bare p text start count (omega (arith, inside)) refl inv.begins c.if-text-start-eq34.false plain in
    let size = part-length text start end low inside in (
      p.size + length (slice_range text start end),
      rw (take-take (end + 1) (end + 1) text (omega arith), c.in_ok-push_field.ensures.fields, inv.whole)
          (text-end o p text start end low inside inv.begins bare inv.so_far ends c.if-text-end-ne44.true),
      omega (arith, size, room, most),
    )

pub returns-then-text-end-ne44-clause-feeds : goal.returns-then-text-end-ne44-clause-feeds
returns-then-text-end-ne44-clause-feeds c =
    let inv = c.loop-start.invariant in
    let text = c.args.text.now in
    let start = c.loop-start.start in
    let count = c.field_length.result in
    let most = c.min-most.ensures in
    let room = c.if-end-most.false in
    let inside : start + count < length text = omega (arith, most, room) in
    let before = text-feeds text start count (omega (arith, inside)) inv.feeds
    (plain-at text start count inv.inside c.field_length.ensures.plain) in
    let more = feeds-more text (start + count) inside in
    grind (arith, before, more)

pub loop-start-preserved : goal.loop-start-preserved
loop-start-preserved c =
    let inv = c.loop-start.invariant in
    let text = c.args.text.now in
    let start = c.loop-start.start in
    let count = c.field_length.result in
    let end = start + count in
    let o = partial c.args.self.now in
    let p = behind_fields o (fields_of c.loop-start.self.columns) start in
    let most = c.min-most.ensures in
    let room = c.if-end-most.false in
    let inside : end < length text = omega (arith, most, room) in
    let low : start ≤ end = omega arith in
    let comma = c.if-text-end-ne44.false in
    let plain = plain-at text start count inv.inside c.field_length.ensures.plain in
    let bare = text-bare p text start count (omega (arith, inside)) refl inv.begins c.if-text-start-eq34.false plain in
    let fields : fields_of c.push_field.new.self
    ≡ fields_of c.loop-start.self.columns ++ (slice_range text start end ∷ []) =
    rw inv.whole at c.in_ok-push_field.ensures.fields in
    record {
      whole = c.in_ok-push_field.ensures.partial;
      short = omega (arith, room, most);
      inside = omega (arith, inside);
      so_far = rw fields (text-comma o (fields_of c.loop-start.self.columns) text start end low inside inv.begins bare
          inv.so_far comma);
      begins = begins-behind o.state end (get_or text (end + 1) 0);
      feeds = feeds-no text end inside (λ is. omega (arith, is, comma))
          ∙ text-feeds text start count (omega (arith, inside)) inv.feeds plain;
      line = inv.line;
      state = inv.state;
      field = inv.field;
      size = inv.size;
    }
