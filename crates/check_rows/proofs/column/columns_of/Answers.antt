-- One column more.
use Rattle.std.proofs.Common.{◌≡◌, ◌∙◌, ◌++◌, ◌∷◌, ◌<◌, List, ℕ, [], length, take, get_or, refl, sym, ap, arith}
use Rattle.std.proofs.lemmas.List.{length-set, take_more}
use Rattle.csv.specs.Records.{fields_of}
use Rattle.check_rows.specs.Column.{or_empty}
use Rattle.check_rows.proofs.ColumnLemmas.{field-word, found-word, words-last}
use Rattle.check_rows.proofs.column.columns_of.Goals as goal

pub loop-place-preserved : goal.loop-place-preserved
loop-place-preserved c =
    let fields = fields_of c.args.found.now in
    let words = c.loop-place.words in
    let i = c.loop-place.place in
    let size = c.loop-place.invariant.size in
    let below = c.loop-place-test.true in
    let inside : i < length words = omega (arith, size, below) in
    let count = c.len.ensures in
    let same = c.if-len-ne-COLUMNS.false in
    let within : i < length fields = omega (arith, count, same, below) in
    let word : c.unwrap_or.result.now ≡ get_or fields i [] =
    ap (λ w. w.now) c.unwrap_or.ensures ∙ found-word c.get.result _ refl ∙ ap or_empty c.get.ensures.value
    ∙ ap or_empty (field-word fields i within) in
    record {
      size = length-set words i c.unwrap_or.result ∙ size;
      words = words-last words i c.unwrap_or.result inside
          ∙ ap (λ (xs : List (List ℕ)). xs ++ c.unwrap_or.result.now ∷ []) c.loop-place.invariant.words
          ∙ ap (λ (x : List ℕ). take i fields ++ x ∷ []) word
          ∙ sym (take_more fields i [] within);
    }
