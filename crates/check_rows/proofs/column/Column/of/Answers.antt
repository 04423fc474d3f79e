-- The word at the place of each column.
use Rattle.std.proofs.Common.{[], ◌∙◌, sym, arith}
use Rattle.std.proofs.lemmas.List.{length-map}
use Rattle.check_rows.specs.Column.{place_of_column}
use Rattle.check_rows.proofs.ColumnLemmas.{word-at}
use Rattle.check_rows.proofs.column.Column.of.Goals as goal

pub returns-clause-value : goal.returns-clause-value
returns-clause-value c =
    let words = c.args.columns.now.words in
    let size = c.type_inv.columns in
    let small = c.place.ensures.inside in
    let is = c.place.ensures.value in
    rw is (sym (word-at words (place_of_column c.args.self) (record { ref_ptr = (0, 0); now = [] })
    (omega (arith, size, small, is))))

pub returns-clause-count : goal.returns-clause-count
returns-clause-count c = length-map c.args.columns.now.words (λ word. word.now) ∙ c.type_inv.columns
