-- A line without a comma is one word, and another has several.
use Rattle.std.proofs.Common.{◌≡◌, ◌∙◌, ap, sym}
use Rattle.check_rows.specs.Column.{column_parts, is_cut}
use Rattle.check_rows.proofs.ColumnLemmas.{cut_more, cut_word, some-part}
use Rattle.check_rows.proofs.column.is_cut_line.Goals as goal

pub returns-in-Some : goal.returns-in-Some
returns-in-Some c =
    let cut = c.in-Some.field-0 in
    sym (cut_more cut.0.now (column_parts cut.1.now) (some-part cut.1.now))
    ∙ ap (λ parts. is_cut parts) (sym c.in-Some.ensures.some)

pub returns-in-None : goal.returns-in-None
returns-in-None c =
    c.eq.ensures ∙ cut_word c.args.line.now ∙ ap (λ parts. is_cut parts) (sym c.in-None.ensures.none)
