-- Nothing else stands in the columns, and the first lane is zero.
use Rattle.std.proofs.Common.{◌≡◌, ◌∙◌, ℕ, ◌<◌, Bool, true, List, [], ◌∷◌, drop, length, slice_set, take, ap, arith, refl, sym}
use Rattle.check_rows.specs.Columns.{are_empty}
use Rattle.check_rows.specs.Column.{column_words}
use Rattle.check_rows.specs.Row.{row_or_reset}
use Rattle.check_rows.proofs.row.read_reset_row.Goals as goal

first_lane : (lanes : List ℕ) → 0 < length lanes → take 1 (slice_set lanes 0 0) ≡ 0 ∷ []
first_lane [] some = absurd (omega (arith, some))
first_lane (lane ∷ lanes) some = refl

pub returns-clause-value : goal.returns-clause-value
unfolding row_or_reset
returns-clause-value c =
    let empty : are_empty (drop 2 (column_words c.args.columns.now)) ≡ true =
    ap are_empty (sym c.after_link.ensures) ∙ sym c.are_empty.ensures ∙ c.if-not-are_empty.false in
    let lane = first_lane c.args.lanes.now (omega (arith, c.told-lanes)) in
    rw (empty, c.reset.ensures, lane) refl
