use Rattle.std.proofs.Common.{◌≡◌, ◌∙◌, [], Some, get_or, length, ap, sym, arith, eqb-true, eq-eqb}
use Rattle.csv.specs.Records.{field_at, fields_of}
use Rattle.check_rows.specs.Column.{header}
use Rattle.check_text.proofs.HeaderLemmas.{field_inside, one_more, same_fields}
use Rattle.check_text.proofs.header.is_header.Goals as goal

pub loop-place-init : goal.loop-place-init
loop-place-init c j within = absurd (omega (arith, within))

pub returns-then-not-has : goal.returns-then-not-has
returns-then-not-has c =
    let is_word : fields_of c.args.columns.now ≡ header
    → field_at (fields_of c.args.columns.now) c.loop-place.place ≡ Some c.column_name.result.now =
    λ is. ap (λ f. field_at f c.loop-place.place) is
    ∙ field_inside header c.loop-place.place (omega (arith, c.loop-place-test.true))
    ∙ ap Some (sym c.column_name.ensures) in
    (λ no. absurd (cc no), λ is. sym c.if-not-has.true ∙ c.has.ensures.1 (is_word is))

pub loop-place-preserved : goal.loop-place-preserved
loop-place-preserved c =
    one_more (λ j. field_at (fields_of c.args.columns.now) j ≡ Some
    (get_or header j [])) c.loop-place.place c.loop-place.invariant
    (c.has.ensures.0 c.if-not-has.false ∙ ap Some c.column_name.ensures)

pub returns : goal.returns
returns c = (
  λ yes. same_fields (fields_of c.args.columns.now) header (sym c.len.ensures ∙ eqb-true c.len.result 12 yes)
      (λ j within. c.loop-place.invariant j (omega (arith, within, c.loop-place-test.false))),
  λ is. eq-eqb c.len.result 12 (c.len.ensures ∙ ap length is),
)
