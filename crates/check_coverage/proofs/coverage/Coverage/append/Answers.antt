-- The text of the counts, of a system of so many ports.
use Rattle.std.proofs.Common.{◌≡◌, ◌∙◌, ℕ, List, ap, arith, length, subst}
use Rattle.std.specs.Prelude.{OnOk, ◌++◌}
use Rattle.tl_map.specs.declared.range.Range.{Range}
use Rattle.check_sides.specs.Plan.{Layout}
use Rattle.check_bins.specs.Text.{TellsCoverage}
use Rattle.check_coverage.specs.Bins.{bins}
use Rattle.check_coverage.proofs.coverage.Coverage.append.Goals as goal

pub returns-clause-told : goal.returns-clause-told
returns-clause-told c = λ plan earlier rows covers layout.
    let less : length c.map.result.now ≡ length plan.layout.ports =
    ap (λ (ports : List (List Range)). length ports) (c.map.ensures ∙ ap (λ (l : Layout). l.ports) layout) in
    let all = bins plan rows ++ earlier in
    subst (λ (ports : ℕ). OnOk c.append.result (TellsCoverage ports all c.args.text.now.items c.append.new.text.items))
    (omega (arith, less, c.ports.ensures.value)) (c.append.ensures.told all covers.counts)
