-- One line more, and all lines.
use Rattle.std.proofs.Common.{◌∙◌, ◌++◌, ℕ, List, append_assoc, append-nil, refl, ap, sym}
use Rattle.std.specs.Prelude.{flat_map}
use Rattle.tl_text.proofs.TextLemmas.{begins_appended, begins_before, begins_with_itself}
use Rattle.check_bins.specs.declared.bin.Bin.{Bin}
use Rattle.check_bins.specs.Text.{bin_line}
use Rattle.check_bins.specs.Counting.{bin_cmp}
use Rattle.check_bins.proofs.Telling.{on_err}
use Rattle.check_bins.proofs.counts.Counts.append_lines.Goals as goal

pub loop-bin-init : goal.loop-bin-init
loop-bin-init c = (
  ap (λ (l : List (Bin × ℕ)). c.args.text.now.items ++ flat_map (bin_line c.args.ports) l)
      (c.into_iter-bin-iterator.ensures.into_iter_gives ∙ c.iter-bin-items.ensures.rest),
  begins_with_itself c.args.text.now.items c.args.text.now.items refl,
)

pub loop-bin-preserved : goal.loop-bin-preserved
loop-bin-preserved c =
    let all = λ (l : List (Bin × ℕ)). flat_map (bin_line c.args.ports) l in
    let line = bin_line c.args.ports (c.in-Some.bin.now, c.in-Some.count.now) in (
      ap (λ (t : List ℕ). t ++ all c.next.new.self) c.in_ok-push_line.ensures.ok
          ∙ append_assoc c.loop-bin.text.items line (all c.next.new.self)
          ∙ ap (λ (l : List (Bin × ℕ)). c.loop-bin.text.items ++ all l) (sym c.in-Some.ensures.steps)
          ∙ c.loop-bin.invariant.0,
      begins_before _ _ _ (begins_appended c.loop-bin.text.items line _ c.in_ok-push_line.ensures.ok)
          c.loop-bin.invariant.1,
    )

pub returns-clause-told : goal.returns-clause-told
returns-clause-told c =
    sym (append-nil c.loop-bin.text.items)
    ∙ ap (λ (l : List (Bin × ℕ)). c.loop-bin.text.items ++ flat_map (bin_line c.args.ports) l) (sym c.in-None.ensures.steps.0)
    ∙ c.loop-bin.invariant.0

pub returns-in_err-push_line-clause-err : goal.returns-in_err-push_line-clause-err
returns-in_err-push_line-clause-err c =
    on_err c.from_residual.result (begins_before _ _ _ c.in_err-push_line.ensures.err c.loop-bin.invariant.1)

pub returns-clause-ordered : goal.returns-clause-ordered
unfolding bin_cmp
returns-clause-ordered c = c.iter-bin-items.ensures.ordered
