-- A source that had a request before, or had none.
use Rattle.std.proofs.Common.{◌∙◌, List, [], ◌∷◌, ap, sym, subst}
use Rattle.std.specs.Prelude.{OnOk}
use Rattle.check_bins.specs.declared.bin.Bin.{Bin}
use Rattle.check_bins.specs.declared.bin.Bin.TheVariants as bin
use Rattle.check_coverage.specs.Bins.{again}
use Rattle.check_bins.specs.Counting.{Adds}
use Rattle.check_bins.proofs.Counted.{adds_none}
use Rattle.check_coverage.proofs.waits.count_again.Goals as goal

pub returns-in-Some : goal.returns-in-Some
returns-in-Some c = λ this is_this.
    subst (λ (l : List Bin). OnOk c.add.result (Adds c.args.counts.now c.add.new.self l))
    ((λ i. bin.Again (is_this i).master (c.step_between.ensures i) ∷ []) ∙ ap (again c.args.rules this c.args.time) (sym c.in-Some.is))
    c.add.ensures

pub returns-in-None : goal.returns-in-None
returns-in-None c = λ this is_this.
    subst (λ (l : List Bin). Adds c.args.counts.now c.args.counts.now l)
    (ap (again c.args.rules this c.args.time) (sym c.in-None.is)) (adds_none c.args.counts.now)
