-- It is the first beat of a reply, or a later one.
use Rattle.std.proofs.Common.{◌∙◌, ◌-◌, Bool, List, [], ◌∷◌, ap, sym, subst}
use Rattle.std.specs.Prelude.{OnOk, if◌then◌else◌}
use Rattle.check_bins.specs.declared.bin.Bin.{Bin}
use Rattle.check_bins.specs.declared.bin.Bin.TheVariants as bin
use Rattle.check_beats.specs.Rules.{clocks_in}
use Rattle.check_coverage.specs.Bins.{step_of}
use Rattle.check_bins.specs.Counting.{Adds}
use Rattle.check_bins.proofs.Counted.{adds_none}
use Rattle.check_coverage.proofs.waits.count_latency.Goals as goal

pub returns-then-is_some : goal.returns-then-is_some
returns-then-is_some c = λ this is_this.
    subst (λ (l : List Bin). Adds c.args.counts.now c.args.counts.now l)
    (ap (λ (b : Bool). if b then []
    else bin.Latency this.port (step_of (clocks_in c.args.rules (c.args.time - c.args.times.began))) ∷ [])
    (sym (sym c.is_some.ensures ∙ c.if-is_some.true)))
    (adds_none c.args.counts.now)

pub returns : goal.returns
returns c = λ this is_this.
    subst (λ (l : List Bin). OnOk c.add.result (Adds c.args.counts.now c.add.new.self l))
    ((λ i. bin.Latency (is_this i).port (c.step_between.ensures i) ∷ [])
    ∙ ap (λ (b : Bool). if b then []
    else bin.Latency this.port (step_of (clocks_in c.args.rules (c.args.time - c.args.times.began))) ∷ [])
    (sym (sym c.is_some.ensures ∙ c.if-is_some.false)))
    c.add.ensures
