-- It is counted if there is one.
use Rattle.std.proofs.Common.{◌≡◌, ◌∙◌, List, ◌∷◌, [], ap, subst, sym}
use Rattle.std.specs.Prelude.{OnOk, if◌then◌else◌}
use Rattle.check_bins.specs.declared.bin.Bin.{Bin}
use Rattle.check_bins.specs.declared.bin.Bin.TheVariants as bin
use Rattle.check_coverage.specs.Bins.{bin_pair, overtook_at}
use Rattle.check_bins.specs.Counting.{Adds}
use Rattle.check_coverage.proofs.Adding.{overtook_is}
use Rattle.check_bins.proofs.Counted.{adds_none}
use Rattle.check_coverage.proofs.coverage.count_overtaken.Goals as goal

pub returns-then-is_overtaken : goal.returns-then-is_overtaken
returns-then-is_overtaken c = λ before this is is_this.
    let told : (bin.Overtook c.pair.result c.args.elsewhere ∷ []) ≡ overtook_at c.args.elsewhere before this =
    ap (λ p. bin.Overtook p c.args.elsewhere ∷ []) (c.pair.ensures this is_this)
    ∙ ap (λ b. if b then bin.Overtook (bin_pair this) c.args.elsewhere ∷ [] else []) (sym c.if-is_overtaken.true)
    ∙ overtook_is before this c.args.flights.now c.args.flight.now is is_this c.args.elsewhere c.is_overtaken.result
    c.is_overtaken.ensures in
    subst (λ (l : List Bin). OnOk c.add.result (Adds c.args.counts.now c.add.new.self l)) told c.add.ensures

pub returns-else-is_overtaken : goal.returns-else-is_overtaken
returns-else-is_overtaken c = λ before this is is_this.
    let told : [] ≡ overtook_at c.args.elsewhere before this =
    ap (λ b. if b then bin.Overtook (bin_pair this) c.args.elsewhere ∷ [] else []) (sym c.if-is_overtaken.false)
    ∙ overtook_is before this c.args.flights.now c.args.flight.now is is_this c.args.elsewhere c.is_overtaken.result
    c.is_overtaken.ensures in
    subst (λ (l : List Bin). Adds c.args.counts.now c.args.counts.now l) told (adds_none c.args.counts.now)
