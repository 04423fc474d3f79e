-- It is counted if it is contested.
use Rattle.std.proofs.Common.{◌≡◌, ◌∙◌, List, ◌∷◌, [], ap, subst, sym}
use Rattle.std.specs.Prelude.{OnOk, if◌then◌else◌}
use Rattle.check_bins.specs.declared.bin.Bin.{Bin}
use Rattle.check_bins.specs.declared.bin.Bin.TheVariants as bin
use Rattle.check_coverage.specs.Bins.{contested_bins}
use Rattle.check_coverage.specs.Mirrors.{mirrors_in}
use Rattle.check_bins.specs.Counting.{Adds}
use Rattle.check_coverage.proofs.Adding.{contested_is}
use Rattle.check_bins.proofs.Counted.{adds_none}
use Rattle.check_coverage.proofs.coverage.count_contested.Goals as goal

pub returns-then-is_contested : goal.returns-then-is_contested
returns-then-is_contested c = λ plan after this has is is_this.
    let told : (bin.Contested c.args.flight.now.port ∷ []) ≡ contested_bins plan after this =
    ap (λ b. if b then bin.Contested c.args.flight.now.port ∷ [] else []) (sym c.if-is_contested.true)
    ∙ contested_is after this c.args.flights.now c.args.flight.now is is_this plan
    (mirrors_in c.args.mirrors.now this.port) c.is_contested.result (has this.port)
    (c.is_contested.ensures after this is is_this) in
    subst (λ (l : List Bin). OnOk c.add.result (Adds c.args.counts.now c.add.new.self l)) told c.add.ensures

pub returns-else-is_contested : goal.returns-else-is_contested
returns-else-is_contested c = λ plan after this has is is_this.
    let told : [] ≡ contested_bins plan after this =
    ap (λ b. if b then bin.Contested c.args.flight.now.port ∷ [] else []) (sym c.if-is_contested.false)
    ∙ contested_is after this c.args.flights.now c.args.flight.now is is_this plan
    (mirrors_in c.args.mirrors.now this.port) c.is_contested.result (has this.port)
    (c.is_contested.ensures after this is is_this) in
    subst (λ (l : List Bin). Adds c.args.counts.now c.args.counts.now l) told (adds_none c.args.counts.now)
