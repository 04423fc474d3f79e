-- It is beside another one, or beside none.
use Rattle.std.proofs.Common.{◌∙◌, List, [], ◌∷◌, Option, ap, sym, subst}
use Rattle.std.specs.Prelude.{OnOk, if◌then◌else◌}
use Rattle.check_bins.specs.declared.bin.Bin.{Bin}
use Rattle.check_bins.specs.declared.bin.Bin.TheVariants as bin
use Rattle.check_coverage.specs.Bins.{access_of, after_by, overlap}
use Rattle.check_coverage.specs.Flights.{InFlight}
use Rattle.check_coverage.specs.Mirrors.{mirrors_at}
use Rattle.check_bins.specs.Counting.{Adds}
use Rattle.check_coverage.proofs.Adding.{found_none, found_some}
use Rattle.check_bins.proofs.Counted.{adds_none}
use Rattle.check_coverage.proofs.latest.count_after.Goals as goal

pub returns-in-Some : goal.returns-in-Some
returns-in-Some c = λ plan this before has is was.
    let found = found_some before c.in-Some.latest (sym c.in-Some.is ∙ was) in
    let shared = c.overlaps.ensures this found.this is found.kept_is
    ∙ ap (λ m. overlap m this.first found.this.first) (has this.port) in
    subst (λ (l : List Bin). OnOk c.add_if.result (Adds c.args.counts.now c.add_if.new.self l))
    ((λ i. if shared i then bin.After (is i).port ((c.access_of.ensures ∙ ap access_of (λ j. (found.kept_is j).first.opcode)) i)
    ((c.access_of-in-Some.ensures ∙ ap access_of (λ j. (is j).first.opcode)) i) ∷ [] else [])
    ∙ ap (λ (o : Option InFlight). after_by (mirrors_at plan this.port) this o) (sym found.is))
    c.add_if.ensures

pub returns-in-None : goal.returns-in-None
returns-in-None c = λ plan this before has is was.
    let none = found_none before (sym c.in-None.is ∙ was) in
    subst (λ (l : List Bin). Adds c.args.counts.now c.args.counts.now l)
    (ap (λ (o : Option InFlight). after_by (mirrors_at plan this.port) this o) (sym none)) (adds_none c.args.counts.now)
