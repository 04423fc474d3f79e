-- What the first beat of a request adds.
use Rattle.std.proofs.Common.{◌∙◌, List, ◌∷◌, [], subst}
use Rattle.std.specs.Prelude.{OnOk, filter}
use Rattle.check_bins.specs.declared.bin.Bin.{Bin}
use Rattle.check_bins.specs.declared.bin.Bin.TheVariants as bin
use Rattle.check_coverage.specs.Bins.{again, is_of_master, is_of_port}
use Rattle.check_bins.specs.Counting.{Adds}
use Rattle.check_coverage.proofs.Adding.{adds_two, begin_is, count_master, count_port}
use Rattle.check_bins.proofs.Counted.{adds_ok}
use Rattle.check_coverage.proofs.coverage.count_begin.Goals as goal

pub returns : goal.returns
returns c = λ before this is is_this.
    let flight = c.args.flight.now in
    let m = c.with_one-of_master.ensures (filter (is_of_master this.master) before)
    (c.count_of_master.ensures ∙ count_master before this c.args.flights.now flight is is_this) in
    let p = c.with_one-of_port.ensures (filter (is_of_port this.port) before)
    (c.count_of_port.ensures ∙ count_port before this c.args.flights.now flight is is_this) in
    let source : Bin = bin.Source flight.master c.told_source.result in
    let rest : List Bin = again c.args.rules this c.args.time c.args.answered in
    subst (λ (l : List Bin). OnOk c.count_again.result (Adds c.args.counts.now c.count_again.new.counts l))
    (begin_is before this c.args.flights.now flight is is_this _ _ _ c.args.rules c.args.time c.args.answered m p
    c.told_source.ensures)
    (adds_two c.args.counts.now c.add.new.self c.add-2.new.self c.count_again.new.counts _ _ (source ∷ rest)
    c.count_again.result c.in_ok-add.ensures c.in_ok-add-2.ensures
    (adds_ok c.add-2.new.self c.add-3.new.self c.count_again.new.counts (source ∷ []) rest c.count_again.result
    c.in_ok-add-3.ensures (c.count_again.ensures this is_this)))
