-- Of the request that was found, or none was found.
use Rattle.std.proofs.Common.{◌∙◌, List, Option, ap, sym, subst}
use Rattle.std.specs.Prelude.{OnOk, find}
use Rattle.check_bins.specs.declared.bin.Bin.{Bin}
use Rattle.check_coverage.specs.Bins.{ask_part_bins, of_found}
use Rattle.check_coverage.specs.Flights.{InFlight, is_of}
use Rattle.check_bins.specs.Counting.{Adds}
use Rattle.check_coverage.proofs.Adding.{found_is, found_none, found_some}
use Rattle.check_bins.proofs.Counted.{adds_none}
use Rattle.check_coverage.proofs.coverage.Coverage.ask_part.Goals as goal

pub returns-in-Some-clause-counts : goal.returns-in-Some-clause-counts
returns-in-Some-clause-counts c = λ after is.
    let found = found_some (find (is_of c.args.wide) after) c.in-Some.flight
    (sym c.in-Some.is ∙ c.find_of.ensures ∙ found_is c.args.wide after c.deref.result.now (c.deref.ensures.value ∙ is)) in
    subst (λ (l : List Bin). OnOk c.count_ask_part.result (Adds c.args.self.now.counts c.count_ask_part.new.counts l))
    (ap (λ (o : Option InFlight). of_found o (ask_part_bins c.args.rules c.args.time c.args.before c.args.is_corrupt)) (sym found.is))
    (c.count_ask_part.ensures found.this found.kept_is)

pub returns-in-None-clause-counts : goal.returns-in-None-clause-counts
returns-in-None-clause-counts c = λ after is.
    let none = found_none (find (is_of c.args.wide) after)
    (sym c.in-None.is ∙ c.find_of.ensures ∙ found_is c.args.wide after c.deref.result.now (c.deref.ensures.value ∙ is)) in
    subst (λ (l : List Bin). Adds c.args.self.now.counts c.args.self.now.counts l)
    (ap (λ (o : Option InFlight). of_found o (ask_part_bins c.args.rules c.args.time c.args.before c.args.is_corrupt)) (sym none))
    (adds_none c.args.self.now.counts)
