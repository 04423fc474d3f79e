-- The request that was found ends, or none was found.
use Rattle.std.proofs.Common.{◌≡◌, ◌∙◌, List, [], Bool, true, Option, ap, sym, subst}
use Rattle.std.specs.Prelude.{OnOk, find, if◌then◌else◌}
use Rattle.check_beats.specs.Bus.{bus_bytes}
use Rattle.check_bins.specs.declared.bin.Bin.{Bin}
use Rattle.check_coverage.specs.Bins.{ask_bins, of_found}
use Rattle.check_coverage.specs.Flights.{InFlight, is_of, ends_an_ask}
use Rattle.check_coverage.specs.Mirrors.{mirrors_in}
use Rattle.check_bins.specs.Counting.{Adds}
use Rattle.check_coverage.proofs.Adding.{found_is, found_none, found_some}
use Rattle.check_bins.proofs.Counted.{adds_none}
use Rattle.check_coverage.proofs.coverage.Coverage.end.Goals as goal

pub returns-in-Some-clause-counts : goal.returns-in-Some-clause-counts
returns-in-Some-clause-counts c = λ plan after has is.
    let bus = bus_bytes c.args.bus in
    let found = found_some (find (is_of c.args.wide) after) c.in-Some.flight
    (sym c.in-Some.is ∙ c.find_of.ensures ∙ found_is c.args.wide after c.deref.result.now (c.deref.ensures.value ∙ is)) in
    let whole : ends_an_ask c.args.end ≡ true = sym c.ends_an_ask.ensures ∙ c.if-not-ends_an_ask.false in
    subst (λ (l : List Bin). OnOk c.count_ask.result (Adds c.args.self.now.counts c.count_ask.new.counts l))
    (ap (λ (o : Option InFlight). of_found o (ask_bins plan bus after c.args.beat.now)) (sym found.is)
    ∙ ap (λ (b : Bool). if b then of_found (find (is_of c.args.wide) after) (ask_bins plan bus after c.args.beat.now) else [])
    (sym whole))
    (c.count_ask.ensures plan after found.this
    (λ port. ap (λ m. mirrors_in m port) c.deref-in-Some-2.ensures.value ∙ has port)
    (c.deref-in-Some.ensures.value ∙ is) found.kept_is)

pub returns-in-None-clause-counts : goal.returns-in-None-clause-counts
returns-in-None-clause-counts c = λ plan after has is.
    let bus = bus_bytes c.args.bus in
    let none = found_none (find (is_of c.args.wide) after)
    (sym c.in-None.is ∙ c.find_of.ensures ∙ found_is c.args.wide after c.deref.result.now (c.deref.ensures.value ∙ is)) in
    let whole : ends_an_ask c.args.end ≡ true = sym c.ends_an_ask.ensures ∙ c.if-not-ends_an_ask.false in
    subst (λ (l : List Bin). Adds c.args.self.now.counts c.args.self.now.counts l)
    (ap (λ (o : Option InFlight). of_found o (ask_bins plan bus after c.args.beat.now)) (sym none)
    ∙ ap (λ (b : Bool). if b then of_found (find (is_of c.args.wide) after) (ask_bins plan bus after c.args.beat.now) else [])
    (sym whole)) (adds_none c.args.self.now.counts)
