-- The request that was found is the latest of its port, or none was found.
use Rattle.std.proofs.Common.{◌∙◌, List, Bool, Option, ap, sym, subst}
use Rattle.std.specs.Prelude.{OnOk, find, option_map}
use Rattle.check_bins.specs.declared.bin.Bin.{Bin}
use Rattle.check_coverage.specs.Bins.{after_bins, after_by, of_found}
use Rattle.check_coverage.specs.Flights.{InFlight, is_of, kept}
use Rattle.check_coverage.specs.Latest.{latest_by, latest_of}
use Rattle.check_coverage.specs.Mirrors.{mirrors_at}
use Rattle.check_bins.specs.Counting.{Adds}
use Rattle.check_coverage.proofs.Adding.{found_is, found_none, found_some}
use Rattle.check_bins.proofs.Counted.{adds_none}
use Rattle.check_coverage.proofs.Noted.{latest_found, ok_then}
use Rattle.check_coverage.proofs.coverage.Coverage.note_latest.Goals as goal

pub returns-in-Some-clause-latest : goal.returns-in-Some-clause-latest
returns-in-Some-clause-latest c = λ after before is was.
    let found = found_some (find (is_of c.args.wide) after) c.in-Some.flight
    (sym c.in-Some.is ∙ c.find_of.ensures ∙ found_is c.args.wide after c.deref.result.now (c.deref.ensures.value ∙ is)) in
    ok_then c.note_end.result
    (λ more port. latest_found c.args.wide after before c.in-Some.flight found.this c.args.self.now.latest
    c.note_end.new.self.latest found.is found.kept_is was more port
    ∙ ap (λ (b : Bool). option_map kept (latest_by c.args.wide b after before port)) (sym c.if-not-is_asked.false))
    c.note_end.ensures.latest

pub returns-in-None-clause-latest : goal.returns-in-None-clause-latest
returns-in-None-clause-latest c = λ after before is was port.
    let none = found_none (find (is_of c.args.wide) after)
    (sym c.in-None.is ∙ c.find_of.ensures ∙ found_is c.args.wide after c.deref.result.now (c.deref.ensures.value ∙ is)) in
    was port
    ∙ ap (λ (o : Option InFlight). option_map kept (latest_of o before port)) (sym none)
    ∙ ap (λ (b : Bool). option_map kept (latest_by c.args.wide b after before port)) (sym c.if-not-is_asked.false)

pub returns-in-Some-clause-counts : goal.returns-in-Some-clause-counts
returns-in-Some-clause-counts c = λ plan after before has is was.
    let found = found_some (find (is_of c.args.wide) after) c.in-Some.flight
    (sym c.in-Some.is ∙ c.find_of.ensures ∙ found_is c.args.wide after c.deref.result.now (c.deref.ensures.value ∙ is)) in
    subst (λ (l : List Bin). OnOk c.note_end.result (Adds c.args.self.now.counts c.note_end.new.self.counts l))
    (ap (λ (o : Option InFlight). of_found o (λ flight. after_by (mirrors_at plan flight.port) flight (before flight.port)))
    (sym found.is)
    ∙ ap (λ (b : Bool). after_bins plan c.args.wide b after before) (sym c.if-not-is_asked.false))
    (c.note_end.ensures.counts plan found.this (before found.this.port) has found.kept_is (was found.this.port))

pub returns-in-None-clause-counts : goal.returns-in-None-clause-counts
returns-in-None-clause-counts c = λ plan after before has is was.
    let none = found_none (find (is_of c.args.wide) after)
    (sym c.in-None.is ∙ c.find_of.ensures ∙ found_is c.args.wide after c.deref.result.now (c.deref.ensures.value ∙ is)) in
    subst (λ (l : List Bin). Adds c.args.self.now.counts c.args.self.now.counts l)
    (ap (λ (o : Option InFlight). of_found o (λ flight. after_by (mirrors_at plan flight.port) flight (before flight.port)))
    (sym none)
    ∙ ap (λ (b : Bool). after_bins plan c.args.wide b after before) (sym c.if-not-is_asked.false))
    (adds_none c.args.self.now.counts)
