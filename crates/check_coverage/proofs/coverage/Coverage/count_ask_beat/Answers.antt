-- A beat of channel A is counted.
use Rattle.std.proofs.Common.{◌∙◌, ap, subst, find}
use Rattle.std.specs.Prelude.{OnOk}
use Rattle.check_beats.specs.Bus.{bus_bytes}
use Rattle.check_beats.specs.declared.rules.LinkRules.{LinkRules}
use Rattle.check_sides.specs.Plan.{Layout}
use Rattle.check_coverage.specs.Bins.{ask_part_bins, of_found}
use Rattle.check_coverage.specs.Flights.{is_of}
use Rattle.check_coverage.specs.Mirrors.{mirrors_in}
use Rattle.check_bins.specs.Counting.{Adds}
use Rattle.check_coverage.proofs.Noted.{ask_counted}
use Rattle.check_coverage.proofs.coverage.Coverage.count_ask_beat.Goals as goal

pub returns : goal.returns
returns c = λ plan suits has.
    ask_counted plan (bus_bytes c.args.bus) c.args.wide c.args.time c.args.times c.args.beat.now c.args.end c.args.self.now
    c.begin.new.self c.grow.new.flights c.ends_an_ask.result c.end.new.self c.ask_part.new.self c.in_ok-begin.ensures.mirrors
    c.in_ok-begin.ensures.times c.in_ok-begin.ensures.latest
    (λ before. c.in_ok-begin.ensures.flights plan before suits) (λ before. c.in_ok-begin.ensures.counts plan before suits)
    c.grow.ensures c.ends_an_ask.ensures c.ask_part.result c.in_ok-end.ensures.mirrors c.in_ok-end.ensures.times
    c.in_ok-end.ensures.latest c.in_ok-end.ensures.flights
    (λ after. c.in_ok-end.ensures.counts plan after
    (λ port. ap (λ m. mirrors_in m.items port) c.in_ok-begin.ensures.mirrors ∙ has port))
    c.ask_part.ensures.mirrors c.ask_part.ensures.times c.ask_part.ensures.latest c.ask_part.ensures.flights
    (λ after is. subst (λ (r : LinkRules). OnOk c.ask_part.result (Adds c.end.new.self.counts c.ask_part.new.self.counts
    (of_found (find (is_of c.args.wide) after) (ask_part_bins r c.args.time c.args.times.asked c.args.beat.now.corrupt))))
    (c.rules.ensures ∙ ap (λ (l : Layout). l.rules) suits.layout) (c.ask_part.ensures.counts after is))
