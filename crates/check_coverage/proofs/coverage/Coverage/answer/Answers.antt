-- The request that was found is answered, or none was found.
use Rattle.std.proofs.Common.{◌≡◌, ◌∙◌, List, [], Bool, true, Option, ap, sym, subst}
use Rattle.std.specs.Prelude.{OnOk, find, if◌then◌else◌}
use Rattle.check_beats.specs.Bus.{bus_bytes}
use Rattle.check_bins.specs.declared.bin.Bin.{Bin}
use Rattle.check_coverage.specs.Bins.{of_found, reply_bins}
use Rattle.check_coverage.specs.Flights.{InFlight, ends_a_reply, is_of}
use Rattle.check_bins.specs.Counting.{Adds}
use Rattle.check_coverage.proofs.Adding.{found_is, found_none, found_some}
use Rattle.check_bins.proofs.Counted.{adds_none}
use Rattle.check_coverage.proofs.coverage.Coverage.answer.Goals as goal

pub returns-in-Some-clause-counts : goal.returns-in-Some-clause-counts
returns-in-Some-clause-counts c = λ before is.
    let bus = bus_bytes c.args.bus in
    let found = found_some (find (is_of c.args.wide) before) c.in-Some.flight
    (sym c.in-Some.is ∙ c.find_of.ensures ∙ found_is c.args.wide before c.deref.result.now (c.deref.ensures.value ∙ is)) in
    let whole : ends_a_reply c.args.end ≡ true = sym c.ends_a_reply.ensures ∙ c.if-not-ends_a_reply.false in
    subst (λ (l : List Bin). OnOk c.count_reply.result (Adds c.args.self.now.counts c.count_reply.new.counts l))
    (ap (λ (o : Option InFlight). of_found o (reply_bins bus before c.args.beat.now)) (sym found.is)
    ∙ ap (λ (b : Bool). if b then of_found (find (is_of c.args.wide) before) (reply_bins bus before c.args.beat.now) else [])
    (sym whole))
    (c.count_reply.ensures before found.this (c.deref-in-Some.ensures.value ∙ is) found.kept_is)

pub returns-in-None-clause-counts : goal.returns-in-None-clause-counts
returns-in-None-clause-counts c = λ before is.
    let bus = bus_bytes c.args.bus in
    let none = found_none (find (is_of c.args.wide) before)
    (sym c.in-None.is ∙ c.find_of.ensures ∙ found_is c.args.wide before c.deref.result.now (c.deref.ensures.value ∙ is)) in
    let whole : ends_a_reply c.args.end ≡ true = sym c.ends_a_reply.ensures ∙ c.if-not-ends_a_reply.false in
    subst (λ (l : List Bin). Adds c.args.self.now.counts c.args.self.now.counts l)
    (ap (λ (o : Option InFlight). of_found o (reply_bins bus before c.args.beat.now)) (sym none)
    ∙ ap (λ (b : Bool). if b then of_found (find (is_of c.args.wide) before) (reply_bins bus before c.args.beat.now) else [])
    (sym whole)) (adds_none c.args.self.now.counts)
