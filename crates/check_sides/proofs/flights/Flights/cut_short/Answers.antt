use Rattle.std.proofs.Common.{◌≡◌, ℕ, List, sym, subst, rules}
use Rattle.std.specs.Map.{keys_of}
use Rattle.std.specs.Ordering.{eq_by_cmp, nat_cmp}
use Rattle.std.specs.List.{IsDistinct}
use Rattle.std.specs.List.Sorted.{IsStrictlySortedBy}
use Rattle.std.proofs.lemmas.Iterator.Consumers.{YieldsList-end, YieldsList-from_rest}
use Rattle.std.proofs.lemmas.Map.Keys.{IsDistinct-from_sorted}
use Rattle.check_flight.specs.Flight.{Flight}
use Rattle.check_watch.specs.Reset.{IsLeftPort}
use Rattle.check_sides.proofs.Opening.{OpenIn, all_open, handed, handed_more, one_more_open}
use Rattle.check_sides.proofs.flights.Flights.cut_short.Goals as goal

pub loop-source-preserved : goal.loop-source-preserved
loop-source-preserved c =
    let entry : ℕ × Flight = (c.in-Some.source.now, c.in-Some.flight.now) in
    subst
    (λ (kept : List (ℕ × Flight)).
    IsLeftPort (OpenIn kept c.args.port c.args.answering) c.args.slave.now c.cut_flight.new.slave)
    (sym (handed_more c.loop-source.yielded (c.in-Some.source, c.in-Some.flight)))
    (one_more_open (handed c.loop-source.yielded) entry c.args.port c.args.answering c.args.slave.now c.loop-source.slave
    c.cut_flight.new.slave c.loop-source.invariant c.in_ok-cut_flight.ensures)

pub returns : goal.returns
returns c =
    let end =
    YieldsList-end (YieldsList-from_rest c.args.self.now (search rules)) c.loop-source.yielded c.loop-source.source-iterator
    c.loop-source.yielded_by c.next.result c.next.new.self c.in-None.is c.next.ensures.steps in
    let all : handed c.loop-source.yielded ≡ c.args.self.now = end.0 in
    let sorted : IsStrictlySortedBy nat_cmp (keys_of c.args.self.now) = search rules in
    let apart : IsDistinct (eq_by_cmp nat_cmp) (keys_of c.args.self.now) =
    IsDistinct-from_sorted nat_cmp (keys_of c.args.self.now) sorted in
    all_open c.args.self.now c.args.port c.args.answering c.args.slave.now c.loop-source.slave apart
    (subst
    (λ (kept : List (ℕ × Flight)).
    IsLeftPort (OpenIn kept c.args.port c.args.answering) c.args.slave.now c.loop-source.slave) all c.loop-source.invariant)
