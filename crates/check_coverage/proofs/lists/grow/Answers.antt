-- One request more, and all of them.
use Rattle.std.proofs.Common.{◌∙◌, arith}
use Rattle.check_beats.specs.Bus.{bus_bytes}
use Rattle.check_coverage.specs.Flights.{with_beat}
use Rattle.check_coverage.proofs.Places.{grow_all, grow_first, grow_more}
use Rattle.check_coverage.proofs.lists.grow.Goals as goal

pub loop-place-init : goal.loop-place-init
loop-place-init c = λ before is.
    grow_first (with_beat (bus_bytes c.args.bus) c.args.wide c.args.beat.now c.args.is_whole) before _ is

pub loop-place-preserved : goal.loop-place-preserved
loop-place-preserved c = λ before is.
    grow_more (with_beat (bus_bytes c.args.bus) c.args.wide c.args.beat.now c.args.is_whole) before c.loop-place.place
    c.args.flights.now.items c.loop-place.flights.items c.grown.result c.index.result.now is (c.loop-place.invariant before is)
    (omega (arith, c.loop-place-test.true, c.len-place-end.ensures, c.args.flights.now.ok.0))
    (λ flight there. c.grown.ensures flight (c.index.ensures ∙ there))

pub returns : goal.returns
returns c = λ before is.
    grow_all (with_beat (bus_bytes c.args.bus) c.args.wide c.args.beat.now c.args.is_whole) before c.loop-place.place
    c.args.flights.now.items c.loop-place.flights.items is
    (omega (arith, c.loop-place-test.false, c.len-place-end.ensures, c.args.flights.now.ok.0)) (c.loop-place.invariant before is)
