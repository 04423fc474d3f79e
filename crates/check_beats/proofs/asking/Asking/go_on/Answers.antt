use Rattle.std.proofs.Common.{Option, ap, arith}
use Rattle.check_beats.specs.Bus.{bus_log, bus_bytes}
use Rattle.check_beats.specs.State.{AskBegun, AskChannel}
use Rattle.check_beats.proofs.Going.{goes, kept_on, on_is}
use Rattle.check_beats.proofs.asking.Asking.go_on.Goals as goal

pub overflow_add-self : goal.overflow_add-self
overflow_add-self c =
    let i = c.self.inside in
    let fits = rw (← c.self.view_is) at c.requires.fits in
    let wide = rw (← c.self.view_is) at c.requires.lanes in
    let some = rw (← c.self.view_is) at c.requires.some in
    let is = goes (bus_log i.bus) i.first i.beats i.bytes i.marks c.args.beat.now c.args.lanes.now c.self.invariant fits wide some in
    omega (arith, is.in_limit)

pub push_shown-requires-clause-aligned : goal.push_shown-requires-clause-aligned
push_shown-requires-clause-aligned c =
    let i = c.self.inside in
    let fits = rw (← c.self.view_is) at c.requires.fits in
    let wide = rw (← c.self.view_is) at c.requires.lanes in
    let some = rw (← c.self.view_is) at c.requires.some in
    (goes (bus_log i.bus) i.first i.beats i.bytes i.marks c.args.beat.now c.args.lanes.now c.self.invariant fits wide some).aligned

pub push_shown-requires-clause-room : goal.push_shown-requires-clause-room
push_shown-requires-clause-room c =
    let i = c.self.inside in
    let fits = rw (← c.self.view_is) at c.requires.fits in
    let wide = rw (← c.self.view_is) at c.requires.lanes in
    let some = rw (← c.self.view_is) at c.requires.some in
    (goes (bus_log i.bus) i.first i.beats i.bytes i.marks c.args.beat.now c.args.lanes.now c.self.invariant fits wide some).room

pub push-requires : goal.push-requires
push-requires c =
    let i = c.self.inside in
    let fits = rw (← c.self.view_is) at c.requires.fits in
    let wide = rw (← c.self.view_is) at c.requires.lanes in
    let some = rw (← c.self.view_is) at c.requires.some in
    let is = goes (bus_log i.bus) i.first i.beats i.bytes i.marks c.args.beat.now c.args.lanes.now c.self.invariant fits wide some in
    omega (arith, is.marked, is.room)

pub invariant_of-self : goal.invariant_of-self
invariant_of-self c =
    let i = c.self.inside in
    let fits = rw (← c.self.view_is) at c.requires.fits in
    let wide = rw (← c.self.view_is) at c.requires.lanes in
    let some = rw (← c.self.view_is) at c.requires.some in
    let goes_on = rw (← c.self.view_is) at c.requires.goes_on in
    let is = goes (bus_log i.bus) i.first i.beats i.bytes i.marks c.args.beat.now c.args.lanes.now c.self.invariant fits wide some in
    rw (c.push_shown.ensures, c.push.ensures) (kept_on (bus_log i.bus) i.first i.beats i.bytes i.marks c.args.beat.now c.args.lanes.now c.self.invariant fits some is goes_on)

pub returns : goal.returns
returns c =
    let i = c.self.inside in
    let fits = rw (← c.self.view_is) at c.requires.fits in
    let wide = rw (← c.self.view_is) at c.requires.lanes in
    let some = rw (← c.self.view_is) at c.requires.some in
    let goes_on = rw (← c.self.view_is) at c.requires.goes_on in
    let is = goes (bus_log i.bus) i.first i.beats i.bytes i.marks c.args.beat.now c.args.lanes.now c.self.invariant fits wide some in
    rw (c.push_shown.ensures, c.push.ensures, ← c.self.view_is)
    (ap (λ (b : Option AskBegun). let channel : AskChannel = record { bus = bus_bytes i.bus; begun = b } in channel) (on_is (bus_log i.bus) i.first i.beats i.bytes i.marks c.args.beat.now c.args.lanes.now some is goes_on))
