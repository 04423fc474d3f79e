use Rattle.std.proofs.Common.{arith}
use Rattle.check_beats.specs.Bus.{bus_log}
use Rattle.check_beats.proofs.Returning.{returns, reply_kept_on}
use Rattle.check_beats.proofs.replying.Replying.go_on.Goals as goal

pub overflow_add-self : goal.overflow_add-self
overflow_add-self c =
    let i = c.self.inside in
    let fits = rw (← c.self.view_is) at c.requires.fits in
    let wide = rw (← c.self.view_is) at c.requires.lanes in
    let some = rw (← c.self.view_is) at c.requires.some in
    let is = returns (bus_log i.bus) i.first i.beats i.bytes i.marks c.args.beat.now c.args.known c.args.lanes.now c.self.invariant fits wide some in
    omega (arith, is.in_limit)

pub push_seen-requires-clause-room : goal.push_seen-requires-clause-room
push_seen-requires-clause-room c =
    let i = c.self.inside in
    let fits = rw (← c.self.view_is) at c.requires.fits in
    let wide = rw (← c.self.view_is) at c.requires.lanes in
    let some = rw (← c.self.view_is) at c.requires.some in
    (returns (bus_log i.bus) i.first i.beats i.bytes i.marks c.args.beat.now c.args.known c.args.lanes.now c.self.invariant fits wide some).room

pub push-requires : goal.push-requires
push-requires c =
    let i = c.self.inside in
    let fits = rw (← c.self.view_is) at c.requires.fits in
    let wide = rw (← c.self.view_is) at c.requires.lanes in
    let some = rw (← c.self.view_is) at c.requires.some in
    let is = returns (bus_log i.bus) i.first i.beats i.bytes i.marks c.args.beat.now c.args.known c.args.lanes.now c.self.invariant fits wide some in
    omega (arith, is.marked, is.room)

pub invariant_of-self : goal.invariant_of-self
invariant_of-self c =
    let i = c.self.inside in
    let fits = rw (← c.self.view_is) at c.requires.fits in
    let wide = rw (← c.self.view_is) at c.requires.lanes in
    let some = rw (← c.self.view_is) at c.requires.some in
    let goes_on = rw (← c.self.view_is) at c.requires.goes_on in
    let is = returns (bus_log i.bus) i.first i.beats i.bytes i.marks c.args.beat.now c.args.known c.args.lanes.now c.self.invariant fits wide some in
    rw (c.push_seen.ensures, c.push.ensures, c.is_spoiled.ensures) (reply_kept_on (bus_log i.bus) i.first i.beats i.bytes i.marks c.args.beat.now c.args.known c.args.lanes.now c.self.invariant fits some is goes_on)
