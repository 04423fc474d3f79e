use Rattle.std.proofs.Common.{refl, arith}
use Rattle.check_beats.specs.Bus.{bus_log, bus_bytes}
use Rattle.check_beats.proofs.Going.{goes, ended_is_lawful, ends_after, bytes_after, marks_after}
use Rattle.check_beats.proofs.asking.Asking.put_long.Goals as goal

pub push_shown-requires-clause-aligned : goal.push_shown-requires-clause-aligned
push_shown-requires-clause-aligned c =
    let i = c.self.inside in
    let fits = rw (← c.self.view_is) at c.requires.fits in
    let wide = rw (← c.self.view_is) at c.requires.lanes in
    let some = rw (← c.self.view_is) at c.requires.goes_on in
    rw c.copy-bytes.ensures (goes (bus_log i.bus) i.first i.beats i.bytes i.marks c.args.beat.now c.args.lanes.now c.self.invariant fits wide some).aligned

pub push_shown-requires-clause-room : goal.push_shown-requires-clause-room
push_shown-requires-clause-room c =
    let i = c.self.inside in
    let fits = rw (← c.self.view_is) at c.requires.fits in
    let wide = rw (← c.self.view_is) at c.requires.lanes in
    let some = rw (← c.self.view_is) at c.requires.goes_on in
    rw c.copy-bytes.ensures (goes (bus_log i.bus) i.first i.beats i.bytes i.marks c.args.beat.now c.args.lanes.now c.self.invariant fits wide some).room

pub refill_from-requires : goal.refill_from-requires
refill_from-requires c =
    let i = c.self.inside in
    let fits = rw (← c.self.view_is) at c.requires.fits in
    let wide = rw (← c.self.view_is) at c.requires.lanes in
    let some = rw (← c.self.view_is) at c.requires.goes_on in
    let ends = rw (← c.self.view_is) at c.requires.ends in
    let is = goes (bus_log i.bus) i.first i.beats i.bytes i.marks c.args.beat.now c.args.lanes.now c.self.invariant fits wide some in
    rw (c.op_of-op.ensures.value, c.push_shown.ensures, c.copy-bytes.ensures)
    (ended_is_lawful (bus_log i.bus) i.beats i.bytes i.marks c.args.beat.now c.args.lanes.now fits.formed is (ends_after (bus_bytes i.bus) i.first i.beats i.bytes i.marks c.args.beat.now some ends))

pub push-requires : goal.push-requires
push-requires c =
    let i = c.self.inside in
    let fits = rw (← c.self.view_is) at c.requires.fits in
    let wide = rw (← c.self.view_is) at c.requires.lanes in
    let some = rw (← c.self.view_is) at c.requires.goes_on in
    let is = goes (bus_log i.bus) i.first i.beats i.bytes i.marks c.args.beat.now c.args.lanes.now c.self.invariant fits wide some in
    rw c.refill_from-2.ensures (omega (arith, is.marked, is.room))

pub returns : goal.returns
returns c =
    let i = c.self.inside in
    let fits = rw (← c.self.view_is) at c.requires.fits in
    let wide = rw (← c.self.view_is) at c.requires.lanes in
    let some = rw (← c.self.view_is) at c.requires.goes_on in
    let is = goes (bus_log i.bus) i.first i.beats i.bytes i.marks c.args.beat.now c.args.lanes.now c.self.invariant fits wide some in
    rw (
      c.refill_from.ensures,
      c.push.ensures,
      c.refill_from-2.ensures,
      c.op_of-op.ensures.value,
      c.push_shown.ensures,
      c.copy-bytes.ensures,
      ← c.self.view_is,
      bytes_after i.first i.beats i.bytes i.marks some,
      marks_after i.first i.beats i.bytes i.marks some,
      is.part,
      is.marks,
    ) refl
