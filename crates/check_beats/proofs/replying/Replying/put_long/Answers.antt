use Rattle.std.proofs.Common.{◌∙◌, ap, refl, arith}
use Rattle.check_cells.specs.Pattern.{Pattern}
use Rattle.check_beats.specs.Bus.{bus_log}
use Rattle.check_beats.proofs.Returning.{returns as goes_on, reply_bytes_after, reply_marks_after}
use Rattle.check_beats.proofs.replying.Replying.put_long.Goals as goal

pub push_seen-requires-clause-room : goal.push_seen-requires-clause-room
push_seen-requires-clause-room c =
    let i = c.self.inside in
    let fits = rw (← c.self.view_is) at c.requires.fits in
    let wide = rw (← c.self.view_is) at c.requires.lanes in
    let some = rw (← c.self.view_is) at c.requires.goes_on in
    rw c.refill_from.ensures (goes_on (bus_log i.bus) i.first i.beats i.bytes i.marks c.args.beat.now c.args.known c.args.lanes.now c.self.invariant fits wide some).room

pub push-requires : goal.push-requires
push-requires c =
    let i = c.self.inside in
    let fits = rw (← c.self.view_is) at c.requires.fits in
    let wide = rw (← c.self.view_is) at c.requires.lanes in
    let some = rw (← c.self.view_is) at c.requires.goes_on in
    let is = goes_on (bus_log i.bus) i.first i.beats i.bytes i.marks c.args.beat.now c.args.known c.args.lanes.now c.self.invariant fits wide some in
    rw c.refill_from-2.ensures (omega (arith, is.marked, is.room))

pub returns : goal.returns
returns c = λ address.
    let i = c.self.inside in
    let fits = rw (← c.self.view_is) at c.requires.fits in
    let wide = rw (← c.self.view_is) at c.requires.lanes in
    let some = rw (← c.self.view_is) at c.requires.goes_on in
    let is = goes_on (bus_log i.bus) i.first i.beats i.bytes i.marks c.args.beat.now c.args.known c.args.lanes.now c.self.invariant fits wide some in
    ap (λ (p : Pattern). record p { bytes = c.push_seen.new.cells; spoiled = c.push.new.self }) (c.reply.view_is ∙ c.set_fields.ensures)
    ∙ rw (
      c.push_seen.ensures,
      c.push.ensures,
      c.is_spoiled.ensures,
      c.refill_from.ensures,
      c.refill_from-2.ensures,
      c.lawful_reply_op-op.ensures.value,
      ← c.self.view_is,
      reply_bytes_after i.first i.beats i.bytes i.marks some,
      reply_marks_after i.first i.beats i.bytes i.marks some,
      is.part address,
      is.marks,
    ) refl
