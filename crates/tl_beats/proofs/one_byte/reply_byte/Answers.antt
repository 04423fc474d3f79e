use Rattle.std.proofs.Common.{◌≡◌, ◌∙◌, ℕ, ◌/◌, ◌<◌, Bool, if◌then◌else◌, length, Some, slice_get, slice_index, get_or, ap, sym, rules, arith}
use Rattle.std.proofs.lemmas.Option.{slice_get-get_or, slice_get_past}
use Rattle.std.proofs.lemmas.Grind.{common_steps}
use Rattle.tl_beats.specs.Beats.{lane_of}
use Rattle.tl_beats.specs.Told.{no_beat}
use Rattle.tl_beats.specs.declared.beat.DBeat.{DBeat}
use Rattle.tl_beats.proofs.Told.{count_is, in_beats, byte_at, lane_from}
use Rattle.tl_beats.proofs.one_byte.reply_byte.Goals as goal

pub returns-in_default-read_reply_op : goal.returns-in_default-read_reply_op
returns-in_default-read_reply_op c reply lawful spells =
    let head : slice_get c.args.beats.now 0 ≡ Some c.in-Some.first.now = search rules in
    absurd (c.in_default-read_reply_op.not-Ok reply.op
    (c.read_reply_op.ensures.all reply.op (sym (spells.each 0 c.in-Some.first.now head).fields.opcode)))

pub returns-then-first-gt-MAX_SIZE : goal.returns-then-first-gt-MAX_SIZE
returns-then-first-gt-MAX_SIZE c reply lawful spells =
    let head : slice_get c.args.beats.now 0 ≡ Some c.in-Some.first.now = search rules in
    absurd (omega (
      arith,
      lawful.in_limit,
      (spells.each 0 c.in-Some.first.now head).fields.size,
      c.if-first-gt-MAX_SIZE.true,
    ))

pub returns-then-place-byte_count : goal.returns-then-place-byte_count
returns-then-place-byte_count c reply lawful spells =
    let head : slice_get c.args.beats.now 0 ≡ Some c.in-Some.first.now = search rules in
    let many = count_is reply c.args.address c.args.beats.now c.in-Some.first.now c.in-Ok.op head lawful spells c.in-Ok.ensures.ok in
    sym (slice_get_past reply.bytes c.args.place
    (omega (arith, many, c.byte_count.ensures.value, c.if-place-byte_count.true)))

pub returns-in_default-get : goal.returns-in_default-get
returns-in_default-get c reply lawful spells =
    let head : slice_get c.args.beats.now 0 ≡ Some c.in-Some.first.now = search rules in
    let many = count_is reply c.args.address c.args.beats.now c.in-Some.first.now c.in-Ok.op head lawful spells c.in-Ok.ensures.ok in
    let inside = in_beats reply c.args.address c.args.beats.now lawful spells c.args.place
    (omega (arith, many, c.byte_count.ensures.value, c.if-place-byte_count.false)) in
    absurd (grind (arith, common_steps))

pub returns-then-first : goal.returns-then-first
returns-then-first c reply lawful spells =
    let beats = c.args.beats.now in
    let first = c.in-Some.first.now in
    let head : slice_get beats 0 ≡ Some first = search rules in
    let many = count_is reply c.args.address beats first c.in-Ok.op head lawful spells c.in-Ok.ensures.ok in
    let at = byte_at reply c.args.address beats first head lawful spells c.args.place
    (omega (arith, many, c.byte_count.ensures.value, c.if-place-byte_count.false)) in
    sym (at ∙ ap (λ (d : Bool). Some (if d then 0 else slice_index (get_or beats (c.args.place / 8) no_beat).lanes
    (lane_of c.args.address first.size c.args.place))) c.if-first.true)

pub returns : goal.returns
returns c reply lawful spells =
    let beats = c.args.beats.now in
    let first = c.in-Some.first.now in
    let beat = c.in-Some-get.beat.now in
    let place = c.args.place in
    let address = c.args.address in
    let head : slice_get beats 0 ≡ Some first = search rules in
    let many = count_is reply address beats first c.in-Ok.op head lawful spells c.in-Ok.ensures.ok in
    let inside : place < length reply.bytes =
    omega (arith, many, c.byte_count.ensures.value, c.if-place-byte_count.false) in
    let at = byte_at reply address beats first head lawful spells place inside in
    let here : slice_get beats (place / 8) ≡ Some beat =
    slice_get-get_or beats (place / 8) beat (in_beats reply address beats lawful spells place inside)
    ∙ ap (λ (b : DBeat). Some b) (sym c.in-Some-get.ensures.lookup.1) in
    let got : slice_get beats (place / 8) ≡ Some (get_or beats (place / 8) no_beat) =
    slice_get-get_or beats (place / 8) no_beat (in_beats reply address beats lawful spells place inside) in
    let there : get_or beats (place / 8) no_beat ≡ beat = cc in
    let lane = lane_from address first.size c.first_lane.result place c.first_lane.ensures.value in
    sym (at
    ∙ (ap (λ (d : Bool). Some (if d then 0 else slice_index (get_or beats (place / 8) no_beat).lanes
    (lane_of address first.size place))) c.if-first.false
    ∙ (ap (λ (b : DBeat). Some (slice_index b.lanes (lane_of address first.size place))) there
    ∙ ap (λ (l : ℕ). Some (slice_index beat.lanes l)) (sym lane))))
