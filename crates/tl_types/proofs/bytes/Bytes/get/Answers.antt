use Rattle.std.proofs.Common.{◌≡◌, ◌<◌, ap, length, arith, slice_index}
use Rattle.tl_types.specs.Bytes.{bit_in}
use Rattle.tl_types.proofs.Given.{length-given_in, given_at, unset_at, tested_bit, tested_clear}
use Rattle.tl_types.proofs.bytes.Bytes.get.Goals as goal

pub bounds-self-inside-place : goal.bounds-self-inside-place
bounds-self-inside-place c =
    let long = length-given_in (bit_in c.self.inside.masks) c.self.inside.plain.items in
    let seen = ap length c.self.view_is in
    let read = ap length c.deref.ensures.0 in
    omega (arith, long, seen, read, c.deref.ensures.1)

pub bounds-deref-place : goal.bounds-deref-place
bounds-deref-place c =
    let long = length-given_in (bit_in c.self.inside.masks) c.self.inside.plain.items in
    let seen = ap length c.self.view_is in
    let read = ap length c.deref.ensures.0 in
    omega (arith, long, seen, read)

pub returns-then-self-place-eq1 : goal.returns-then-self-place-eq1
returns-then-self-place-eq1 c =
    let long = length-given_in (bit_in c.self.inside.masks) c.self.inside.plain.items in
    let seen = ap length c.self.view_is in
    let within : c.args.place < length c.self.inside.plain.items = omega (arith, long, seen) in
    let read : slice_index c.deref.result.now c.args.place ≡ slice_index c.self.inside.plain.items c.args.place =
    ap (λ xs. slice_index xs c.args.place) c.deref.ensures.0 in
    rw (← c.self.view_is, read) (given_at c.self.inside.plain.items c.self.inside.masks c.args.place within
    (tested_bit c.self.inside.masks c.args.place c.if-self-place-eq1.true))

pub returns-else-self-place-eq1 : goal.returns-else-self-place-eq1
returns-else-self-place-eq1 c =
    let long = length-given_in (bit_in c.self.inside.masks) c.self.inside.plain.items in
    let seen = ap length c.self.view_is in
    let within : c.args.place < length c.self.inside.plain.items = omega (arith, long, seen) in
    rw (← c.self.view_is) (unset_at c.self.inside.plain.items c.self.inside.masks c.args.place within
    (tested_clear c.self.inside.masks c.args.place c.if-self-place-eq1.false))
