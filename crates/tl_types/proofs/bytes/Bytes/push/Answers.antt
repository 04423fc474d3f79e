use Rattle.std.proofs.Common.{◌<◌, ◌/◌, ap, length, arith, rules}
use Rattle.tl_types.specs.Bytes.{bit_in}
use Rattle.tl_types.proofs.Given.{length-given_in, appends_given, seen_given, seen_unset}
use Rattle.tl_types.proofs.bytes.Bytes.push.Goals as goal

pub bounds-self-inside-place : goal.bounds-self-inside-place
bounds-self-inside-place c =
    let long = length-given_in (bit_in c.self.inside.masks) c.self.inside.plain.items in
    let seen = ap length c.self.view_is in
    omega (arith, long, seen)

pub bounds-self-inside-place-in-Some : goal.bounds-self-inside-place-in-Some
bounds-self-inside-place-in-Some c =
    let long = length-given_in (bit_in c.self.inside.masks) c.self.inside.plain.items in
    let seen = ap length c.self.view_is in
    omega (arith, long, seen)

pub push-requires : goal.push-requires
push-requires c =
    let long = length-given_in (bit_in c.self.inside.masks) c.self.inside.plain.items in
    let seen = ap length c.self.view_is in
    (search rules, omega (arith, long, seen))

pub push-requires-in-None : goal.push-requires-in-None
push-requires-in-None c =
    let long = length-given_in (bit_in c.self.inside.masks) c.self.inside.plain.items in
    let seen = ap length c.self.view_is in
    (search rules, omega (arith, long, seen))

pub invariant_of-self : goal.invariant_of-self
invariant_of-self c =
    let plain = c.self.inside.plain.items in
    let masks = c.self.inside.masks in
    let long = length-given_in (bit_in masks) plain in
    let seen = ap length c.self.view_is in
    let within : length plain / 8 < length masks = omega (arith, long, seen, c.self.invariant.counted) in
    rw (c.push.ensures.items, c.len-place.ensures.value)
    (appends_given plain masks c.in-Some.byte c.self.invariant within).kept

pub returns-in-Some : goal.returns-in-Some
returns-in-Some c =
    let plain = c.self.inside.plain.items in
    let masks = c.self.inside.masks in
    let long = length-given_in (bit_in masks) plain in
    let seen = ap length c.self.view_is in
    let within : length plain / 8 < length masks = omega (arith, long, seen, c.self.invariant.counted) in
    rw (c.push.ensures.items, c.len-place.ensures.value, c.in-Some.is, ← c.self.view_is)
    (seen_given plain masks c.in-Some.byte c.self.invariant within)

pub returns-in-None : goal.returns-in-None
returns-in-None c =
    let plain = c.self.inside.plain.items in
    let masks = c.self.inside.masks in
    rw (c.push-in-None.ensures.items, c.in-None.is, ← c.self.view_is) (seen_unset plain masks c.self.invariant)
