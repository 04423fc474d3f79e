use Rattle.std.proofs.Common.{◌≡◌, ◌<◌, ◌≤◌, ◌/◌, ◌%◌, ◌+◌, ◌++◌, ap, length, arith, rules}
use Rattle.tl_types.specs.Bytes.{bit_in}
use Rattle.tl_types.proofs.Given.{length-given_in, appends_word, seen_word}
use Rattle.tl_types.proofs.bytes.Bytes.push_given.Goals as goal

pub bounds-self-inside-word : goal.bounds-self-inside-word
bounds-self-inside-word c =
    let long = length-given_in (bit_in c.self.inside.masks) c.self.inside.plain.items in
    let seen = ap length c.self.view_is in
    omega (arith, long, seen)

pub unwrap-requires : goal.unwrap-requires
unwrap-requires c =
    let long = length-given_in (bit_in c.self.inside.masks) c.self.inside.plain.items in
    let seen = ap length c.self.view_is in
    let fits : length c.self.inside.plain.items + length c.args.bytes.now ≤ 256 = omega (arith, long, seen) in
    c.try_extend_from_slice.ensures.variant.1 fits

pub invariant_of-self : goal.invariant_of-self
invariant_of-self c =
    let plain = c.self.inside.plain.items in
    let masks = c.self.inside.masks in
    let long = length-given_in (bit_in masks) plain in
    let seen = ap length c.self.view_is in
    let within : length plain / 8 < length masks = omega (arith, long, seen, c.self.invariant.counted) in
    let aligned : length plain % 8 ≡ 0 = omega (arith, long, seen) in
    let items : c.try_extend_from_slice.new.self.items ≡ plain ++ c.args.bytes.now = search rules in
    rw (items, c.len-word.ensures.value)
    (appends_word plain masks c.args.bytes.now c.self.invariant within aligned c.requires.in_word).kept

pub returns : goal.returns
returns c =
    let plain = c.self.inside.plain.items in
    let masks = c.self.inside.masks in
    let long = length-given_in (bit_in masks) plain in
    let seen = ap length c.self.view_is in
    let within : length plain / 8 < length masks = omega (arith, long, seen, c.self.invariant.counted) in
    let aligned : length plain % 8 ≡ 0 = omega (arith, long, seen) in
    let items : c.try_extend_from_slice.new.self.items ≡ plain ++ c.args.bytes.now = search rules in
    rw (items, c.len-word.ensures.value, ← c.self.view_is)
    (seen_word plain masks c.args.bytes.now c.self.invariant within aligned c.requires.in_word)
