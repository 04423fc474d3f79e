use Rattle.std.proofs.Common.{◌≡◌, ◌∙◌, length, slice_index, ap}
use Rattle.std.proofs.lemmas.List.{take_at}
use Rattle.std.specs.List.{refill}
use Rattle.tl_types.specs.Bytes.{given_in, plain_of}
use Rattle.tl_types.proofs.Masks.{length-cleared, kept_flagged, seen_flagged, front_bits}
use Rattle.tl_types.proofs.bytes.Bytes.refill_flagged.Goals as goal

-- the bytes that are kept are the cleared ones
items_are : (c : goal.After-put_flagged_masks)
    → refill (length c.refill_room.new.room.items) c.refill_room.new.room.items c.clear_unset.new.bytes ≡ plain_of
    (given_in (slice_index c.args.flags.now) c.args.plain.now)
items_are c =
    let flags = slice_index c.args.flags.now in
    let plain = c.args.plain.now in
    let items = c.refill_room.ensures in
    let cleared : c.clear_unset.new.bytes ≡ plain_of (given_in flags plain) =
    c.clear_unset.ensures ∙ ap (λ bytes. plain_of (given_in flags bytes)) (c.as_mut_slice.ensures.value ∙ items) in
    rw (items, cleared) (take_at (plain_of (given_in flags plain)) _ (length plain) (length-cleared flags plain))

pub invariant_of-self : goal.invariant_of-self
invariant_of-self c =
    let masks = c.put_flagged_masks in
    rw (items_are c) (kept_flagged c.args.plain.now masks.new.masks c.args.flags.now masks.ensures.counted masks.ensures.small c.requires.flags masks.ensures.bits)

pub returns : goal.returns
returns c =
    let flags = c.args.flags.now in
    let plain = c.args.plain.now in
    let masks = c.put_flagged_masks in
    rw (items_are c) (seen_flagged _ (slice_index flags) plain
    (front_bits plain masks.new.masks flags masks.ensures.bits))
