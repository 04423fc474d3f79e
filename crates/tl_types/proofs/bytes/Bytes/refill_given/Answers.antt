use Rattle.tl_types.proofs.Masks.{kept_first, seen_first}
use Rattle.tl_types.proofs.bytes.Bytes.refill_given.Goals as goal

pub invariant_of-self : goal.invariant_of-self
invariant_of-self c =
    let masks = c.put_given_masks in
    rw c.refill_room.ensures
    (kept_first c.args.plain.now masks.new.masks masks.ensures.counted masks.ensures.small masks.ensures.given masks.ensures.past)

pub returns : goal.returns
returns c =
    rw c.refill_room.ensures (seen_first c.args.plain.now c.put_given_masks.new.masks c.put_given_masks.ensures.given)
