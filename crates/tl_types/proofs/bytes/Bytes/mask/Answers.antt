use Rattle.tl_types.proofs.Given.{mask_of_kept}
use Rattle.tl_types.proofs.bytes.Bytes.mask.Goals as goal

pub returns : goal.returns
returns c = rw (← c.self.view_is)
    (mask_of_kept c.self.inside.plain.items c.self.inside.masks c.args.word c.self.invariant)
