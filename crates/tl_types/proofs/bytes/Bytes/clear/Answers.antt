use Rattle.tl_types.proofs.Given.{kept_none}
use Rattle.tl_types.proofs.bytes.Bytes.clear.Goals as goal

pub invariant_of-self : goal.invariant_of-self
invariant_of-self c = rw c.clear.ensures kept_none
