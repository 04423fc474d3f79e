use Rattle.tl_types.proofs.Given.{kept_none}
use Rattle.tl_types.proofs.bytes.Bytes.new.Goals as goal

pub invariant_of-result : goal.invariant_of-result
invariant_of-result c = rw c.new.ensures kept_none
