use Rattle.check_memory.proofs.Soundness.{volatile_bytes_are_free}
use Rattle.check_memory.proofs.laws.volatile_bytes_are_free.Goals as goal

pub returns : goal.returns
returns c = volatile_bytes_are_free
