use Rattle.std.proofs.Common.{rules}
use Rattle.check_memory.specs.Paged.{slots_of}
use Rattle.check_memory.proofs.slots.Slots.new.Goals as goal

pub returns : goal.returns
unfolding slots_of
returns c = search rules
