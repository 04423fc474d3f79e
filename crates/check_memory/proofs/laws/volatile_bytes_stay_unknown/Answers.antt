use Rattle.check_memory.proofs.VolatileBytes.{never_told, window_lost}
use Rattle.check_memory.proofs.laws.volatile_bytes_stay_unknown.Goals as goal

pub returns-clause-told : goal.returns-clause-told
returns-clause-told c = never_told

pub returns-clause-atomic : goal.returns-clause-atomic
returns-clause-atomic c = window_lost
