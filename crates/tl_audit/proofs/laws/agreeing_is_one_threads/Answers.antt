use Rattle.tl_audit.proofs.laws.agreeing_is_one_threads.Goals as goal
use Rattle.tl_audit.proofs.Reader as reader

pub returns : goal.returns
returns c = reader.agreeing_is_one_threads
