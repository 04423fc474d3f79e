use Rattle.check_wave_laws.proofs.SampledDumps.{system-ends}
use Rattle.check_wave_laws.proofs.laws.dumps_end_by_their_edges.Goals as goal

pub returns : goal.returns
returns c = system-ends
