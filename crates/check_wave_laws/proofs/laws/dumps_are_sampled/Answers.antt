use Rattle.check_wave_laws.proofs.SampledDumps.{dump-sampled}
use Rattle.check_wave_laws.proofs.laws.dumps_are_sampled.Goals as goal

pub returns : goal.returns
returns c = dump-sampled
