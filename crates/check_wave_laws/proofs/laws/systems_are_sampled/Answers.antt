use Rattle.check_wave_laws.proofs.SampledDumps.{system-sampled}
use Rattle.check_wave_laws.proofs.laws.systems_are_sampled.Goals as goal

pub returns : goal.returns
returns c = system-sampled
