use Rattle.check_wave_laws.proofs.Sampled.{sampled}
use Rattle.check_wave_laws.proofs.laws.rows_are_sampled.Goals as goal

pub returns : goal.returns
returns c = sampled
