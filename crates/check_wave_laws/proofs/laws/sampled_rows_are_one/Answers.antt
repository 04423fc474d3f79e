use Rattle.check_wave_laws.proofs.SampledDumps.{one-sampled}
use Rattle.check_wave_laws.proofs.laws.sampled_rows_are_one.Goals as goal

pub returns : goal.returns
returns c = one-sampled
