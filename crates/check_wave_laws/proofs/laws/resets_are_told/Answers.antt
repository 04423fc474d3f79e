use Rattle.check_wave_laws.proofs.Counts.{same-counts}
use Rattle.check_wave_laws.proofs.laws.resets_are_told.Goals as goal

pub returns : goal.returns
returns c = λ file parts system names has makes named.
    (same-counts file names parts system has makes named).resets
