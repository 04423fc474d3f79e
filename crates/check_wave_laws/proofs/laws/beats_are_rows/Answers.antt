use Rattle.check_wave_laws.proofs.Beats.{beat-row}
use Rattle.check_wave_laws.proofs.laws.beats_are_rows.Goals as goal

pub returns : goal.returns
returns c = beat-row
