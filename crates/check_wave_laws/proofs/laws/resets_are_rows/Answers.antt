use Rattle.check_wave_laws.proofs.Beats.{reset-is-row}
use Rattle.check_wave_laws.proofs.laws.resets_are_rows.Goals as goal

pub returns : goal.returns
returns c = reset-is-row
