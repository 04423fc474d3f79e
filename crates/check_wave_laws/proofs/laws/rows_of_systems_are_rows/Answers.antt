use Rattle.check_wave_laws.proofs.Systems.{system-rows}
use Rattle.check_wave_laws.proofs.laws.rows_of_systems_are_rows.Goals as goal

pub returns : goal.returns
returns c = system-rows
