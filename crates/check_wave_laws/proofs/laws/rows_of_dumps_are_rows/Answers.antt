use Rattle.std.proofs.Common.{is_some}
use Rattle.check_wave_laws.proofs.Dumps.{dump-rows}
use Rattle.check_wave_laws.proofs.laws.rows_of_dumps_are_rows.Goals as goal

pub returns : goal.returns
returns c = λ masters ports line text vars words find s few_masters few_ports opened fit fits.
    dump-rows masters ports (is_some s.resets) line text vars words find s few_masters few_ports opened fit fits
    (λ tells. tells)
