use Rattle.check_wave_laws.proofs.Counts.{same-counts}
use Rattle.check_wave_laws.proofs.laws.names_are_of_links.Goals as goal

pub returns : goal.returns
returns c = λ file parts system names has makes named.
    let counts = same-counts file names parts system has makes named in (counts.masters, counts.ports)
