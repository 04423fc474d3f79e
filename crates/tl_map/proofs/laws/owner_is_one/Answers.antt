use Rattle.tl_map.proofs.Kept.{one_owner}
use Rattle.tl_map.proofs.laws.owner_is_one.Goals as goal

pub returns-clause-master : goal.returns-clause-master
returns-clause-master c owners lawful master source other own wide first second =
    (one_owner owners lawful master source other own wide first second).0

pub returns-clause-source : goal.returns-clause-source
returns-clause-source c owners lawful master source other own wide first second =
    (one_owner owners lawful master source other own wide first second).1
