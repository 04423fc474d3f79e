use Rattle.check_order_laws.proofs.Tightening.{uncontested_is_same, uncontested_is_tight}
use Rattle.check_order_laws.proofs.laws.any_loses_nothing_uncontested.Goals as goal

pub returns-clause-accept : goal.returns-clause-accept
returns-clause-accept c = uncontested_is_tight

pub returns-clause-same : goal.returns-clause-same
returns-clause-same c = uncontested_is_same
