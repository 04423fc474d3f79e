use Rattle.tl_ops.proofs.Histories.{IsLawfulHistory-push}
use Rattle.tl_ops.proofs.laws.history_grows.Goals as goal

pub returns : goal.returns
returns c = IsLawfulHistory-push
