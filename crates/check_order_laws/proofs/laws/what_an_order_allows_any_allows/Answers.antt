use Rattle.check_order_laws.proofs.Loosening.{any_is_looser}
use Rattle.check_order_laws.proofs.laws.what_an_order_allows_any_allows.Goals as goal

pub returns : goal.returns
returns c = any_is_looser
