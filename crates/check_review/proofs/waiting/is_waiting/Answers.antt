use Rattle.std.proofs.Common.{rules, tests}
use Rattle.std.specs.Prelude.{◌==◌}
use Rattle.std.proofs.lemmas.Iterator.{YieldsList-from_slice}
use Rattle.std.proofs.lemmas.Iterator.Search.{any_from_yields_List}
use Rattle.check_review.specs.declared.waiting.Waiting.{Waiting}
use Rattle.check_review.proofs.waiting.is_waiting.Goals as goal

pub returns : goal.returns
returns c =
    any_from_yields_List (λ (waiting : Waiting). waiting.wide == c.args.wide) _ _ c.any.result c.any.ensures.ran
    (YieldsList-from_slice c.args.requests.now cc) (λ x b q k. search (rules, tests))
