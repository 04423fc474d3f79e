use Rattle.std.proofs.Common.{◌∙◌, rules, tests}
use Rattle.std.proofs.lemmas.Iterator.{YieldsList-from_slice}
use Rattle.std.proofs.lemmas.Iterator.Search.{find_from_yields_List}
use Rattle.check_review.specs.Waiting.{is_late}
use Rattle.check_review.proofs.waiting.first_late.Goals as goal

pub returns : goal.returns
returns c =
    c.copied.ensures ∙ find_from_yields_List (is_late c.args.limit c.args.time) _ _ c.find.result c.find.ensures.ran
    (YieldsList-from_slice c.args.requests.now cc) (λ x b q k. search (rules, tests))
