use Rattle.std.proofs.Common.{◌&&◌, rules, tests}
use Rattle.std.proofs.lemmas.Iterator.{YieldsList-from_slice}
use Rattle.std.proofs.lemmas.Iterator.Search.{any_from_yields_List}
use Rattle.check_review.specs.Waiting.{is_late, is_waiting_of}
use Rattle.check_review.specs.declared.waiting.Waiting.{Waiting}
use Rattle.check_review.proofs.waiting.is_late_of.Goals as goal

pub returns : goal.returns
returns c =
    any_from_yields_List
    (λ (waiting : Waiting). is_waiting_of c.args.wide waiting && is_late c.args.limit c.args.time waiting) _ _ c.any.result
    c.any.ensures.ran (YieldsList-from_slice c.args.requests.now cc) (λ x b q k. search (rules, tests))
