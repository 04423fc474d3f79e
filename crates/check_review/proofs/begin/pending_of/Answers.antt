use Rattle.std.proofs.Common.{◌∙◌, ap, sym}
use Rattle.std.proofs.lemmas.Result.{IfOk-weaker}
use Rattle.check_sides.specs.Plan.{Layout}
use Rattle.check_review.proofs.begin.pending_of.Goals as goal

pub returns : goal.returns
returns c = IfOk-weaker c.new.result _ _
    (λ pending holds plan keeps. holds plan
    (ap (λ (l : Layout). l.owners) (sym keeps.suits.layout) ∙ sym c.sources.ensures)) c.new.ensures
