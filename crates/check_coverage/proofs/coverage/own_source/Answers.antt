-- The owner's source, or 0.
use Rattle.std.proofs.Common.{◌∙◌, sym}
use Rattle.std.proofs.lemmas.Option.{none-some}
use Rattle.check_coverage.proofs.Owners.{source_is, source_none}
use Rattle.check_coverage.proofs.coverage.own_source.Goals as goal

pub returns-in-Some : goal.returns-in-Some
returns-in-Some c =
    source_is c.args.sources.now _ _ c.args.wide c.masters-masters.ensures.lawful ((c.owner.ensures _ _).0 c.in-Some.is)

pub returns-in-None : goal.returns-in-None
returns-in-None c =
    source_none c.args.sources.now c.args.wide
    (λ m source has. none-some (m, source) (sym c.in-None.is ∙ (c.owner.ensures m source).1 has))
