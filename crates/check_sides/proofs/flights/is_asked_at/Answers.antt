use Rattle.std.proofs.Common.{◌∙◌, Some, sym, ap, eqb-true}
use Rattle.std.proofs.lemmas.Bool.{eq-eqb}
use Rattle.check_sides.proofs.Opening.{none_some, some_same}
use Rattle.check_sides.proofs.flights.is_asked_at.Goals as goal

pub returns-in-Some : goal.returns-in-Some
returns-in-Some c = (
  λ same. (c.asked_at.ensures c.args.port).0 (c.in-Some.is ∙ ap Some (eqb-true c.in-Some.at c.args.port same)),
  λ at. eq-eqb c.in-Some.at c.args.port
      (some_same c.in-Some.at c.args.port (sym c.in-Some.is ∙ (c.asked_at.ensures c.args.port).1 at)),
)

pub returns-in-None : goal.returns-in-None
returns-in-None c = (
  λ no. cc,
  λ at. absurd (none_some c.args.port (sym c.in-None.is ∙ (c.asked_at.ensures c.args.port).1 at)),
)
