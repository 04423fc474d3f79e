use Rattle.std.proofs.Common.{◌∙◌, rules, tests}
use Rattle.std.specs.Prelude.{◌==◌}
use Rattle.std.proofs.lemmas.Iterator.{YieldsList-from_slice}
use Rattle.std.proofs.lemmas.Iterator.Search.{find_from_yields_List}
use Rattle.check_coverage.specs.declared.flight.CountedFlight.{CountedFlight}
use Rattle.check_coverage.proofs.lists.find_of.Goals as goal

pub returns : goal.returns
returns c =
    c.copied.ensures ∙ find_from_yields_List
    (λ (flight : CountedFlight). flight.wide == c.args.wide) _ _ c.find.result c.find.ensures.ran
    (YieldsList-from_slice c.args.flights.now cc) (λ x b q k. search (rules, tests))
