-- The latest request is this one.
use Rattle.std.proofs.Common.{◌∙◌, ap, cond, Some}
use Rattle.std.specs.Ordering.{nat_cmp}
use Rattle.std.specs.BTreeMap.{get}
use Rattle.check_coverage.specs.Mirrors.{mirrors_in}
use Rattle.check_coverage.specs.declared.flight.CountedFlight.{CountedFlight}
use Rattle.check_coverage.proofs.Noted.{same_number}
use Rattle.check_coverage.proofs.coverage.Coverage.note_end.Goals as goal

pub returns-clause-latest : goal.returns-clause-latest
returns-clause-latest c = λ port.
    c.in_ok-insert.ensures.updates.0 port
    ∙ ap (λ b. cond b (Some c.args.flight) (get nat_cmp c.args.self.now.latest port)) (same_number c.args.flight.port port)

pub returns-clause-counts : goal.returns-clause-counts
returns-clause-counts c = λ plan this before has is was.
    c.in_ok-count_after.ensures plan this before (λ port. ap (λ m. mirrors_in m port) c.deref.ensures.value ∙ has port) is
    (c.copied-latest.ensures ∙ c.get.ensures.value
    ∙ ap (λ (f : CountedFlight). get nat_cmp c.args.self.now.latest f.port) is ∙ was)
