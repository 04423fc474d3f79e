-- What is answered by what was prepared, or why nothing is.
use Rattle.std.proofs.Common.{map, refl}
use Rattle.check_description.specs.File.{parts_view}
use Rattle.check_program.specs.Engine.{GivenParts}
use Rattle.check_program.proofs.Outcome.{counted_of, outcome_of, unread, why_unprepared}
use Rattle.check_program.proofs.engine.check_within.Goals as goal

pub returns-in_err-prepared-clause-checked : goal.returns-in_err-prepared-clause-checked
returns-in_err-prepared-clause-checked g c =
    let given : GivenParts = record {
      file = c.args.system.bytes.items;
      parts = parts_view c.args.system.parts;
      images = map (λ image. image.items) c.args.images.now;
      capture = g.C.Read.remaining c.args.capture;
    } in
    let fault = c.in_err-prepared.field-0.0 in
    unread c.args.asked given _ _ fault c.from_residual.ensures.1
    (why_unprepared c.args.asked given fault c.in_err-prepared.ensures.fault)

pub returns-clause-checked : goal.returns-clause-checked
returns-clause-checked g c =
    outcome_of c.args.asked _ c.args.system.bytes.items (parts_view c.args.system.parts)
    (map (λ image. image.items) c.args.images.now) (g.C.Read.remaining c.args.capture) _ c.deref.ensures.value _ _
    (c.check_read.ensures.checked _ _ _ refl c.in_ok-prepared.ensures.prepared)

pub returns-clause-covered : goal.returns-clause-covered
returns-clause-covered g c =
    counted_of c.args.asked _ c.args.system.bytes.items (parts_view c.args.system.parts)
    (map (λ image. image.items) c.args.images.now) (g.C.Read.remaining c.args.capture) _ c.deref.ensures.value _ _
    (c.check_read.ensures.covered _ _ _ refl c.in_ok-prepared.ensures.prepared)
