use Rattle.std.proofs.Common.{◌≡◌, ◌∙◌, ℕ, None, Some, ap, subst, sym}
use Rattle.std.specs.Prelude.{option_map}
use Rattle.check_flight.specs.Crossing.{IsSameSent}
use Rattle.check_flight.specs.Flight.{IsAskedAt, asked}
use Rattle.check_watch.proofs.Judging.{asked_across, none_across}
use Rattle.check_watch.proofs.asks.is_asked_as.Goals as goal

pub returns : goal.returns
returns c =
    let layout = c.args.watch.now.layout in
    let master = c.in-Some.master in
    let turn = c.args.flight.now.turn in
    let sent = c.in-Some-asked.sent.now in
    let at : IsAskedAt master turn = (c.asked_at.ensures master).0 c.in-Some.is in
    let told : asked turn ≡ Some sent = sym c.asked.ensures ∙ ap (λ o. option_map (λ s. s.now) o) c.in-Some-asked.is in
    let across = asked_across layout c.args.port master turn sent c.args.seen.now at told in (
      λ yes. across.1 (subst (λ n. IsSameSent n sent c.args.seen.now) c.crossing_bus.ensures.value
          (c.is_same_sent.ensures.0 yes)),
      λ seen. c.is_same_sent.ensures.1
          (subst (λ n. IsSameSent n sent c.args.seen.now) (sym c.crossing_bus.ensures.value) (across.0 seen)),
    )

pub returns-in_default : goal.returns-in_default
returns-in_default c = (
  λ yes. absurd (cc),
  λ seen. absurd (none_across c.args.watch.now.layout c.args.port c.args.flight.now.turn c.args.seen.now
      (λ master at. none master ((c.asked_at.ensures master).1 at)) seen),
)
  where
    none : (master : ℕ) → c.asked_at.result ≡ Some master → ⊥
    none master is = let isnt : c.asked_at.result ≡ None = c.in_default.is in cc
