-- One request more is passed over.
use Rattle.std.proofs.Common.{◌≡◌, ◌∙◌, ◌+◌, suc, Bool, true, false, not, ◌&&◌, List, ◌∷◌, get_or, drop, drop-cons, ap, arith, sym}
use Rattle.std.specs.Prelude.{◌==◌, take_while}
use Rattle.std.specs.Bool.{beq}
use Rattle.std.specs.List.{list_any}
use Rattle.std.proofs.lemmas.Bool.{ne_eqb}
use Rattle.check_coverage.specs.declared.flight.CountedFlight.{CountedFlight}
use Rattle.check_coverage.proofs.Places.{not_kept, passed_over}
use Rattle.check_coverage.proofs.lists.is_overtaken.Goals as goal

pub loop-other-preserved : goal.loop-other-preserved
loop-other-preserved c =
    let flight = c.args.flight.now in
    let flights = c.args.flights.now in
    let place = c.loop-other.other-index in
    let other : CountedFlight = get_or flights place not_kept in
    let test : CountedFlight → Bool =
    λ (o : CountedFlight). o.master == flight.master && beq (not (o.port == flight.port)) c.args.elsewhere in
    let passes : CountedFlight → Bool = λ (o : CountedFlight). not (o.wide == flight.wide) in
    let split : drop place flights ≡ other ∷ drop (suc place) flights =
    drop-cons flights place not_kept c.loop-other-test.true in
    let next : place + 1 ≡ suc place = omega arith in
    let passed : not (other.wide == flight.wide) ≡ true = ap not (ne_eqb other.wide flight.wide c.if-other-flight.false) in
    let fails : test other ≡ false = sym c.rivals.ensures ∙ c.if-rivals.false in
    ap (λ n. list_any test (take_while passes (drop n flights))) next
    ∙ passed_over test passes other (drop (suc place) flights) passed fails
    ∙ ap (λ (l : List CountedFlight). list_any test (take_while passes l)) (sym split)
    ∙ c.loop-other.invariant
