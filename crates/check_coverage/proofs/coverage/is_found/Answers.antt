-- What the map finds is what decoders find.
use Rattle.std.proofs.Common.{◌≡◌, ◌∙◌, ◌-◌, ℕ, List, length, refl, ap, arith, sym, subst}
use Rattle.std.specs.Prelude.{nat_lt}
use Rattle.tl_map.specs.Map.{RoutesBytes}
use Rattle.tl_map.specs.declared.range.Range.{Range}
use Rattle.check_beats.specs.Rules.{decoded_size}
use Rattle.check_beats.specs.declared.rules.LinkRules.{LinkRules}
use Rattle.check_sides.specs.Plan.{Layout}
use Rattle.check_coverage.proofs.coverage.is_found.Goals as goal

pub returns : goal.returns
returns c = λ plan suits.
    let beat = c.args.beat.now in
    let found = plan.decode beat.address beat.size in
    let ports : c.map-map.result.now ≡ plan.layout.ports =
    c.map-map.ensures ∙ ap (λ (l : Layout). l.ports) suits.layout in
    let rules : c.rules.result ≡ plan.layout.rules = c.rules.ensures ∙ ap (λ (l : Layout). l.rules) suits.layout in
    let size : c.decoded_size-size.result ≡ decoded_size plan.layout.rules beat.size =
    c.decoded_size-size.ensures.value ∙ ap (λ (r : LinkRules). decoded_size r beat.size) rules in
    let port : c.route_bytes-port.result ≡ found =
    (c.route_bytes-port.ensures.port found).1
    (subst (λ (s : ℕ). RoutesBytes c.map-map.result.now beat.address s found) (sym size)
    (subst (λ (m : List (List Range)). RoutesBytes m beat.address (decoded_size plan.layout.rules beat.size) found) (sym ports)
    ((suits.lawful.decode beat.address beat.size found).0 refl))) in
    let less : length c.map-map.result.now ≡ length plan.layout.ports =
    ap (λ (all : List (List Range)). length all) ports in
    let count : c.ports.result - 1 ≡ length plan.layout.ports = omega (arith, less, c.ports.ensures.value) in
    λ i. nat_lt (port i) (count i)
