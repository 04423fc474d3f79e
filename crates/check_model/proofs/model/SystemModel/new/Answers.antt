-- There is a place for each port and for the error port.
use Rattle.std.proofs.Common.{◌≡◌, ◌∙◌, ◌+◌, List, length, map, ap, sym}
use Rattle.std.proofs.lemmas.List.{length-map}
use Rattle.check_description.specs.Port.{Port, port_view}
use Rattle.check_model.proofs.Counted.{loads_counted, ports_counted}
use Rattle.check_model.proofs.model.SystemModel.new.Goals as goal

pub invariant_of-result : goal.invariant_of-result
invariant_of-result c =
    let images = map (λ image. image.items) c.args.images.now in
    let parts = c.into_parts-parts in
    let seen : map port_view c.deref.result.now ≡ c.args.system.ports =
    ap (map port_view) c.deref.ensures.value ∙ parts.ensures.ports in
    let loaded : map port_view c.deref-2.result.now ≡ c.args.system.ports =
    ap (map port_view) c.deref-2.ensures.value ∙ parts.ensures.ports in
    let ranges : length parts.result.addresses ≡ length c.args.system.ports =
    ap length parts.ensures.addresses ∙ length-map c.args.system.ports (λ (port : Port). port.ranges) in
    let more : length c.args.system.ports + 1 ≡ length parts.result.addresses + 1 = ap (λ n. n + 1) (sym ranges) in (
      ap length c.in_ok-ports.ensures ∙ ports_counted images (map port_view c.deref.result.now)
          ∙ ap (λ (l : List Port). length l + 1) seen ∙ more,
      ap length c.in_ok-loads.ensures ∙ loads_counted images (map port_view c.deref-2.result.now)
          ∙ ap (λ (l : List Port). length l + 1) loaded ∙ more,
    )
