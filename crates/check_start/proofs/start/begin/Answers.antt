-- There is a slave for each port, and the judge keeps no beat by each plan of the system. Images that were loaded fit.
use Rattle.std.proofs.Common.{rules, ◌≡◌, ◌∙◌, ◌+◌, Bool, List, ap, length, map, Ok, subst, sym}
use Rattle.std.specs.Prelude.{IsTrue}
use Rattle.std.proofs.lemmas.List.{length-map}
use Rattle.check_description.specs.Port.{Port, apart_of, port_view}
use Rattle.check_turns.specs.View.{are_apart, is_some_alone}
use Rattle.check_start.specs.Loads.{AreLoadsOf, ImagesFit, loads_at_reset}
use Rattle.check_start.specs.Slaves.{own_slaves, shared_side, shared_slaves}
use Rattle.check_start.specs.Start.{layout_of}
use Rattle.check_start.specs.declared.slaves.SlaveSide.TheVariants.{Ports}
use Rattle.check_start.proofs.Counted.{same_slaves, slaves_counted}
use Rattle.check_start.proofs.Loading.{images_fit}
use Rattle.check_start.proofs.Plans.{loads_are, plan_of}
use Rattle.check_start.proofs.start.begin.Goals as goal

pub of-requires : goal.of-requires
of-requires c =
    let images = map (λ image. image.items) c.args.images.now in
    let made : shared_slaves c.args.system.rules.corrupt c.args.terms images c.args.system.ports ≡ Ok c.in_ok-slaves.slaves.shared.items =
    search rules in
    subst (ImagesFit images) (sym (ap (map port_view) c.deref-7.ensures.value ∙ c.into_parts-parts.ensures.ports))
    (images_fit c.args.system.rules.corrupt (shared_side c.args.terms.links) c.args.terms.orders images c.args.system.ports
    c.in_ok-slaves.slaves.shared.items made)

pub new-requires-clause-slaves : goal.new-requires-clause-slaves
new-requires-clause-slaves c =
    let images = map (λ image. image.items) c.args.images.now in
    let made : shared_slaves c.args.system.rules.corrupt c.args.terms images c.args.system.ports ≡ Ok c.in_ok-slaves.slaves.shared.items =
    search rules in
    slaves_counted c.args.system.rules.corrupt (shared_side c.args.terms.links) c.args.terms.orders images c.args.system.ports
    c.in_ok-slaves.slaves.shared.items made
    ∙ ap (λ n. n + 1) (sym (length-map c.args.system.ports (λ (port : Port). port.ranges))
    ∙ ap length (sym c.into_parts-parts.ensures.addresses))

pub new-requires-clause-own : goal.new-requires-clause-own
new-requires-clause-own c each =
    let images = map (λ image. image.items) c.args.images.now in
    let made : IsTrue (are_apart (layout_of c.args.terms c.args.system))
    → own_slaves c.args.system.rules.corrupt c.args.terms images c.args.system.ports ≡ Ok c.in_ok-slaves.slaves.own.items = search rules in
    let set : c.in_ok-apart.apart.items ≡ apart_of c.args.system.ports =
    c.in_ok-apart.ensures ∙ ap apart_of (ap (map port_view) c.deref.ensures.value ∙ c.into_parts-parts.ensures.ports) in
    let here = subst (λ (l : List Bool). IsTrue (is_some_alone c.args.terms.links l)) set each in
    slaves_counted c.args.system.rules.corrupt Ports c.args.terms.orders images c.args.system.ports c.in_ok-slaves.slaves.own.items (made here)
    ∙ ap (λ n. n + 1) (sym (length-map c.args.system.ports (λ (port : Port). port.ranges))
    ∙ ap length (sym c.into_parts-parts.ensures.addresses))

pub returns-clause-keeps : goal.returns-clause-keeps
returns-clause-keeps c =
    let images = map (λ image. image.items) c.args.images.now in
    let set : c.in_ok-apart.apart.items ≡ apart_of c.args.system.ports =
    c.in_ok-apart.ensures ∙ ap apart_of (ap (map port_view) c.deref.ensures.value ∙ c.into_parts-parts.ensures.ports) in
    let laid : c.in_ok-watch.watch.layout ≡ layout_of c.args.terms c.args.system = search rules in
    let made : shared_slaves c.args.system.rules.corrupt c.args.terms images c.args.system.ports ≡ Ok c.in_ok-slaves.slaves.shared.items =
    search rules in
    let made_own : IsTrue (are_apart (layout_of c.args.terms c.args.system))
    → own_slaves c.args.system.rules.corrupt c.args.terms images c.args.system.ports ≡ Ok c.in_ok-slaves.slaves.own.items = search rules in
    let one = c.in_ok-watch.ensures.plan in
    record {
      some = plan_of c.args.terms c.args.system images one.0 one.3.suits.lawful (sym one.3.suits.layout ∙ laid)
          (made ∙ ap Ok (sym one.1)) (λ each. made_own each ∙ ap Ok (sym one.2));
      each = λ plan is. c.in_ok-watch.ensures.keeps plan.begins is.is
          (is.layout ∙ sym laid ∙ c.in_ok-watch.ensures.layout)
          (same_slaves plan.begins.resets c.in_ok-slaves.slaves.shared.items (sym is.resets ∙ made))
          (λ each.
          let here = subst (λ (l : List Bool). IsTrue (is_some_alone c.args.terms.links l)) set each in
          same_slaves plan.begins.own c.in_ok-slaves.slaves.own.items (sym (is.own here) ∙ made_own here));
    }

pub returns-clause-loads : goal.returns-clause-loads
returns-clause-loads c =
    let images = map (λ image. image.items) c.args.images.now in
    let laid : c.in_ok-watch.watch.layout ≡ layout_of c.args.terms c.args.system = search rules in
    let made : shared_slaves c.args.system.rules.corrupt c.args.terms images c.args.system.ports ≡ Ok c.in_ok-slaves.slaves.shared.items =
    search rules in
    let made_own : IsTrue (are_apart (layout_of c.args.terms c.args.system))
    → own_slaves c.args.system.rules.corrupt c.args.terms images c.args.system.ports ≡ Ok c.in_ok-slaves.slaves.own.items = search rules in
    let loaded : c.in_ok-loads.loads ≡ loads_at_reset images c.args.system.ports = search rules in
    let one = c.in_ok-watch.ensures.plan in
    record {
      some = plan_of c.args.terms c.args.system images one.0 one.3.suits.lawful (sym one.3.suits.layout ∙ laid)
          (made ∙ ap Ok (sym one.1)) (λ each. made_own each ∙ ap Ok (sym one.2));
      each = λ plan is. subst (AreLoadsOf plan) (sym loaded) (loads_are c.args.terms c.args.system images plan is);
    }

pub returns-clause-numbers : goal.returns-clause-numbers
returns-clause-numbers c =
    let parts = c.into_parts-parts.ensures in
    let set : c.deref-6.result.now ≡ apart_of c.args.system.ports =
    c.deref-6.ensures.value ∙ c.in_ok-apart.ensures
    ∙ ap apart_of (ap (map port_view) c.deref.ensures.value ∙ c.into_parts-parts.ensures.ports) in
    rw (parts.sources, parts.nobody, parts.lists, set) at c.in_ok-numbers.ensures
