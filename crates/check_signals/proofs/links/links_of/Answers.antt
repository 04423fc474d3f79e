-- A link more is found, or has no names, or its names have the first fault.
use Rattle.std.proofs.Common.{◌≡◌, ◌+◌, ◌∷◌, add-one, drop, drop-cons, get_or, map, rules, sym}
use Rattle.std.proofs.lemmas.List.{map-append}
use Rattle.check_beats.specs.declared.bus.Bus.TheVariants.{One}
use Rattle.check_vcd.specs.Header.{var_view}
use Rattle.check_signals.specs.Found.{link_sources_view, links_view}
use Rattle.check_signals.specs.Names.{link_names_view, link_view}
use Rattle.check_signals.specs.Source.{fault_view}
use Rattle.check_signals.proofs.LinkLemmas.{finds-fault, link-fails, link-found, link-without}
use Rattle.check_signals.proofs.links.links_of.Goals.{in-Some+in_ok-named_sources+in_ok-push, in_default}
use Rattle.check_signals.proofs.links.links_of.Goals as goal

pub returns-in_err-named_sources : goal.returns-in_err-named_sources
returns-in_err-named_sources c =
    let n = c.loop-number.number in
    let buses = c.args.buses.now in
    let fault = c.in_err-named_sources.field-0.0 in
    let first : drop n buses ≡ get_or buses n One ∷ drop (n + 1) buses =
    rw add-one (drop-cons buses n One (search rules)) in
    finds-fault links_view c.from_residual.result fault _ c.from_residual.ensures.1
    (λ not_memory. link-fails (map var_view c.args.vars.now) c.args.is_port (map link_view c.args.links.now) n
    (get_or buses n One) (drop n buses) (drop (n + 1) buses) first (map link_sources_view c.loop-number.found.items) _
    (link_names_view c.in-Some.names.now) (fault_view fault) (sym c.in-Some.ensures)
    (rw (c.link_at-link.ensures) at (c.in_err-named_sources.ensures not_memory))
    c.loop-number.invariant)

pub loop-number-preserved : goal.loop-number-preserved
loop-number-preserved c =
    let n = c.loop-number.number in
    let buses = c.args.buses.now in
    let vars = map var_view c.args.vars.now in
    let links = map link_view c.args.links.now in
    let found = map link_sources_view c.loop-number.found.items in
    let first : drop n buses ≡ get_or buses n One ∷ drop (n + 1) buses =
    rw add-one (drop-cons buses n One (search rules)) in
    elim c.match-names_at.branch [
      | in-Some+in_ok-named_sources+in_ok-push w ↦
          let next = link-found vars c.args.is_port links n (get_or buses n One) (drop n buses) (drop (n + 1) buses) first
          found _ (link_names_view w.in-Some.names.now) (link_sources_view w.in_ok-named_sources.field-0)
          (sym w.in-Some.ensures)
          (rw (w.link_at-link.ensures) at w.in_ok-named_sources.ensures)
          c.loop-number.invariant in
          rw (w.found-is, w.in_ok-push.ensures.items, map-append) next
      | in_default w ↦
          rw w.found-is (link-without vars c.args.is_port links n (get_or buses n One) (drop n buses)
          (drop (n + 1) buses) first found _ (sym w.in_default.ensures) c.loop-number.invariant)
    ]
