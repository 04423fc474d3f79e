-- The links so far, and those of the rest, are the links of all.
use Rattle.std.proofs.Common.{◌≡◌, drop, map}
use Rattle.toml.specs.View.{view}
use Rattle.tl_text.specs.Reading.{each, with_front}
use Rattle.check_signals.specs.Names.{common_view, link_of, link_view}
use Rattle.check_signals.proofs.keys.links_of.Given as goal

abbrev pub invariant-loop-value : goal.invariant-loop-value
invariant-loop-value l =
    let read = link_of (common_view l.top) l.key in
    with_front (map link_view l.links.items) (each read (map view (drop l.value-index l.values)))
    ≡ each read (map view l.values)
