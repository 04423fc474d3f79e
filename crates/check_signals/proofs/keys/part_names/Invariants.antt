-- The names so far, and those of the rest, are the names of all.
use Rattle.std.proofs.Common.{◌≡◌, drop, map}
use Rattle.toml.specs.View.{view}
use Rattle.tl_text.specs.Reading.{each, with_front}
use Rattle.check_signals.specs.Names.{part_name}
use Rattle.check_signals.proofs.keys.part_names.Given as goal

abbrev pub invariant-loop-value : goal.invariant-loop-value
invariant-loop-value l =
    with_front (map (λ name. name.items) l.names.items) (each part_name (map view (drop l.value-index l.values)))
    ≡ each part_name (map view l.values)
