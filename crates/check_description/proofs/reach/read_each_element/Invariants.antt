-- The elements so far, and those of the rest, are the elements of all.
use Rattle.std.proofs.Common.{◌≡◌, drop, map}
use Rattle.toml.specs.View.{view}
use Rattle.tl_text.specs.Reading.{each, with_front}
use Rattle.check_keys.specs.Value.{integer_or_text_of, integer_or_text_view}
use Rattle.check_description.proofs.reach.read_each_element.Given as goal

abbrev pub invariant-loop-value : goal.invariant-loop-value
invariant-loop-value l =
    with_front (map integer_or_text_view l.elements.items) (each (integer_or_text_of l.key) (map view (drop l.value-index l.values)))
    ≡ each (integer_or_text_of l.key) (map view l.values)
