-- The texts so far, and those of the rest, are the texts of all.
use Rattle.std.proofs.Common.{◌≡◌, drop, map}
use Rattle.toml.specs.View.{view}
use Rattle.tl_text.specs.Reading.{each, with_front}
use Rattle.tl_script.specs.Value.{script_text_of}
use Rattle.tl_script.proofs.value.script_texts_of.Given as goal

abbrev pub invariant-loop-value : goal.invariant-loop-value
invariant-loop-value l =
    with_front (map (λ text. text.now) l.texts.items) (each (script_text_of l.key) (map view (drop l.value-index l.values)))
    ≡ each (script_text_of l.key) (map view l.values)
