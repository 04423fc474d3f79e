-- The masters so far, and those of the rest, are the masters of all.
use Rattle.std.proofs.Common.{◌≡◌, drop, map}
use Rattle.tl_text.specs.Reading.{each, with_front}
use Rattle.check_description.specs.Listed.{listed_of_said, listed_view, said_view}
use Rattle.check_description.proofs.listed.list_each_said.Given as goal

abbrev pub invariant-loop-one : goal.invariant-loop-one
invariant-loop-one l =
    with_front (map listed_view l.masters.items) (each listed_of_said (map said_view (drop l.one-index l.said)))
    ≡ each listed_of_said (map said_view l.said)
