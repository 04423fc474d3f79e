use Rattle.std.proofs.Common.{◌∙◌, ℕ, ◌++◌, List, Option, ap}
use Rattle.check_beats.proofs.Given.{whole_lanes}
use Rattle.check_beats.proofs.lanes.push_beat.Goals as goal

pub returns-then-mask-lanes : goal.returns-then-mask-lanes
returns-then-mask-lanes c =
    c.push_words.ensures ∙ ap (λ (b : List (Option ℕ)). c.args.bytes.now ++ b) (whole_lanes c.args.mask c.args.lanes.now c.requires.in_limit c.if-mask-lanes.true)
