-- The row is noted, if there is a limit.
use Rattle.std.proofs.Common.{◌∙◌}
use Rattle.check_rows.specs.Row.{row_with}
use Rattle.check_review.proofs.Leaving.{waits_noted}
use Rattle.check_review.proofs.tally.Tally.wait.Goals as goal

pub returns-in-Some-clause-waits : goal.returns-in-Some-clause-waits
returns-in-Some-clause-waits c = λ within plan rows lanes keeps same.
    waits_noted c.note.result within c.in-Some.waits c.note.new.self c.args.self.now.waits plan rows (row_with c.args.row.now lanes)
    c.in-Some.is same c.note.ensures.limit
    (c.note.ensures.noted plan rows lanes (c.beats.ensures.layout ∙ keeps.suits.layout) keeps.suits.lawful keeps.lawful.beats)
