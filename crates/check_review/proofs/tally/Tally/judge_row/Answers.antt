-- A beat is one of the stretch that goes on, and a reset ends that.
use Rattle.check_rows.specs.Row.{row_with}
use Rattle.check_review.specs.Stretches.{Earlier}
use Rattle.check_review.proofs.Keeping.{both_ok, keeps_beat}
use Rattle.check_review.proofs.tally.Tally.judge_row.Goals as goal

pub returns-then-not-row-clause-keeps : goal.returns-then-not-row-clause-keeps
returns-then-not-row-clause-keeps c system before course kept =
    let earlier : Earlier = record { system = system; ended = course.ended } in
    both_ok c.judge_beat.result (keeps_beat system before course (row_with c.args.row.now c.args.lanes.now)
    c.args.self.now.trace c.judge_beat.new.self c.args.text.now.items c.judge_beat.new.text.items c.if-not-row.true)
    (c.judge_beat.ensures.keeps earlier course.now.plan course.now.rows kept)
    (c.judge_beat.ensures.told earlier course.now.plan course.now.rows kept)

pub returns-then-not-row-clause-fault : goal.returns-then-not-row-clause-fault
returns-then-not-row-clause-fault c system before course kept =
    let earlier : Earlier = record { system = system; ended = course.ended } in
    c.judge_beat.ensures.fault earlier course.now.plan course.now.rows kept

pub returns-then-not-row-clause-memory : goal.returns-then-not-row-clause-memory
returns-then-not-row-clause-memory c system before course kept =
    let earlier : Earlier = record { system = system; ended = course.ended } in
    c.judge_beat.ensures.memory earlier course.now.plan course.now.rows kept
