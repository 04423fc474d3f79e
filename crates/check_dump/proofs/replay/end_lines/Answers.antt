-- The last rows are lawful, or not.
use Rattle.std.proofs.Common.{refl}
use Rattle.check_dump.proofs.ReplayLemmas.{beat_ends, lawful_ends, refused_ends}
use Rattle.check_dump.proofs.replay.end_lines.Goals as goal

pub returns-in-Ok-clause-ended : goal.returns-in-Ok-clause-ended
returns-in-Ok-clause-ended c =
    rw c.answer_at.ensures
    (lawful_ends c.args.judge.now c.end.new.self.tally c.args.told.now.items c.end.new.text.items c.in-Ok.ending.counts
    c.args.end c.in-Ok.ending.left c.args.latest (record {
      lawful = λ plan rows judges. (
        c.in-Ok.ensures.lawful plan rows judges,
        c.in-Ok.ensures.counts plan rows judges,
        c.in-Ok.ensures.left plan rows judges,
      );
      covers = λ plan rows judges. c.in-Ok.ensures.covers plan rows judges;
      tells = λ plan rows so_far has. c.in-Ok.ensures.told plan rows so_far has;
    }))

pub returns-in-Err-clause-ended : goal.returns-in-Err-clause-ended
returns-in-Err-clause-ended c =
    rw c.answer_refused.ensures
    (refused_ends c.args.judge.now c.end.new.self.tally c.args.end c.args.latest c.args.told.now.items c.end.new.text.items
    c.in-Err.refusal (λ rows at. c.in_default.ensures.later refl rows at)
    (λ plan rows judges. c.in-Err.ensures.fault plan rows judges)
    (λ plan rows judges. c.in-Err.ensures.fault_covers plan rows judges)
    (λ plan rows so_far has. c.in-Err.ensures.fault_told plan rows so_far has))

pub returns-in-Some-clause-ended : goal.returns-in-Some-clause-ended
returns-in-Some-clause-ended c =
    beat_ends c.args.judge.now c.args.judge.now.tally c.args.end c.args.latest c.args.told.now.items c.in-Some.unknown
    c.in-Some.ensures.now.0 c.in-Some.ensures.now.1
