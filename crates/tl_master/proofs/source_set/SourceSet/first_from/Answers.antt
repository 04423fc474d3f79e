use Rattle.std.proofs.Common.{◌<◌, ◌≤◌, ⊎_elim, arith, rules}
use Rattle.std.proofs.lemmas.Bool.{cases_lt}
use Rattle.tl_master.proofs.Bits.{found_in_word, word_passed, beyond_words}
use Rattle.tl_master.proofs.source_set.SourceSet.first_from.Goals as goal

pub loop-start-preserved : goal.loop-start-preserved
loop-start-preserved c =
    let after = c.loop-start.invariant.after in record {
      after = omega arith;
      none = word_passed c.args.self.now.words c.args.from c.loop-start.start c.loop-start.invariant.none c.in_default.ensures.none;
    }

pub returns-in-Some-clause-some : goal.returns-in-Some-clause-some
returns-in-Some-clause-some c =
    found_in_word c.args.self.now.words c.args.from c.loop-start.start _ c.loop-start.invariant.after c.loop-start-test.true c.loop-start.invariant.none c.in-Some.ensures.some

pub returns-clause-none : goal.returns-clause-none
returns-clause-none c = λ source after. ⊎_elim
    (λ (inside : source < c.loop-start.start). c.loop-start.invariant.none source after inside)
    (λ (past : c.loop-start.start ≤ source). beyond_words c.args.self.now.words source (search rules)
    (let end = c.loop-start-test.false in omega arith))
    (cases_lt source c.loop-start.start)
