-- One request more, or all of them.
use Rattle.std.proofs.Common.{◌∙◌, sym}
use Rattle.check_coverage.specs.Bins.{contests}
use Rattle.check_coverage.specs.Mirrors.{mirrors_in}
use Rattle.check_coverage.proofs.Places.{none_more, none_of, not_kept, some_here, told}
use Rattle.check_coverage.proofs.lists.is_contested.Goals as goal

pub loop-other-preserved : goal.loop-other-preserved
loop-other-preserved c = λ before this is is_this.
    let within = c.loop-other-test.true in
    let test = contests (mirrors_in c.args.mirrors.now this.port) this in
    let answer = told test before c.args.flights.now is c.loop-other.other-index not_kept c.contests.result
    within (λ rival there. c.contests.ensures this rival is_this there) in
    none_more test before c.args.flights.now is c.loop-other.other-index not_kept within
    (c.loop-other.invariant before this is is_this) (sym answer ∙ c.if-contests.false)

pub returns-then-contests : goal.returns-then-contests
returns-then-contests c = λ before this is is_this.
    let within = c.loop-other-test.true in
    let test = contests (mirrors_in c.args.mirrors.now this.port) this in
    let answer = told test before c.args.flights.now is c.loop-other.other-index not_kept c.contests.result
    within (λ rival there. c.contests.ensures this rival is_this there) in
    some_here test before c.args.flights.now is c.loop-other.other-index not_kept within
    (sym answer ∙ c.if-contests.true)

pub returns : goal.returns
returns c = λ before this is is_this.
    none_of (contests (mirrors_in c.args.mirrors.now this.port) this) before c.args.flights.now is
    c.loop-other.other-index not_kept
    c.loop-other-test.false (c.loop-other.invariant before this is is_this)
