-- One place more, and the whole table.
use Rattle.std.proofs.Common.{◌≡◌, ◌∙◌, Some, length, take, sym, subst, ap, arith}
use Rattle.std.proofs.lemmas.List.{take_all, take_more}
use Rattle.check_unanswered.specs.Table.{IsOldestOf, opens}
use Rattle.check_unanswered.proofs.Tables.{counted_more, few_more}
use Rattle.check_unanswered.proofs.left.left_in.Goals as goal

pub loop-ask-preserved : goal.loop-ask-preserved
loop-ask-preserved c =
    let table = c.args.table.now in
    let i = c.loop-ask.ask-index in
    let more = take_more table i _ (omega (arith, c.loop-ask-test.true)) in
    record {
      counted = subst (λ l. c.count_with-requests.result ≡ length (opens l)) (sym more)
          (counted_more (take i table) _ _ _ c.count_with-requests.ensures c.loop-ask.invariant.counted);
      few = few_more _ _ _ _ c.count_with-requests.ensures c.loop-ask.invariant.few;
      oldest = subst (λ l. IsOldestOf (opens l) c.oldest_with-first.result) (sym more)
          (c.oldest_with-first.ensures (take i table) c.loop-ask.invariant.oldest);
    }

pub returns-in-Some-clause-some : goal.returns-in-Some-clause-some
returns-in-Some-clause-some c =
    let table = c.args.table.now in
    let all = take_all c.loop-ask.ask-index table (omega (arith, c.loop-ask-test.false)) in
    record {
      count = c.loop-ask.invariant.counted ∙ ap (λ l. length (opens l)) all;
      oldest = subst (λ l. IsOldestOf (opens l) (Some c.in-Some.first)) all
          (subst (λ f. IsOldestOf (opens (take c.loop-ask.ask-index table)) f) c.in-Some.is c.loop-ask.invariant.oldest);
    }

pub returns-in-None-clause-none : goal.returns-in-None-clause-none
returns-in-None-clause-none c =
    let table = c.args.table.now in
    let all = take_all c.loop-ask.ask-index table (omega (arith, c.loop-ask-test.false)) in
    ap opens (sym all)
    ∙ subst (λ f. IsOldestOf (opens (take c.loop-ask.ask-index table)) f) c.in-None.is c.loop-ask.invariant.oldest
