use Rattle.std.proofs.Common.{◌≡◌, get_or, sym, subst}
use Rattle.tl_ops.specs.Store.{Store}
use Rattle.tl_arena.proofs.Dealt.{seen_more}
use Rattle.tl_arena.proofs.key.remember.Goals as goal

pub loop-bank-preserved : goal.loop-bank-preserved
loop-bank-preserved c =
    let banks = c.args.banks.now in
    let i = c.loop-bank.bank-index in
    seen_more (λ bank. bank.value) banks _ _ i c.of.result c.loop-bank-test.true
    c.in_ok-push.ensures.items c.loop-bank.invariant
    (subst (λ (b : Store). get_or banks i b ≡ b) (sym c.of.ensures) (sym c.bank-item.is))
