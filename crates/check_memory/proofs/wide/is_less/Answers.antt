use Rattle.std.proofs.Common.{◌≡◌, ◌∙◌, ◌+◌, ◌-◌, ◌<◌, ◌^◌, ◌∷◌, nat_lt, suc, length, drop, get_or, sym, ap, arith, rules}
use Rattle.std.proofs.lemmas.List.{drop_more, drop_all}
use Rattle.tl_types.specs.Bytes.{bytes_of_words}
use Rattle.tl_ops.specs.Number.{number}
use Rattle.check_memory.proofs.WordNumbers.{decided, none_less}
use Rattle.check_memory.proofs.wide.is_less.Goals as goal

pub loop-k-init : goal.loop-k-init
loop-k-init c =
    let n = length c.args.less.now in
    drop_all n c.args.less.now (omega arith) ∙ sym (drop_all n c.args.more.now (omega (arith, c.requires)))

pub returns-then-less-k : goal.returns-then-less-k
returns-then-less-k c =
    let less = c.args.less.now in
    let more = c.args.more.now in
    let i = c.loop-k.k - 1 in
    let within : i < length less = omega (arith, c.loop-k-test.true, c.loop-k.auto.k) in
    let above : suc i ≡ c.loop-k.k = omega (arith, c.loop-k-test.true) in
    let small : get_or less i 0 < 2 ^ 64 = search rules in
    let small' : get_or more i 0 < 2 ^ 64 = search rules in
    decided i less more within c.requires
    (ap (λ j. drop j less) above ∙ c.loop-k.invariant ∙ ap (λ j. drop j more) (sym above)) small small' c.if-less-k.true

pub loop-k-preserved : goal.loop-k-preserved
loop-k-preserved c =
    let less = c.args.less.now in
    let more = c.args.more.now in
    let i = c.loop-k.k - 1 in
    let within : i < length less = omega (arith, c.loop-k-test.true, c.loop-k.auto.k) in
    let above : i + 1 ≡ c.loop-k.k = omega (arith, c.loop-k-test.true) in
    drop_more less i 0 within
    ∙ ap (λ word. word ∷ drop (i + 1) less) c.if-less-k.false
    ∙ ap (λ words. get_or more i 0 ∷ words)
    (ap (λ j. drop j less) above ∙ c.loop-k.invariant ∙ ap (λ j. drop j more) (sym above))
    ∙ sym (drop_more more i 0 (omega (arith, within, c.requires)))

pub returns : goal.returns
returns c =
    let less = c.args.less.now in
    let more = c.args.more.now in
    let none : 0 ≡ c.loop-k.k = omega (arith, c.loop-k-test.false) in
    let same : less ≡ more = ap (λ j. drop j less) none ∙ c.loop-k.invariant ∙ ap (λ j. drop j more) (sym none) in
    none_less (number (bytes_of_words less))
    ∙ ap (λ words. nat_lt (number (bytes_of_words less)) (number (bytes_of_words words))) same
