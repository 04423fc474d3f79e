use Rattle.std.proofs.Common.{◌≡◌, length, sym, arith}
use Rattle.check_memory.proofs.Forgotten.{forgotten_by_places}
use Rattle.check_memory.proofs.sheet.Sheet.forget.Goals as goal

pub returns-clause-after : goal.returns-clause-after
returns-clause-after c =
    let flags = c.args.flags.now in
    let all : c.loop-k.k ≡ length flags = omega (arith, c.loop-k.auto.k-end, c.loop-k-test.false) in
    forgotten_by_places flags c.args.start c.args.self.now c.loop-k.self c.requires.inside c.loop-k.invariant.0
    (λ k below. c.loop-k.invariant.1 k (omega (arith, below, all)))
    (λ place beside. c.loop-k.invariant.2 place (rw (sym all) at beside))
