use Rattle.std.proofs.Common.{◌≡◌, ◌∙◌, length, Some, None, sym, arith}
use Rattle.std.proofs.lemmas.List.{length-map, get_or-map}
use Rattle.check_memory.specs.Known.{known}
use Rattle.check_memory.proofs.Replaced.{replaced_by_places}
use Rattle.check_memory.proofs.sheet.Sheet.load.Goals as goal

pub returns-clause-after : goal.returns-clause-after
returns-clause-after c =
    let bytes = c.args.bytes.now in
    let n : c.loop-k.k ≡ length bytes = omega (arith, c.loop-k.auto.k-end, c.loop-k-test.false) in
    let long : length (known bytes) ≡ length bytes = length-map bytes (λ byte. Some byte) in
    replaced_by_places c.args.self.now c.loop-k.self (known bytes) c.args.start
    (omega (arith, long, c.requires.inside)) c.loop-k.invariant.0
    (λ j below. c.loop-k.invariant.1 j (omega (arith, below, long, n))
    ∙ sym (get_or-map (λ byte. Some byte) bytes j 0 None (omega (arith, below, long))))
    (λ place beside. c.loop-k.invariant.2 place (rw (long ∙ sym n) at beside))
