-- The bytes at hand end where they ended.
use Rattle.std.proofs.Common.{arith, drop, length-take, ◌-◌}
use Rattle.check_records.proofs.KnownLemmas.{part-rest}
use Rattle.check_records.proofs.source.Source.advance.Goals as goal

pub returns-clause-text : goal.returns-clause-text
returns-clause-text g c =
    let s = c.args.self.now in
    let inside = c.requires in
    part-rest s.chunk.items s.next s.filled c.args.count
    (omega (arith, inside, length-take (s.filled - s.next) (drop s.next s.chunk.items)))
