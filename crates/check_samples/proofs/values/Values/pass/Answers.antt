-- Each value changed before the time that begins, and what is put together was cleared.
use Rattle.std.proofs.Common.{◌≡◌, ◌+◌, [], rules}
use Rattle.check_samples.proofs.ValueLemmas.{joined-passed}
use Rattle.check_samples.proofs.values.Values.pass.Goals as goal

pub returns-clause-before : goal.returns-clause-before
returns-clause-before c =
    let s = c.args.self.now in
    let is : c.in_ok-self.field-0 ≡ s.times + 1 = search rules in
    let none : c.clear.new.self.items ≡ [] = search rules in
    rw is (joined-passed s.slots.items c.args.parts.now c.clear.new.self.items c.push_parts.new.digits.items s.times
    c.push_parts.result s.past none (rw c.deref.ensures.value at c.push_parts.ensures))
