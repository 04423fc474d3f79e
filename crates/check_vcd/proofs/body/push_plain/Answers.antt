-- Digits that are what they stand for are appended as they are.
use Rattle.std.proofs.Common.{◌∙◌, sym}
use Rattle.check_vcd.proofs.DigitLemmas.{plain-pushed}
use Rattle.check_vcd.proofs.body.push_plain.Goals as goal

pub returns-then-plain : goal.returns-then-plain
returns-then-plain c =
    plain-pushed c.extend_from_slice.result c.extend_from_slice.new.self.items c.args.value.now.items c.args.digits.now
    c.extend_from_slice.ensures.items (sym c.requires ∙ c.if-plain.true)
