use Rattle.std.proofs.Common.{arith}
use Rattle.check_coverage.specs.Bins.{bins}
use Rattle.check_coverage.proofs.Numbers.{all_up, both}
use Rattle.check_coverage.proofs.laws.limits_in_numbers.Goals as goal

pub returns-clause-apart : goal.returns-clause-apart
returns-clause-apart c flights few = omega (arith, few)

pub returns-clause-more : goal.returns-clause-more
returns-clause-more c flights many = omega (arith, many)

pub returns-clause-own : goal.returns-clause-own
returns-clause-own c source few = omega (arith, few)

pub returns-clause-past : goal.returns-clause-past
returns-clause-past c source many = omega (arith, many)

pub returns-clause-told : goal.returns-clause-told
returns-clause-told c = all_up

pub returns-clause-after_resets : goal.returns-clause-after_resets
returns-clause-after_resets c plan earlier rows up = both (bins plan rows) earlier (all_up plan rows) up
