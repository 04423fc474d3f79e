use Rattle.check_text_laws.proofs.Parts.{apart, at_each, from_each, together, with_each}
use Rattle.check_text_laws.proofs.groups.each_group_is_lawful.Goals as goal

pub returns-clause-groups : goal.returns-clause-groups
returns-clause-groups c plan past = (
  λ lawful. at_each plan past (apart plan past lawful),
  λ each. together plan past (from_each plan past each),
)

pub returns-clause-each : goal.returns-clause-each
returns-clause-each c = with_each
