use Rattle.check_text_laws.proofs.Rules.{capture_keeps, capture_breaks, capture_leaves}
use Rattle.check_text_laws.proofs.texts.lawful_captures_keep_the_rules.Goals as goal

pub returns-clause-lawful : goal.returns-clause-lawful
returns-clause-lawful c = capture_keeps

pub returns-clause-incomplete : goal.returns-clause-incomplete
returns-clause-incomplete c = capture_leaves

pub returns-clause-unlawful : goal.returns-clause-unlawful
returns-clause-unlawful c = capture_breaks
