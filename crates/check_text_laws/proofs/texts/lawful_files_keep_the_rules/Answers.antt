use Rattle.check_text_laws.proofs.Rules.{file_keeps, rules_make_lawful_file}
use Rattle.check_text_laws.proofs.texts.lawful_files_keep_the_rules.Goals as goal

pub returns-clause-rules : goal.returns-clause-rules
returns-clause-rules c = file_keeps

pub returns-clause-lawful : goal.returns-clause-lawful
returns-clause-lawful c = rules_make_lawful_file
