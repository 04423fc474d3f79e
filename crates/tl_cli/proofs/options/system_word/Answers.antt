use Rattle.std.proofs.Common.{rules}
use Rattle.tl_cli.proofs.Rules.{with_required}
use Rattle.tl_cli.proofs.options.system_word.Goals as goal

pub returns-clause-rule : goal.returns-clause-rule
returns-clause-rule c =
    rw (with_required c.valued.result c.required.result _ _ c.valued.ensures.rule c.required.ensures) (search rules)
