use Rattle.std.proofs.Common.{rules}
use Rattle.tl_cli.proofs.Rules.{with_long}
use Rattle.check_options.proofs.options.coverage_option.Goals as goal

pub returns-clause-rule : goal.returns-clause-rule
returns-clause-rule c =
    rw (with_long c.valued.result c.long.result _ _ c.valued.ensures.rule c.long.ensures) (search rules)
