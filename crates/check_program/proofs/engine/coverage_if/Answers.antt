-- Nothing is covered of a system whose mirrors are handed in.
use Rattle.check_program.proofs.engine.coverage_if.Goals as goal

pub returns-in_ok-mirrors_of-clause-none_yet : goal.returns-in_ok-mirrors_of-clause-none_yet
returns-in_ok-mirrors_of-clause-none_yet c terms images plan is =
    c.new.ensures plan.begins (c.in_ok-mirrors_of.ensures terms images plan is)
