-- What is written of the run is what is promised of the script.
use Rattle.tl_program.proofs.engine.serial.run_script.Goals as goal

pub returns-clause-answered : goal.returns-clause-answered
returns-clause-answered g c =
    c.write_run.ensures.answered _ _ c.in_ok-system.ensures.ok c.in_ok-system.ensures.taken
