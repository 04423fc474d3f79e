use Rattle.tl_program.proofs.OneThread.{threaded_is_one_threads}
use Rattle.tl_program.proofs.laws.a_threaded_text_is_one_threads.Goals as goal

pub returns : goal.returns
returns c history text of_run =
    threaded_is_one_threads history c.args.system.now text c.jobs-lawful.ensures.lawful of_run
