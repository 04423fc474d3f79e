-- The fault of a file that is told.
use Rattle.tl_c.proofs.Told.{of_parts, then_written}
use Rattle.tl_c.proofs.system.tlx_system_read_at.Goals as goal

pub returns-in-Err-clause-fault : goal.returns-in-Err-clause-fault
returns-in-Err-clause-fault c =
    of_parts c.args.file.now c.in-Err.fault c.refuse.result c.refuse.ensures.number c.in-Err.ensures.fault

pub returns-in-Err-clause-written : goal.returns-in-Err-clause-written
returns-in-Err-clause-written c =
    then_written c.args.room.now c.put_text.new.room c.refuse.new.room c.put_text.result c.refuse.new.written c.put_text.ensures.written
    c.refuse.ensures.written
