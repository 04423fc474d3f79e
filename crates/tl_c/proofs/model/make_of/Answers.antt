-- The fault of an image that lacks, or of the parts.
use Rattle.tl_c.proofs.Told.{if_none, of_draft}
use Rattle.tl_c.proofs.model.make_of.Goals as goal

pub make_model-requires : goal.make_model-requires
make_model-requires c = if_none c.lacking.result c.lacking.ensures.none c.in_default.is

pub returns-in-Err-clause-fault : goal.returns-in-Err-clause-fault
returns-in-Err-clause-fault c more =
    of_draft c.args.draft.now c.in-Err.fault c.refuse-in-Err.result c.refuse-in-Err.ensures.number
    (if_none c.lacking.result c.lacking.ensures.none c.in_default.is) c.in-Err.ensures.fault more
