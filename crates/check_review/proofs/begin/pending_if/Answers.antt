-- Each exit by itself: if memory is refused there is no judge, and one that has seen no beat holds no request.
use Rattle.std.proofs.Common.{IfOk, Result, Ok, Err}
use Rattle.std.specs.Result.{IsErrAnd}
use Rattle.std.specs.declared.alloc.AllocError.{AllocError}
use Rattle.check_review.proofs.begin.pending_if.Goals as goal

no_value : {X : Type 0} (P : X → Type 0) (Q : AllocError → Type 0) (result : Result X AllocError) → IsErrAnd result Q → IfOk result P
no_value P Q (Ok x) is = absurd is
no_value P Q (Err e) is = tt

pub returns-in_err-pending_of-clause-asked : goal.returns-in_err-pending_of-clause-asked
returns-in_err-pending_of-clause-asked c = no_value _ _ c.from_residual.result c.from_residual.ensures.1

pub returns-in_err-pending_of-clause-none_yet : goal.returns-in_err-pending_of-clause-none_yet
returns-in_err-pending_of-clause-none_yet c = no_value _ _ c.from_residual.result c.from_residual.ensures.1

pub returns-in_ok-pending_of-clause-none_yet : goal.returns-in_ok-pending_of-clause-none_yet
returns-in_ok-pending_of-clause-none_yet c plan keeps = c.in_ok-pending_of.ensures plan keeps
