-- What is read of operations when more has been put into their pools.
use Rattle.std.proofs.Common.{◌≡◌, ◌∙◌, ℕ, suc, Bool, true, false, List, [], ◌∷◌, ◌++◌, length, map, filter, Option, refl, ap}
use Rattle.std.specs.Prelude.{All}
use Rattle.std.proofs.lemmas.List.{map-append}
use Rattle.std.proofs.lemmas.List.Elements.{All-head, All-push, All-tail}
use Rattle.tl_types.specs.Operation.{byte_count, may_leave_unset}
use Rattle.tl_types.specs.Request.{IsLawfulRequest}
use Rattle.tl_types.specs.declared.operation.AskOp.{AskOp}
use Rattle.tl_journal.specs.Pools.{PoolsView, IsKeptInPool}
use Rattle.tl_journal.proofs.Pooled.{AreIn-grow, Grow, bytes_in-grow, grow_kept, grow_none, sent_in}
use Rattle.tl_script.specs.Operations.{IsIn, job_in}
use Rattle.tl_script.specs.System.{sends}
use Rattle.tl_script.specs.declared.operation.Job.{Job}
use Rattle.tl_script.specs.declared.operation.Job.TheVariants.{Wait as WaitJob, Send as SendJob}
use Rattle.tl_script.specs.declared.operations.Header.{Header}
use Rattle.tl_script.specs.declared.operations.Header.TheVariants.{Wait, Send}

IsIn-grow : (header : Header) (old new : PoolsView) → Grow old new → IsIn old header → IsIn new header
IsIn-grow Wait old new grow was = tt
IsIn-grow (Send op size source start address) old new grow was = AreIn-grow op size start old new grow was

job_in-grow : (header : Header) (old new : PoolsView) → Grow old new → IsIn old header
    → job_in new header ≡ job_in old header
job_in-grow Wait old new grow was = refl
job_in-grow (Send op size source start address) old new grow was =
    rw (bytes_in-grow (may_leave_unset op) start (byte_count op size) old new was.within grow) refl

pub all_in-grow : (headers : List Header) (old new : PoolsView) → Grow old new → All (IsIn old) headers
    → All (IsIn new) headers
all_in-grow headers old new grow was = λ k other within. IsIn-grow _ old new grow (was k other within)

pub jobs_in-grow : (headers : List Header) (old new : PoolsView) → Grow old new → All (IsIn old) headers
    → map (job_in new) headers ≡ map (job_in old) headers
jobs_in-grow [] old new grow was = refl
jobs_in-grow (header ∷ headers) old new grow was =
    let first = job_in-grow header old new grow (All-head (IsIn old) header headers was) in
    let others = jobs_in-grow headers old new grow (All-tail (IsIn old) header headers was) in
    ap (λ (job : Job). job ∷ map (job_in new) headers) first ∙ ap (λ (jobs : List Job). job_in old header ∷ jobs) others

-- ---- one more operation

-- the pools grew, and the header stands for the operation
pub record Takes (old new : PoolsView) (header : Header) (job : Job) : Type 0 where
  pub grow : Grow old new
  pub stands : IsIn new header
  pub is : job_in new header ≡ job

pub takes_wait : (pools : PoolsView) → Takes pools pools Wait WaitJob
takes_wait pools = record { grow = grow_none pools pools (refl, refl); stands = tt; is = refl }

pub takes_send : (op : AskOp) (size source address : ℕ) (bytes : List (Option ℕ)) (old new : PoolsView) (start : ℕ)
    → IsLawfulRequest op size bytes → IsKeptInPool (may_leave_unset op) bytes old new start
    → Takes old new (Send op size source start address)
    (SendJob (record { op = op; size = size; source = source; address = address; bytes = bytes }))
takes_send op size source address bytes old new start lawful kept =
    let sent = sent_in (record {
      op = op;
      size = size;
      source = source;
      address = address;
      bytes = bytes;
    }) old new start lawful kept in
    record { grow = grow_kept (may_leave_unset op) bytes old new start kept; stands = sent.0; is = rw sent.1 refl }

pub pushed_jobs : (headers : List Header) (header : Header) (job : Job) (old new : PoolsView) → Takes old new header job
    → All (IsIn old) headers
    → map (job_in new) (headers ++ header ∷ []) ≡ map (job_in old) headers ++ job ∷ []
pushed_jobs headers header job old new takes was =
    map-append (job_in new) headers (header ∷ [])
    ∙ ap (λ (jobs : List Job). jobs ++ job_in new header ∷ []) (jobs_in-grow headers old new takes.grow was)
    ∙ ap (λ (j : Job). map (job_in old) headers ++ j ∷ []) takes.is

pub pushed_in : (headers : List Header) (header : Header) (job : Job) (old new : PoolsView) → Takes old new header job
    → All (IsIn old) headers → All (IsIn new) (headers ++ header ∷ [])
pushed_in headers header job old new takes was =
    All-push (IsIn new) headers header (all_in-grow headers old new takes.grow was) takes.stands

-- ---- how many headers are of requests

abbrev pub is_send : Header → Bool
is_send Wait = false
is_send (Send op size source start address) = true

pub count_of_sends : (pools : PoolsView) (headers : List Header)
    → length (filter is_send headers) ≡ length (sends (map (job_in pools) headers))
count_of_sends pools [] = refl
count_of_sends pools (Wait ∷ headers) = count_of_sends pools headers
count_of_sends pools (Send op size source start address ∷ headers) = ap suc (count_of_sends pools headers)
