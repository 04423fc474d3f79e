-- How a master's operations are kept: a header for each, and the bytes that their requests carry in pools. This
-- project's own.
use Rattle.std.specs.Prelude.{Bool, true, false}
use Rattle.tl_types.specs.Operation.{byte_count, may_leave_unset}
use Rattle.tl_types.specs.Request.{Request}
use Rattle.tl_journal.specs.Pools.{PoolsView, AreIn, bytes_in_pool}
use Rattle.tl_script.specs.declared.operation.Job.{Job}
use Rattle.tl_script.specs.declared.operation.Job.TheVariants.{Wait, Send}
use Rattle.tl_script.specs.declared.operations.Header.{Header}
use Rattle.tl_script.specs.declared.operations.Header.TheVariants.{Wait as WaitHeader, Send as SendHeader}

-- the operation that a header stands for
abbrev pub job_in : PoolsView → Header → Job
job_in pools WaitHeader = Wait
job_in pools (SendHeader op size source start address) = Send (record {
  op = op;
  size = size;
  source = source;
  address = address;
  bytes = bytes_in_pool pools (may_leave_unset op) start (byte_count op size);
})

-- the bytes of the header's request, if it has one, are in their pool
abbrev pub IsIn : PoolsView → Header → Type 0
IsIn pools WaitHeader = Unit {0}
IsIn pools (SendHeader op size source start address) = AreIn pools op size start

-- the operation that sends this request, or else the one that waits
abbrev pub job_at : Bool → Request → Job
job_at true ask = Send ask
job_at false ask = Wait
