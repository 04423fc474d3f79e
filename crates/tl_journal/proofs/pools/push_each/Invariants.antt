-- The bytes so far are appended, and there is the room that there was.
use Rattle.std.proofs.Common.{◌≡◌, ◌++◌, take, vec_capacity}
use Rattle.tl_journal.proofs.pools.push_each.Given as goal

abbrev pub invariant-loop-place : goal.invariant-loop-place
invariant-loop-place l = record {
  appended : l.pool.items ≡ l.initial.pool.items ++ take l.place l.bytes;
  room : vec_capacity l.pool ≡ vec_capacity l.initial.pool;
}
