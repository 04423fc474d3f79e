-- How a journal keeps its entries: a header for each, and their bytes in pools. This project's own.
use Rattle.std.specs.Prelude.{ℕ, ◌+◌, ◌-◌, ◌*◌, ◌≤◌, List, length, All}
use Rattle.tl_types.specs.Operation.{byte_count, may_leave_unset, reply_byte_count}
use Rattle.tl_types.specs.Request.{Request}
use Rattle.tl_types.specs.Response.{Response, IsLawfulResponse}
use Rattle.tl_types.specs.declared.limits.TheConstants.{MAX_BYTES}
use Rattle.tl_journal.specs.Pools.{PoolsView, AreIn, bytes_in_pool, plain_in}
use Rattle.tl_journal.specs.declared.journal.Header.{Header}
use Rattle.tl_journal.specs.declared.journal.TheConstants.{MAX_WHOLE}

-- the request that a header stands for
abbrev pub ask_in : PoolsView → Header → Request
ask_in pools header = record {
  op = header.op;
  size = header.size;
  source = header.source;
  address = header.address;
  bytes = bytes_in_pool pools (may_leave_unset header.op) header.start (byte_count header.op header.size);
}

-- the reply that it stands for
abbrev pub reply_in : PoolsView → Header → Response
reply_in pools header = record {
  op = header.answer;
  size = header.answer_size;
  source = header.source;
  denied = header.denied;
  bytes = plain_in pools header.answer_start (reply_byte_count header.answer header.answer_size);
}

-- the request and the reply that a header stands for.
abbrev pub entry_in : PoolsView → Header → Request × Response
entry_in pools header = (ask_in pools header, reply_in pools header)

-- the bytes of the header's request and reply are in their pools
pub record IsEntryIn (pools : PoolsView) (header : Header) : Type 0 where
  pub ask : AreIn pools header.op header.size header.start
  pub within : header.answer_start + reply_byte_count header.answer header.answer_size ≤ length pools.whole
  pub lawful : IsLawfulResponse header.answer header.answer_size header.denied
      (plain_in pools header.answer_start (reply_byte_count header.answer header.answer_size))

-- the pools have room for the longest messages of so many more entries. An entry's request and reply have at most
-- `MAX_WHOLE` bytes together, which is 512.
pub record HasRoom (pools : PoolsView) (left : ℕ) : Type 0 where
  pub whole : length pools.whole + left * MAX_WHOLE ≤ pools.whole_room
  pub partial : length pools.partial + left * MAX_BYTES ≤ pools.partial_room

-- all entries are in the pools, and there is room for the headers and bytes of those that are still to come
pub record IsKeptJournal (pools : PoolsView) (headers : List Header) (capacity room : ℕ) : Type 0 where
  pub entries : All (IsEntryIn pools) headers
  pub few : length headers ≤ room
  pub headers_fit : room ≤ capacity
  pub bytes_fit : HasRoom pools (room - length headers)
