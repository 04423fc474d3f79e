use Rattle.std.proofs.Common.{◌≡◌, vec_len}
use Rattle.std.specs.Prelude.{All}
use Rattle.crossbeam_channel.specs.Claims.{IsSeatAt}
use Rattle.crossbeam_channel.specs.Ends.{sends_on, receives_on, ruled_capacity}
use Rattle.tl_workers.specs.Bell.{room_of}
use Rattle.tl_workers.proofs.bell.Ringer.new.Given as goal

-- the pass that is divided is one of this channel, on which all that were made listen
abbrev pub invariant-loop : goal.invariant-loop
invariant-loop l = record {
  seated : IsSeatAt (sends_on l.sender) l.pass;
  same : receives_on l.receiver ≡ sends_on l.sender;
  many : vec_len l.made ≡ l.counter;
  room : All (λ listener. room_of listener ≡ ruled_capacity (sends_on l.sender)) l.made.items;
}
