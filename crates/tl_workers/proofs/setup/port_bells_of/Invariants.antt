use Rattle.std.proofs.Common.{◌≡◌, vec_len}
use Rattle.std.specs.Prelude.{All}
use Rattle.tl_workers.specs.Start.{IsHeardAt}
use Rattle.tl_workers.proofs.setup.port_bells_of.Given as goal

-- the ports so far have their bells
abbrev pub invariant-loop-port : goal.invariant-loop-port
invariant-loop-port l = record {
  bells : vec_len l.bells ≡ l.port;
  heard : All (IsHeardAt l.journals l.workers) l.heard.items;
}
