-- The front of the scopes is left.
use Rattle.std.proofs.Common.{arith}
use Rattle.std.proofs.lemmas.Grind.{common_steps}
use Rattle.std.proofs.lemmas.List.{length-map, take-map}
use Rattle.check_vcd.proofs.header.Header.close_scope.Goals as goal

pub returns : goal.returns
returns c = grind (arith, common_steps, take-map, length-map)
