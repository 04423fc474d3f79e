-- The bytes so far, and those of the rest, are the bytes of the word.
use Rattle.std.proofs.Common.{◌≡◌, ◌+◌, ◌*◌, ◌++◌, length, option_map}
use Rattle.tl_script.specs.Data.{data_of}
use Rattle.tl_script.proofs.data.read_data.Given as goal

abbrev pub invariant-loop-rest : goal.invariant-loop-rest
invariant-loop-rest l = record {
  bytes : option_map (λ more. l.bytes ++ more) (data_of l.rest) ≡ data_of l.word;
  room : 2 * length l.bytes + length l.rest ≡ 2 * l.count;
}

abbrev pub decreases-loop-rest : goal.decreases-loop-rest
decreases-loop-rest l = length l.rest
