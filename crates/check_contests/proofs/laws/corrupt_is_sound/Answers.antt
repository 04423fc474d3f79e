use Rattle.check_contests.proofs.Corrupt.{corrupt_is_sound}
use Rattle.check_contests.proofs.laws.corrupt_is_sound.Goals as goal

pub returns : goal.returns
returns c = corrupt_is_sound
