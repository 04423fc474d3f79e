use Rattle.std.proofs.Common.{refl}
use Rattle.clap.proofs.OnLiterals.{clap_on_literals}
use Rattle.check_waves.proofs.laws.lines_are_refused.Goals as goal

pub returns : goal.returns
unfolding clap_on_literals
returns c = record {
  help = refl;
  version = refl;
  nothing = refl;
  stray = refl;
  unknown = refl;
}
