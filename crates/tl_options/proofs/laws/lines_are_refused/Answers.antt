use Rattle.std.proofs.Common.{refl}
use Rattle.clap.proofs.OnLiterals.{clap_on_literals}
use Rattle.tl_options.proofs.laws.lines_are_refused.Goals as goal

pub returns : goal.returns
unfolding clap_on_literals
returns c = record {
  help = refl;
  version = refl;
  many = refl;
  none = refl;
  unnumbered = refl;
  missing = refl;
  stray = refl;
  unknown = refl;
}
