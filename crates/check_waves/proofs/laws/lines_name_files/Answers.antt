use Rattle.std.proofs.Common.{refl}
use Rattle.clap.proofs.OnLiterals.{clap_on_literals}
use Rattle.check_waves.proofs.laws.lines_name_files.Goals as goal

pub returns : goal.returns
unfolding clap_on_literals
returns c = record {
  alone = (refl, refl);
  dump = (refl, refl);
  input = (refl, refl);
}
