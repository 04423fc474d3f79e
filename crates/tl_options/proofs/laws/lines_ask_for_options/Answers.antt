use Rattle.std.proofs.Common.{refl}
use Rattle.clap.proofs.OnLiterals.{clap_on_literals}
use Rattle.tl_options.proofs.laws.lines_ask_for_options.Goals as goal

pub returns : goal.returns
unfolding clap_on_literals
returns c = record {
  alone = (refl, refl);
  serial = (refl, refl);
  history = (refl, refl);
  workers = (refl, refl);
  attached = (refl, refl);
  both = (refl, refl);
  all = (refl, refl);
}
