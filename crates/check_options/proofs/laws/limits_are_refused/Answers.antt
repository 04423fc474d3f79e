use Rattle.std.proofs.Common.{refl}
use Rattle.clap.proofs.OnLiterals.{clap_on_literals}
use Rattle.check_options.proofs.CommandLine.{refuses}
use Rattle.check_options.proofs.laws.limits_are_refused.Goals as goal

pub returns : goal.returns
unfolding clap_on_literals
returns c = record {
  none = refuses _ _ (λ l f o g. refl);
  most = refuses _ _ (λ l f o g. refl);
  unnumbered = refuses _ _ (λ l f o g. refl);
  missing = refuses _ _ (λ l f o g. refl);
}
