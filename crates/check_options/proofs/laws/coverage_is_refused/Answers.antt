use Rattle.std.proofs.Common.{refl}
use Rattle.clap.proofs.OnLiterals.{clap_on_literals}
use Rattle.check_options.proofs.CommandLine.{refuses}
use Rattle.check_options.proofs.laws.coverage_is_refused.Goals as goal

pub returns : goal.returns
unfolding clap_on_literals
returns c = record {
  missing = refuses _ _ (λ l f o g. refl);
  twice = refuses _ _ (λ l f o g. refl);
}
