use Rattle.std.proofs.Common.{refl}
use Rattle.clap.proofs.OnLiterals.{clap_on_literals}
use Rattle.check_options.proofs.CommandLine.{refuses}
use Rattle.check_options.proofs.laws.lines_are_refused.Goals as goal

pub returns : goal.returns
unfolding clap_on_literals
returns c = record {
  help = refuses _ _ (λ l f o g. refl);
  version = refuses _ _ (λ l f o g. refl);
  nothing = refuses _ _ (λ l f o g. refl);
  links = refuses _ _ (λ l f o g. refl);
  order = refuses _ _ (λ l f o g. refl);
  side = refuses _ _ (λ l f o g. refl);
  stray = refuses _ _ (λ l f o g. refl);
  trace = refuses _ _ (λ l f o g. refl);
  unknown = refuses _ _ (λ l f o g. refl);
}
