use Rattle.std.proofs.Common.{refl}
use Rattle.clap.proofs.OnLiterals.{clap_on_literals}
use Rattle.check_options.specs.Options.{plain}
use Rattle.check_options.proofs.CommandLine.{asks}
use Rattle.check_options.proofs.laws.lines_ask_for_defaults.Goals as goal

pub returns : goal.returns
unfolding clap_on_literals
returns c = record {
  input =
      asks plain _
      (λ l f o g. refl) (λ l f o g. refl);
  defaults =
      asks plain _
      (λ l f o g. refl) (λ l f o g. refl);
}
