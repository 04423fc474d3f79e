use Rattle.std.proofs.Common.{refl, codes, Some}
use Rattle.clap.proofs.OnLiterals.{clap_on_literals}
use Rattle.check_options.specs.Options.{plain}
use Rattle.check_options.proofs.CommandLine.{asks}
use Rattle.check_options.proofs.laws.lines_ask_for_files.Goals as goal

pub returns : goal.returns
unfolding clap_on_literals
returns c = record {
  alone =
      asks plain _
      (λ l f o g. refl) (λ l f o g. refl);
  file =
      asks (record plain { capture = Some (codes "c.csv") }) _
      (λ l f o g. refl) (λ l f o g. refl);
}
