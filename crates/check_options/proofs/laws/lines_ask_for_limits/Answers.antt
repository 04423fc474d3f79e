use Rattle.std.proofs.Common.{refl, codes, Some}
use Rattle.clap.proofs.OnLiterals.{clap_on_literals}
use Rattle.check_watch.specs.declared.links.Links.TheVariants.{Masters}
use Rattle.check_options.specs.Options.{plain}
use Rattle.check_options.proofs.CommandLine.{asks}
use Rattle.check_options.proofs.laws.lines_ask_for_limits.Goals as goal

pub returns : goal.returns
unfolding clap_on_literals
returns c = record {
  within =
      asks (record plain { within = Some 200; capture = Some (codes "c.csv") }) _
      (λ l f o g. refl) (λ l f o g. refl);
  within_behind =
      asks (record plain { links = Masters; within = Some 1 }) _
      (λ l f o g. refl) (λ l f o g. refl);
  longest =
      asks (record plain { within = Some 9223372036854775807 }) _
      (λ l f o g. refl) (λ l f o g. refl);
}
