use Rattle.std.proofs.Common.{refl, codes, true, Some}
use Rattle.clap.proofs.OnLiterals.{clap_on_literals}
use Rattle.check_watch.specs.declared.links.Links.TheVariants.{Masters}
use Rattle.check_options.specs.Options.{plain}
use Rattle.check_options.proofs.CommandLine.{asks}
use Rattle.check_options.proofs.laws.lines_ask_for_complete.Goals as goal

pub returns : goal.returns
unfolding clap_on_literals
returns c = record {
  complete =
      asks (record plain { complete = true; capture = Some (codes "c.csv") }) _
      (λ l f o g. refl) (λ l f o g. refl);
  complete_behind =
      asks (record plain { links = Masters; trace = true; complete = true }) _
      (λ l f o g. refl) (λ l f o g. refl);
}
