use Rattle.std.proofs.Common.{refl, codes, Some}
use Rattle.clap.proofs.OnLiterals.{clap_on_literals}
use Rattle.check_watch.specs.declared.links.Links.TheVariants.{Masters, Each}
use Rattle.check_flight.specs.Order.{on_both}
use Rattle.check_flight.specs.declared.order.Order.TheVariants.{Reply, Any}
use Rattle.check_options.specs.Options.{plain}
use Rattle.check_options.proofs.CommandLine.{asks}
use Rattle.check_options.proofs.laws.lines_ask_for_each.Goals as goal

pub returns : goal.returns
unfolding clap_on_literals
returns c = record {
  each =
      asks (record plain { links = Each; orders = on_both Reply; capture = Some (codes "c.csv") }) _
      (λ l f o g. refl) (λ l f o g. refl);
  any =
      asks (record plain { links = Masters; orders = on_both Any }) _
      (λ l f o g. refl) (λ l f o g. refl);
}
