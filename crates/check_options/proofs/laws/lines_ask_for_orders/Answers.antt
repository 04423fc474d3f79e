use Rattle.std.proofs.Common.{refl}
use Rattle.clap.proofs.OnLiterals.{clap_on_literals}
use Rattle.check_flight.specs.Order.{on_both}
use Rattle.check_flight.specs.declared.order.Order.TheVariants.{Accept, Reply, Any}
use Rattle.check_watch.specs.declared.links.Links.TheVariants.{Each}
use Rattle.check_options.specs.Options.{plain}
use Rattle.check_options.proofs.CommandLine.{asks}
use Rattle.check_options.proofs.laws.lines_ask_for_orders.Goals as goal

pub returns : goal.returns
unfolding clap_on_literals
returns c = record {
  sides =
      asks (record plain { links = Each; orders = record { masters = Any; ports = Accept } }) _
      (λ l f o g. refl) (λ l f o g. refl);
  ports =
      asks (record plain { orders = record { masters = Accept; ports = Reply } }) _
      (λ l f o g. refl) (λ l f o g. refl);
  both =
      asks (record plain { orders = on_both Any }) _
      (λ l f o g. refl) (λ l f o g. refl);
}
