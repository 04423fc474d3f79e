-- One rule after another.
use Rattle.std.proofs.Common.{◌∙◌, ap, ap₂}
use Rattle.std.proofs.lemmas.Result.{IfOk-weaker}
use Rattle.clap.specs.Words.{with_rule}
use Rattle.check_options.specs.Options.{with_files, with_flags}
use Rattle.check_options.proofs.options.command.Goals as goal

pub returns : goal.returns
returns c =
    let links = c.links_option.ensures.rule in
    let orders = c.order_option.ensures.rule in
    let one = c.in_ok-arg.ensures.shape c.links_option.ensures.local ∙ ap₂ with_rule c.program.ensures links.is in
    let two = c.in_ok-arg-2.ensures.shape c.order_option.ensures.local ∙ ap₂ with_rule one orders.is in
    let choices = c.in_ok-choices.ensures.shape c.within_option.ensures.local
    ∙ ap₂ with_rule two c.within_option.ensures.rule in
    let flags = c.in_ok-add_flags.ensures ∙ ap with_flags choices in
    IfOk-weaker c.add_files.result _ _ (λ r added. record {
      links = links.names;
      orders = orders.names;
      links_listed = links.listed;
      orders_listed = orders.listed;
      is = added ∙ ap with_files flags;
    }) c.add_files.ensures
