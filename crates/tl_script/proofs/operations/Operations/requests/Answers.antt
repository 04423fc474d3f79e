-- The headers that send a request are as many as the requests.
use Rattle.std.proofs.Common.{◌∙◌, ap, length, rules, tests}
use Rattle.std.proofs.lemmas.Iterator.{YieldsList-from_slice}
use Rattle.std.proofs.lemmas.Iterator.Consumers.{YieldsList-from_filter, count_from_yields_List}
use Rattle.tl_script.specs.System.{sends}
use Rattle.tl_script.proofs.Pooled.{is_send, count_of_sends}
use Rattle.tl_script.proofs.operations.Operations.requests.Goals as goal

pub returns : goal.returns
returns c =
    count_from_yields_List c.filter.result _ c.count.ensures.ran
    (YieldsList-from_filter _ is_send
    (YieldsList-from_slice c.self.inside.headers.items (cc)) c.filter.ensures.closure
    (λ x r q k. search (rules, tests)))
    ∙ count_of_sends c.self.inside.pools c.self.inside.headers.items ∙ ap (λ jobs. length (sends jobs)) c.self.view_is
