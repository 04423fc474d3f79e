-- What is under way at a link that is judged with others is what is kept of it.
use Rattle.std.proofs.Common.{◌≡◌, ◌∙◌, false, ap, sym, subst}
use Rattle.check_beats.specs.State.{Under}
use Rattle.check_watch.specs.Past.{state}
use Rattle.check_watch.specs.Plan.{link_number, side_of}
use Rattle.check_watch.specs.Scene.{begins}
use Rattle.check_sides.specs.Groups.{is_alone}
use Rattle.check_sides.specs.Plan.{Layout}
use Rattle.check_sides.specs.View.{Keeps}
use Rattle.check_sides.proofs.Grouping.{of_group}
use Rattle.check_sides.proofs.watch.Watch.begins.Goals as goal

pub returns-in-None : goal.returns-in-None
returns-in-None c plan past keeps =
    let link = c.args.link in
    let beat = c.args.beat.now in
    let inside = subst (Keeps plan past) (sym c.self.view_is) keeps in
    let shared : is_alone plan.layout link ≡ false =
    subst (λ (l : Layout). is_alone l link ≡ false) keeps.suits.layout c.in-None.ensures.shared in
    of_group plan past link (λ p l. c.begins.result ≡ begins ((state p l).links (side_of link) (link_number link)) beat)
    false shared
    (c.begins.ensures
    ∙ ap (λ (u : Under). begins u beat) (inside.shared.state.links (side_of link) (link_number link)))
