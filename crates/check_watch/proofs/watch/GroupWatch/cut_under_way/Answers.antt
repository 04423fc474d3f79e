use Rattle.std.proofs.Common.{◌≡◌, ◌∙◌, Some, None, ap, sym}
use Rattle.check_beats.specs.State.{ask_so_far}
use Rattle.check_watch.specs.View.{state_in, under_in}
use Rattle.check_watch.proofs.Resetting.{none_under_way, on_ok, under_way}
use Rattle.check_watch.proofs.watch.GroupWatch.cut_under_way.Goals as goal

pub returns-in-Some-clause-cut : goal.returns-in-Some-clause-cut
returns-in-Some-clause-cut c = λ plan suits.
    let view = c.args.self.now in
    let here : ask_so_far (under_in view c.args.link).asking ≡ Some c.in-Some.ask =
    ap (λ u. ask_so_far u.asking) (sym c.link.ensures) ∙ sym c.ask_so_far.ensures ∙ c.in-Some.is in
    on_ok c.cut_at.result
    (under_way plan (state_in view) c.args.link view.slaves c.cut_at.new.self.slaves c.in-Some.ask here)
    (c.cut_at.ensures.cut plan suits)

pub returns-in-None-clause-cut : goal.returns-in-None-clause-cut
returns-in-None-clause-cut c = λ plan suits.
    let view = c.args.self.now in
    let here : ask_so_far (under_in view c.args.link).asking ≡ None =
    ap (λ u. ask_so_far u.asking) (sym c.link.ensures) ∙ sym c.ask_so_far.ensures ∙ c.in-None.is in
    none_under_way plan (state_in view) c.args.link view.slaves view.slaves here
