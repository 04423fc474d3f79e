use Rattle.std.proofs.Common.{◌≡◌, ◌∙◌, ℕ, ap, subst}
use Rattle.check_watch.specs.declared.beat.Link.{Link}
use Rattle.check_watch.specs.declared.beat.Link.TheVariants.{Port}
use Rattle.check_watch.specs.Reset.{AreLeft, IsCutOpen, IsCutUnderWay}
use Rattle.check_watch.specs.View.{GroupView, state_in}
use Rattle.check_watch.proofs.Resetting.{all_cut, on_ok, suits_after}
use Rattle.check_watch.proofs.watch.GroupWatch.cut_all.Goals as goal

pub returns-clause-cut : goal.returns-clause-cut
returns-clause-cut c = λ plan suits.
    let view = c.args.self.now in
    let first = c.cut_sending.new.self in
    let second = c.cut_arriving.new.self in
    let rest : second ≡ record view { slaves = second.slaves } =
    c.cut_arriving.ensures.rest ∙ ap (λ (v : GroupView). record v { slaves = second.slaves }) c.cut_sending.ensures.rest in
    let A : GroupView → Type 0 = λ v.
    AreLeft (λ port ask. (number : ℕ) × IsCutUnderWay plan (state_in v) (Port number) port ask) first.slaves second.slaves in
    let O : GroupView → Type 0 = λ v.
    AreLeft (λ port ask. (wide : ℕ) × ((link : Link) × IsCutOpen plan (state_in v) link wide port ask)) second.slaves
    c.cut_in_flight.new.self.slaves in
    on_ok c.cut_in_flight.result
    (λ answered. all_cut plan (state_in view) view.slaves first.slaves second.slaves c.cut_in_flight.new.self.slaves
    (c.in_ok-cut_sending.ensures.cut plan suits)
    (subst A c.cut_sending.ensures.rest
    (c.in_ok-cut_arriving.ensures.cut plan (suits_after plan view first c.cut_sending.ensures.rest suits)))
    (subst O rest answered))
    (c.cut_in_flight.ensures.cut plan (suits_after plan view second rest suits))
