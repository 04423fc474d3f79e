use Rattle.std.proofs.Common.{◌≡◌, ◌∙◌, ℕ, ◌+◌, [], ◌++◌, length, map, take, drop, refl, sym, ap, subst}
use Rattle.std.proofs.lemmas.List.{length-map}
use Rattle.check_flight.specs.Crossing.{Crossing}
use Rattle.check_flight.specs.Crossing.Crossing.{Waiting}
use Rattle.check_flight.specs.PortSlave.{once_reset}
use Rattle.check_flight.specs.Side.{side_reset}
use Rattle.check_watch.specs.Past.{slave_at, state}
use Rattle.check_watch.specs.Plan.{Layout}
use Rattle.check_watch.specs.Reset.{loaded_at, reset_plan}
use Rattle.check_watch.specs.View.{GroupView, IsSized, KeepsGroup, SuitsGroup, state_in}
use Rattle.check_watch.proofs.Resetting.{keeps_again, sized_again, slaves_reset, suits_after, written_back}
use Rattle.check_watch.proofs.watch.GroupWatch.reset.Goals as goal

pub invariant_of-self : goal.invariant_of-self
invariant_of-self c =
    let view = c.args.self.now in
    let mid = c.cut_all.new.self in
    let i = c.self.inside in
    let long : length c.clear_crossings.new.crossings ≡ i.crossings.len =
    ap length c.clear_crossings.ensures ∙ length-map c.deref_mut-3.result.now (λ (_ : Crossing). Waiting) ∙ c.deref_mut-3.ensures.len in
    let all : length c.reset_slaves.new.slaves ≡ i.slaves.len = c.reset_slaves.ensures.counted ∙ c.deref_mut.ensures.len in
    let crossings = take i.crossings.len (c.clear_crossings.new.crossings ++ drop (length c.clear_crossings.new.crossings) i.crossings.items) in
    let slaves = take i.slaves.len (c.reset_slaves.new.slaves ++ drop (length c.reset_slaves.new.slaves) i.slaves.items) in
    let new : GroupView = record mid {
      masters = c.reset.new.self;
      ports = c.reset-2.new.self;
      crossings = crossings;
      slaves = slaves;
    } in
    let waiting : crossings ≡ map (λ (_ : Crossing). Waiting) mid.crossings =
    written_back c.clear_crossings.new.crossings (drop (length c.clear_crossings.new.crossings) i.crossings.items) i.crossings.len long
    ∙ c.clear_crossings.ensures ∙ ap (map (λ (_ : Crossing). Waiting)) (c.deref_mut-3.ensures.value ∙ ap (λ (v : GroupView). v.crossings) c.self.view_is) in
    let back : slaves ≡ c.reset_slaves.new.slaves =
    written_back c.reset_slaves.new.slaves (drop (length c.reset_slaves.new.slaves) i.slaves.items) i.slaves.len all in
    let masters : c.reset.new.self ≡ side_reset mid.masters =
    c.reset.ensures ∙ ap (λ (v : GroupView). side_reset v.masters) c.self.view_is in
    let ports : c.reset-2.new.self ≡ side_reset mid.ports =
    c.reset-2.ensures ∙ ap (λ (v : GroupView). side_reset v.ports) c.self.view_is in
    let sized : IsSized mid = subst (λ (v : GroupView). IsSized v) c.self.view_is c.self.invariant in
    let counted : length slaves ≡ length mid.slaves =
    ap (λ s. length s) back ∙ c.reset_slaves.ensures.counted
    ∙ ap (λ s. length s) (c.deref_mut.ensures.value ∙ ap (λ (v : GroupView). v.slaves) c.self.view_is) in
    subst (λ (l : Layout). IsSized (record new { layout = l })) (sym (ap (λ (v : GroupView). v.layout) c.self.view_is))
    (sized_again mid new refl masters ports waiting sized counted)

pub returns-clause-reset : goal.returns-clause-reset
returns-clause-reset c = λ plan past keeps.
    let view = c.args.self.now in
    let mid = c.cut_all.new.self in
    let i = c.self.inside in
    let long : length c.clear_crossings.new.crossings ≡ i.crossings.len =
    ap length c.clear_crossings.ensures ∙ length-map c.deref_mut-3.result.now (λ (_ : Crossing). Waiting) ∙ c.deref_mut-3.ensures.len in
    let all : length c.reset_slaves.new.slaves ≡ i.slaves.len = c.reset_slaves.ensures.counted ∙ c.deref_mut.ensures.len in
    let crossings = take i.crossings.len (c.clear_crossings.new.crossings ++ drop (length c.clear_crossings.new.crossings) i.crossings.items) in
    let slaves = take i.slaves.len (c.reset_slaves.new.slaves ++ drop (length c.reset_slaves.new.slaves) i.slaves.items) in
    let new : GroupView = record mid {
      masters = c.reset.new.self;
      ports = c.reset-2.new.self;
      crossings = crossings;
      slaves = slaves;
    } in
    let waiting : crossings ≡ map (λ (_ : Crossing). Waiting) mid.crossings =
    written_back c.clear_crossings.new.crossings (drop (length c.clear_crossings.new.crossings) i.crossings.items) i.crossings.len long
    ∙ c.clear_crossings.ensures ∙ ap (map (λ (_ : Crossing). Waiting)) (c.deref_mut-3.ensures.value ∙ ap (λ (v : GroupView). v.crossings) c.self.view_is) in
    let back : slaves ≡ c.reset_slaves.new.slaves =
    written_back c.reset_slaves.new.slaves (drop (length c.reset_slaves.new.slaves) i.slaves.items) i.slaves.len all in
    let masters : c.reset.new.self ≡ side_reset mid.masters =
    c.reset.ensures ∙ ap (λ (v : GroupView). side_reset v.masters) c.self.view_is in
    let ports : c.reset-2.new.self ≡ side_reset mid.ports =
    c.reset-2.ensures ∙ ap (λ (v : GroupView). side_reset v.ports) c.self.view_is in
    let sized : IsSized mid = subst (λ (v : GroupView). IsSized v) c.self.view_is c.self.invariant in
    let same : c.deref_mut.result.now ≡ mid.slaves = c.deref_mut.ensures.value ∙ ap (λ (v : GroupView). v.slaves) c.self.view_is in
    let each : (port : ℕ) → slave_at slaves port ≡ once_reset (slave_at mid.slaves port) (loaded_at c.args.loaded.items port) =
    λ port. ap (λ s. slave_at s port) back ∙ c.reset_slaves.ensures.each port
    ∙ ap (λ s. once_reset (slave_at s port) (loaded_at c.deref_mut-2.result.now port)) same
    ∙ ap (λ l. once_reset (slave_at mid.slaves port) (loaded_at l port)) c.deref_mut-2.ensures.value in
    let suits : SuitsGroup plan mid = suits_after plan view mid c.cut_all.ensures.rest keeps.suits in
    let counted : length slaves ≡ length plan.layout.ports + 1 =
    ap (λ s. length s) (back) ∙ c.reset_slaves.ensures.counted ∙ ap (λ s. length s) same ∙ sized.slaves
    ∙ ap (λ (l : Layout). length l.ports + 1) suits.layout in (
      slaves,
      slaves_reset plan (state plan past) (state_in view) view.slaves mid.slaves slaves c.args.loaded.items keeps.state
          (λ port. refl) (c.in_ok-cut_all.ensures.cut plan keeps.suits) counted each,
      subst (λ (l : Layout). KeepsGroup (reset_plan plan slaves) [] (record new { layout = l }))
          (sym (ap (λ (v : GroupView). v.layout) c.self.view_is))
          (keeps_again mid new refl masters ports waiting plan sized suits),
    )
