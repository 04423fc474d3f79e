use Rattle.std.proofs.Common.{arith, sym, ap, subst, ◌∙◌, [], ◌<◌, refl}
use Rattle.tl_rule.specs.declared.view.View.TheVariants.{Dealer}
use Rattle.tl_rule.specs.declared.view.About.{About}
use Rattle.tl_rule.specs.Moves.{Seat}
use Rattle.tl_rule.specs.Dealing.{next_port}
use Rattle.tl_rule.proofs.Seats.{deals_port_at}
use Rattle.tl_arena.specs.Views.{ArenaId}
use Rattle.tl_arena.specs.Key.{about_in}
use Rattle.tl_arena.proofs.Dealt.{new_port_kept}
use Rattle.tl_arena.proofs.arena.Arena.deal_port.Goals as goal

pub split_seat-seat-requires : goal.split_seat-seat-requires
split_seat-seat-requires c =
    let s = c.self.invariant in
    let about = ap (λ (a : ArenaId). a.about) c.self.view_is in
    let limits = s.limits in
    let view = ap (λ (m : Seat). m.0) c.requires.next
    ∙ ap (λ (a : About). Dealer a a.masters c.args.number) (sym about) in (
      c.requires.table ∙ ap (λ (a : ArenaId). a.table) (sym c.self.view_is),
      omega arith,
      deals_port_at (about_in c.self.inside.table.shared.key) _
          (about_in c.self.inside.table.shared.key).masters c.args.number _ view refl
          (subst (λ (a : About). c.args.number < a.ports) (sym about) c.requires.more),
    )

pub invariant_of-result : goal.invariant_of-result
invariant_of-result c =
    let s = c.self.invariant in
    let limits = s.limits in
    let about = ap (λ (a : ArenaId). a.about) c.self.view_is in
    let more = subst (λ (a : About). c.args.number < a.ports) (sym about) c.requires.more in
    let dealer = ap (λ (m : Seat). m.0) c.requires.next
    ∙ ap (λ (a : About). Dealer a a.masters c.args.number) (sym about) in
    new_port_kept (about_in c.self.inside.table.shared.key) _ _ _ _ c.args.number
    (c.split_seat-seat.ensures.4 ∙ ap (λ v. (next_port v, [])) dealer) c.in_ok-order.ensures.items more (omega arith)
    (let r = c.in_ok-order.ensures.capacity in omega arith)
    (let l = c.in_ok-owners.ensures.len in let o = c.in_ok-owners.owners.ok in omega arith)
