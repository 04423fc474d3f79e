use Rattle.std.proofs.Common.{arith, sym, ap, subst, refl, ◌∙◌, ◌≡◌, ◌-◌}
use Rattle.std.specs.VecDeque.{deque_capacity}
use Rattle.tl_rule.specs.declared.view.About.{About}
use Rattle.tl_rule.specs.declared.view.Held.TheVariants.{Taken}
use Rattle.atomic_table.specs.Table.{rest}
use Rattle.tl_rule.specs.Moves.{as_master}
use Rattle.tl_rule.specs.Views as views
use Rattle.tl_rule.proofs.Seats.{releases_at, told_released}
use Rattle.tl_arena.specs.Views.{MasterView, ServedView, hand_at}
use Rattle.tl_arena.specs.Key.{about_in}
use Rattle.tl_arena.proofs.Keeping.{master_arena, held_inside, master_recounted, owns_some, release_kept}
use Rattle.tl_beats.specs.Told.{told_reply}
use Rattle.tl_arena.proofs.Promised.{brought_back}
use Rattle.tl_arena.proofs.arena.Arena.release.Goals as goal

pub store-requires : goal.store-requires
store-requires c =
    let s = c.self.invariant in
    let m = c.master.invariant in
    let i = c.served.inside.slot in
    let key = c.self.inside.table.shared.key in
    let z = c.master.inside.seat.table_id in
    let me = c.master.inside.seat.me in
    let arena = master_arena z me.0 c.args.master.now c.args.self.now c.self.inside.table.shared.table_id
    (about_in key) c.master.view_is c.requires.arena c.self.view_is in
    let slots = ap (λ (a : About). a.slots) arena.1 in
    let k = c.served.inside in
    let served : ServedView =
    record {
      slot = k.slot;
      ask = k.ask.value;
      port = k.port;
      index = k.record.value.index;
      reply = told_reply k.record.value.replies k.ask.value.address;
    } in
    let taken : views.in_hand (as_master me.0) i ≡ Taken k.port =
    subst (λ (v : MasterView). hand_at v i ≡ Taken k.port) (sym c.master.view_is)
    (subst (λ (x : ServedView). hand_at c.args.master.now x.slot ≡ Taken x.port)
    (sym c.served.view_is) c.requires.taken) in
    let lt = held_inside me c.master.inside.order.items
    (deque_capacity c.master.inside.order) c.master.inside.number c.master.inside.owned c.master.inside.collected m i
    (λ e. absurd (cc)) in
    let now = brought_back me c.bring.new.seat.me c.exchange.new.seat.me i _ k.record.value c.of.ensures c.bring.ensures.brought.view c.exchange.ensures.3 in (
      c.exchange.ensures.0 ∙ c.bring.ensures.table ∙ arena.0,
      omega arith,
      releases_at (about_in key) _ _ me c.exchange.new.seat.me i k.record.value
          (rest c.bring.new.seat.me.1) k.port now m.is taken,
    )

pub invariant_of-master : goal.invariant_of-master
invariant_of-master c =
    let m = c.master.invariant in
    let i = c.served.inside.slot in
    let order = c.master.inside.order in
    let me = c.master.inside.seat.me in
    let k = c.served.inside in
    let served : ServedView =
    record {
      slot = k.slot;
      ask = k.ask.value;
      port = k.port;
      index = k.record.value.index;
      reply = told_reply k.record.value.replies k.ask.value.address;
    } in
    let taken : views.in_hand (as_master me.0) i ≡ Taken k.port =
    subst (λ (v : MasterView). hand_at v i ≡ Taken k.port) (sym c.master.view_is)
    (subst (λ (x : ServedView). hand_at c.args.master.now x.slot ≡ Taken x.port)
    (sym c.served.view_is) c.requires.taken) in
    let now = brought_back me c.bring.new.seat.me c.exchange.new.seat.me i _ k.record.value c.of.ensures c.bring.ensures.brought.view c.exchange.ensures.3 in
    let told = told_released _ me c.exchange.new.seat.me c.store.new.seat.me i k.record.value
    (rest c.bring.new.seat.me.1) now c.store.ensures.2 in
    let some = owns_some me order.items
    (deque_capacity order) c.master.inside.number c.master.inside.owned c.master.inside.collected m i k.port taken in
    master_recounted c.store.new.seat.me _ _ _ _ c.master.inside.number _ c.master.inside.collected refl
    (c.pop_front.ensures.capacity ∙ c.bring.ensures.capacity)
    (release_kept me order.items
    (deque_capacity order) c.master.inside.number c.master.inside.owned c.master.inside.collected m
    c.bring.new.seat.me c.store.new.seat.me c.bring.new.order.items c.pop_front.new.self.items i k.port
    (c.master.inside.owned - 1) c.bring.ensures.brought c.pop_front.ensures.rest told taken (omega arith))
