use Rattle.std.proofs.Common.{arith, sym, ap, subst, ◌∙◌, ◌≡◌, ◌<◌, ◌/◌, ℕ, length, refl}
use Rattle.std.specs.VecDeque.{deque_capacity}
use Rattle.atomic_table.specs.Table.{rest}
use Rattle.tl_slots.specs.declared.phase.Phase.TheVariants.{Posted}
use Rattle.tl_slots.specs.Word.{word, FitsWord}
use Rattle.tl_slots.proofs.Words.{word-port}
use Rattle.tl_rule.specs.declared.view.About.{About}
use Rattle.tl_rule.specs.declared.view.Held.TheVariants.{Filled, Sent}
use Rattle.tl_rule.specs.Views.{Owns}
use Rattle.tl_rule.specs.Moves.{as_master}
use Rattle.tl_rule.specs.Moves as moves
use Rattle.tl_rule.specs.Views as views
use Rattle.tl_rule.proofs.Seats.{posts_at, told_sent}
use Rattle.tl_arena.specs.Views.{ArenaId, MasterView, hand_at, with_held}
use Rattle.tl_arena.specs.Key.{about_in}
use Rattle.tl_arena.specs.Kept.{master_view}
use Rattle.tl_arena.specs.Promises.{IsIdleSource}
use Rattle.tl_arena.proofs.Keeping.{master_arena, held_inside, master_recounted, post_kept}
use Rattle.tl_arena.proofs.Promised.{brought_back}
use Rattle.tl_arena.proofs.arena.Arena.post.Goals as goal

pub store-requires : goal.store-requires
store-requires c =
    let s = c.self.invariant in
    let m = c.master.invariant in
    let i = c.claim.inside.slot in
    let key = c.self.inside.table.shared.key in
    let z = c.master.inside.seat.table_id in
    let me = c.master.inside.seat.me in
    let source = c.args.ask.now.source in
    let arena = master_arena z me.0 c.args.master.now c.args.self.now c.self.inside.table.shared.table_id
    (about_in key) c.master.view_is c.requires.arena c.self.view_is in
    let slots = ap (λ (a : About). a.slots) arena.1 in
    let filled : views.in_hand (as_master me.0) i ≡ Filled =
    subst (λ (v : MasterView). hand_at v i ≡ Filled) (sym c.master.view_is)
    (subst (λ (k : ℕ). hand_at c.args.master.now k ≡ Filled) (sym c.claim.view_is) c.requires.claim) in
    let lt = held_inside me c.master.inside.order.items
    (deque_capacity c.master.inside.order) c.master.inside.number c.master.inside.owned c.master.inside.collected m i
    (λ e. absurd (cc)) in
    let now = brought_back me c.bring.new.seat.me c.exchange.new.seat.me i _ c.post.new.self c.of.ensures c.bring.ensures.brought.view c.exchange.ensures.3 in
    let to : c.args.port < (as_master me.0).about.ports =
    subst (λ (v : MasterView). c.args.port < v.arena.about.ports) (sym c.master.view_is)
    (subst (λ (a : ArenaId). c.args.port < a.about.ports) (sym c.requires.arena) c.requires.port) in
    let owns : Owns (as_master me.0).about (as_master me.0).number source =
    subst (λ (v : MasterView). Owns v.arena.about v.number source) (sym c.master.view_is)
    (subst (λ (a : ArenaId). Owns a.about c.args.master.now.number source)
    (sym c.requires.arena) c.requires.source) in
    let unsent : moves.IsUnsent me source =
    subst (λ (v : MasterView). IsIdleSource v source) (sym c.master.view_is) c.requires.unsent in (
      c.exchange.ensures.0 ∙ c.bring.ensures.table ∙ arena.0,
      omega arith,
      posts_at (about_in key) _ _ me c.exchange.new.seat.me i _ c.post.new.self
          (rest c.bring.new.seat.me.1) c.args.ask.now c.args.port now m.is filled
          (c.word_of-new.ensures ∙ ap (λ (k : ℕ). word (Posted k c.args.port))
          (sym m.numbered)) c.post.ensures.spells to owns unsent,
    )

pub returns-clause-seat : goal.returns-clause-seat
returns-clause-seat c =
    let m = c.master.invariant in
    let i = c.claim.inside.slot in
    let me = c.master.inside.seat.me in
    let ask = c.args.ask.now in
    let port = c.args.port in
    let now = brought_back me c.bring.new.seat.me c.exchange.new.seat.me i _ c.post.new.self c.of.ensures c.bring.ensures.brought.view c.exchange.ensures.3 in
    let fits : FitsWord (Posted c.master.inside.number port) = record {
      owner = let below = m.in_range in let few = m.in_limit in omega arith;
      port = let s = c.self.invariant in let few = s.limits.ports_in_limit in let is = s.ports_are in
          let seen = ap (λ (a : ArenaId). a.about.ports) c.self.view_is in let below = c.requires.port in omega arith;
    } in
    let named : c.word_of-new.result / 2048 ≡ port =
    ap (λ (n : ℕ). n / 2048) c.word_of-new.ensures ∙ word-port (Posted c.master.inside.number port) fits in
    let told = told_sent _ me c.exchange.new.seat.me c.store.new.seat.me i _ c.post.new.self
    (rest c.bring.new.seat.me.1) ask port now c.post.ensures.spells named c.store.ensures.2 in
    let table = c.store.ensures.0 ∙ c.exchange.ensures.0 ∙ c.bring.ensures.table in
    (λ k. master_view (table k) (told k).0) ∙
    (λ k. with_held (c.master.view_is k) (c.claim.view_is k) (Sent ask port (length (c.master.view_is k).got)))

pub invariant_of-master : goal.invariant_of-master
invariant_of-master c =
    let m = c.master.invariant in
    let i = c.claim.inside.slot in
    let me = c.master.inside.seat.me in
    let order = c.master.inside.order in
    let ask = c.args.ask.now in
    let port = c.args.port in
    let filled : views.in_hand (as_master me.0) i ≡ Filled =
    subst (λ (v : MasterView). hand_at v i ≡ Filled) (sym c.master.view_is)
    (subst (λ (k : ℕ). hand_at c.args.master.now k ≡ Filled) (sym c.claim.view_is) c.requires.claim) in
    let now = brought_back me c.bring.new.seat.me c.exchange.new.seat.me i _ c.post.new.self c.of.ensures c.bring.ensures.brought.view c.exchange.ensures.3 in
    let told = told_sent _ me c.exchange.new.seat.me c.store.new.seat.me i _ c.post.new.self
    (rest c.bring.new.seat.me.1) ask _ now c.post.ensures.spells refl c.store.ensures.2 in
    master_recounted c.store.new.seat.me _ _ _ _ c.master.inside.number c.master.inside.owned c.master.inside.collected refl
    (c.pop_front.ensures.capacity ∙ c.bring.ensures.capacity)
    (post_kept me order.items
    (deque_capacity order) c.master.inside.number c.master.inside.owned c.master.inside.collected m
    c.bring.new.seat.me c.store.new.seat.me c.bring.new.order.items c.pop_front.new.self.items i ask _ _ c.bring.ensures.brought c.pop_front.ensures.rest told filled)
