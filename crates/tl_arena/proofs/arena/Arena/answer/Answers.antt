use Rattle.std.proofs.Common.{arith, sym, ap, subst, ◌∙◌, ◌≡◌, ℕ, length, refl, get_or}
use Rattle.std.specs.VecDeque.{deque_capacity}
use Rattle.std.proofs.lemmas.List.{get_or_read}
use Rattle.atomic_table.specs.Table.{rest}
use Rattle.tl_types.specs.Request.{Request}
use Rattle.tl_beats.specs.ToldAsk.{told_ask}
use Rattle.tl_ops.specs.Store as store
use Rattle.tl_slots.specs.declared.phase.Phase.TheVariants.{Answered}
use Rattle.tl_slots.specs.Word.{word}
use Rattle.tl_rule.specs.declared.view.About.{About}
use Rattle.tl_rule.specs.Record.{SlotRecord, Spells, SpellsAnswer}
use Rattle.tl_rule.specs.Views.{Owns}
use Rattle.tl_rule.specs.Moves.{as_port}
use Rattle.tl_rule.proofs.Seats.{answers_at, told_answered}
use Rattle.tl_arena.specs.Views.{PortView, with_answered}
use Rattle.tl_arena.specs.Key.{about_in}
use Rattle.tl_arena.specs.Kept.{port_view}
use Rattle.tl_arena.specs.Promises.{memory_of}
use Rattle.tl_arena.proofs.Keeping.{port_arena, port_recounted, answer_kept}
use Rattle.tl_arena.proofs.Promised.{served_in, brought_back}
use Rattle.tl_arena.proofs.arena.Arena.answer.Goals as goal

pub index-requires : goal.index-requires
index-requires c =
    let p = c.port.invariant in
    let k = c.accepted.inside in
    let ask = told_ask k.record.value.beats in
    let me = c.port.inside.seat.me in
    let held = c.answer.new.self in
    let accepted : ℕ × Request = (k.slot, ask) in
    let serves = served_in
    (port_view c.port.inside.seat.table_id me.0) c.args.port.now accepted c.args.accepted c.port.view_is c.accepted.view_is c.requires.accepted in
    let lt = p.law.inside k.slot ask serves in
    let w = p.wide in
    let ok = c.port.inside.owners.ok in
    omega arith

pub word_of-new-requires : goal.word_of-new-requires
word_of-new-requires c =
    let p = c.port.invariant in
    let k = c.accepted.inside in
    let ask = told_ask k.record.value.beats in
    let me = c.port.inside.seat.me in
    let held = c.answer.new.self in
    let accepted : ℕ × Request = (k.slot, ask) in
    let serves = served_in
    (port_view c.port.inside.seat.table_id me.0) c.args.port.now accepted c.args.accepted c.port.view_is c.accepted.view_is c.requires.accepted in
    let lt = p.law.inside k.slot ask serves in
    let w = p.wide in
    let is : get_or c.port.inside.owners.items k.slot 0 ≡ c.index.result.now =
    sym (get_or_read c.port.inside.owners.items _ _ (omega arith) c.index.ensures 0) in
    record {
      owner = let small = (p.owned k.slot ask serves).small in omega arith;
      port = let below = p.law.number in let few = p.in_limit in let n = p.numbered in omega arith;
    }

pub store-requires : goal.store-requires
store-requires c =
    let s = c.self.invariant in
    let p = c.port.invariant in
    let k = c.accepted.inside in
    let ask = told_ask k.record.value.beats in
    let i = k.slot in
    let key = c.self.inside.table.shared.key in
    let z = c.port.inside.seat.table_id in
    let me = c.port.inside.seat.me in
    let held = c.answer.new.self in
    let arena = port_arena z me.0 c.args.port.now c.args.self.now c.self.inside.table.shared.table_id
    (about_in key) c.port.view_is c.requires.arena c.self.view_is in
    let slots = ap (λ (a : About). a.slots) arena.1 in
    let accepted : ℕ × Request = (k.slot, ask) in
    let serves = served_in
    (port_view z me.0) c.args.port.now accepted c.args.accepted c.port.view_is c.accepted.view_is c.requires.accepted in
    let lt = p.law.inside i ask serves in
    let w = p.wide in
    let owner = c.index.result.now in
    let is : get_or c.port.inside.owners.items i 0 ≡ owner =
    sym (get_or_read c.port.inside.owners.items _ _ (omega arith) c.index.ensures 0) in
    let owns = subst (λ (o : ℕ). Owns (as_port me.0).about o ask.source) is (p.owned i ask serves).owns in
    let now = brought_back me c.bring.new.seat.me c.exchange.new.seat.me i _ held c.of.ensures c.bring.ensures.brought.view c.exchange.ensures.3 in
    let right = subst (λ (v : PortView). c.args.reply.now ≡ store.reply (memory_of v) ask) (sym c.port.view_is)
    (subst (λ (f : ℕ × Request). c.args.reply.now ≡ store.reply (memory_of c.args.port.now) f.1)
    (sym c.accepted.view_is) c.requires.reply) in
    let answers = subst (λ (a : ℕ). SpellsAnswer held a c.args.reply.now)
    (c.address-address.ensures ask (subst (λ (r : SlotRecord). Spells r ask)
    (sym c.deref.ensures) c.accepted.invariant)) c.answer.ensures.answers in (
      c.exchange.ensures.0 ∙ c.bring.ensures.table ∙ arena.0,
      omega arith,
      answers_at (about_in key) _ _ me c.exchange.new.seat.me i _ owner held
          (rest c.bring.new.seat.me.1) ask c.args.reply.now now p.is serves
          (c.word_of-new.ensures ∙ ap (λ (n : ℕ). word (Answered owner n)) (sym p.numbered)) owns
          (c.answer.ensures.asks ask (subst (λ (r : SlotRecord). Spells r ask)
          (sym c.deref_mut.ensures.value) c.accepted.invariant)) answers
          (c.answer.ensures.index ∙ sym p.listed) right,
    )

pub overflow_add-port : goal.overflow_add-port
overflow_add-port c =
    let long = ap (λ (v : PortView). length v.list) c.port.view_is in
    let listed = c.port.invariant.listed in
    let room = c.requires.room in
    omega arith

pub invariant_of-port : goal.invariant_of-port
invariant_of-port c =
    let p = c.port.invariant in
    let k = c.accepted.inside in
    let ask = told_ask k.record.value.beats in
    let me = c.port.inside.seat.me in
    let held = c.answer.new.self in
    let order = c.port.inside.order in
    let accepted : ℕ × Request = (k.slot, ask) in
    let serves = served_in
    (port_view c.port.inside.seat.table_id me.0) c.args.port.now accepted c.args.accepted c.port.view_is c.accepted.view_is c.requires.accepted in
    let now = brought_back me c.bring.new.seat.me c.exchange.new.seat.me k.slot _ held c.of.ensures c.bring.ensures.brought.view c.exchange.ensures.3 in
    let answers = subst (λ (a : ℕ). SpellsAnswer held a c.args.reply.now)
    (c.address-address.ensures ask (subst (λ (r : SlotRecord). Spells r ask)
    (sym c.deref.ensures) c.accepted.invariant)) c.answer.ensures.answers in
    let told = told_answered _ me c.exchange.new.seat.me c.store.new.seat.me k.slot _ held
    (rest c.bring.new.seat.me.1) ask c.args.reply.now now serves answers c.store.ensures.2 in
    port_recounted c.store.new.seat.me _ _ _ _ c.port.inside.owners.items c.port.inside.number _ refl
    (c.pop_front.ensures.capacity ∙ c.bring.ensures.capacity)
    (answer_kept me order.items
    (deque_capacity order) c.port.inside.owners.items c.port.inside.number c.port.inside.served p
    c.bring.new.seat.me c.store.new.seat.me c.bring.new.order.items c.pop_front.new.self.items k.slot ask c.args.reply.now c.bring.ensures.brought c.pop_front.ensures.rest told.0 serves told.1)

pub returns-clause-seat : goal.returns-clause-seat
returns-clause-seat c =
    let k = c.accepted.inside in
    let ask = told_ask k.record.value.beats in
    let me = c.port.inside.seat.me in
    let held = c.answer.new.self in
    let accepted : ℕ × Request = (k.slot, ask) in
    let serves = served_in
    (port_view c.port.inside.seat.table_id me.0) c.args.port.now accepted c.args.accepted c.port.view_is c.accepted.view_is c.requires.accepted in
    let now = brought_back me c.bring.new.seat.me c.exchange.new.seat.me k.slot _ held c.of.ensures c.bring.ensures.brought.view c.exchange.ensures.3 in
    let answers = subst (λ (a : ℕ). SpellsAnswer held a c.args.reply.now)
    (c.address-address.ensures ask (subst (λ (r : SlotRecord). Spells r ask)
    (sym c.deref.ensures) c.accepted.invariant)) c.answer.ensures.answers in
    let told = told_answered _ me c.exchange.new.seat.me c.store.new.seat.me k.slot _ held
    (rest c.bring.new.seat.me.1) ask c.args.reply.now now serves answers c.store.ensures.2 in
    let table = c.store.ensures.0 ∙ c.exchange.ensures.0 ∙ c.bring.ensures.table in
    (λ t. port_view (table t) (told.0 t).0) ∙
    (λ t. with_answered (c.port.view_is t) (c.accepted.view_is t) c.args.reply.now)
