use Rattle.std.proofs.Common.{is_some, Some, arith, sym, ap, subst, ◌∙◌, ◌≡◌, ◌∷◌, ℕ, refl}
use mathlib.Core.Option.{none}
use Rattle.std.specs.VecDeque.{deque_capacity}
use Rattle.atomic_table.specs.Table.{rest}
use Rattle.tl_slots.specs.declared.phase.Phase.TheVariants.{Answered, Taking}
use Rattle.tl_slots.specs.Word.{word}
use Rattle.tl_rule.specs.declared.view.About.{About}
use Rattle.tl_rule.specs.Moves.{Seat, as_master, entry}
use Rattle.tl_rule.specs.Record.{Spells, SpellsAnswer}
use Rattle.tl_rule.specs.Carried.{is_carried}
use Rattle.tl_rule.proofs.Seats.{collects_at}
use Rattle.tl_rule.proofs.Facts.{in_hand_of}
use Rattle.tl_arena.specs.Views.{MasterView, TicketView, ServedView}
use Rattle.tl_arena.specs.Key.{about_in}
use Rattle.tl_arena.specs.Kept.{master_view}
use Rattle.tl_arena.specs.Promises.{IsCollected}
use Rattle.tl_arena.proofs.Keeping.{master_arena, held_inside, master_room, master_recounted, collect_kept}
use Rattle.tl_beats.specs.Told.{told_reply}
use Rattle.tl_rule.specs.Record.{SlotRecord, Berth}
use Rattle.tl_types.specs.Request.{Request}
use Rattle.tl_arena.proofs.Promised.{sent_in, collected, taken_record, taken_first, told_spelled, head_berth}
use Rattle.tl_arena.proofs.arena.Arena.collect.Goals as goal

pub compare_exchange-requires : goal.compare_exchange-requires
compare_exchange-requires c =
    let s = c.self.invariant in
    let m = c.master.invariant in
    let t = c.ticket.inside in
    let key = c.self.inside.table.shared.key in
    let me = c.master.inside.seat.me in
    let arena = master_arena c.master.inside.seat.table_id me.0 c.args.master.now c.args.self.now c.self.inside.table.shared.table_id
    (about_in key) c.master.view_is c.requires.arena c.self.view_is in
    let slots = ap (λ (a : About). a.slots) arena.1 in
    let ticket : TicketView = record { slot = t.slot; ask = t.ask.value; port = t.port; known = t.known } in
    let sent = sent_in (master_view c.master.inside.seat.table_id me.0) c.args.master.now ticket c.args.ticket c.master.view_is c.ticket.view_is c.requires.ticket in
    let lt = held_inside me c.master.inside.order.items
    (deque_capacity c.master.inside.order) c.master.inside.number c.master.inside.owned c.master.inside.collected m t.slot
    (λ z. absurd (cc)) in (
      arena.0,
      omega arith,
      collects_at (about_in key) _ _ me t.slot _ _ none t.ask.value t.port t.known m.is sent
          (c.word_of-from.ensures ∙ ap (λ (k : ℕ). word (Answered k t.port)) (sym m.numbered))
          (c.word_of-new.ensures ∙ ap (λ (k : ℕ). word (Taking k t.port)) (sym m.numbered)),
    )

pub push_front_reserved-requires : goal.push_front_reserved-requires
push_front_reserved-requires c =
    let t = c.compare_exchange.ensures.2.0 c.if-compare_exchange-from.false in
    let order = c.master.inside.order in
    let me = c.master.inside.seat.me in
    let lt = in_hand_of (as_master me.0).hand c.ticket.inside.slot (λ z. let w = t.was in absurd (cc)) in
    let room = master_room me order.items
    (deque_capacity order) c.master.inside.number c.master.inside.owned c.master.inside.collected c.master.invariant c.ticket.inside.slot lt
    (ap is_carried t.was) in
    let ok = order.ok in
    omega arith

pub invariant_of-master-2 : goal.invariant_of-master-2
invariant_of-master-2 c =
    let t = c.compare_exchange.ensures.2.0 c.if-compare_exchange-from.false in
    let i = c.ticket.inside.slot in
    let order = c.master.inside.order in
    let me = c.master.inside.seat.me in
    let lt = in_hand_of (as_master me.0).hand i (λ z. let w = t.was in absurd (cc)) in
    let now = c.exchange-berth.ensures.3 ∙ ap (λ (y : Seat). (y.0, (i, c.empty.result) ∷ rest y.1)) t.seat in
    master_recounted c.exchange-berth.new.seat.me _ _ _ _ c.master.inside.number c.master.inside.owned _ c.push_front_reserved.ensures.items c.push_front_reserved.ensures.capacity
    (collect_kept me order.items
    (deque_capacity order) c.master.inside.number c.master.inside.owned c.master.inside.collected c.master.invariant
    c.exchange-berth.new.seat.me i c.empty.result t.ask t.port t.known
    (entry t.port t.letter.index t.ask t.reply) now t.was lt)

pub returns-clause-ok : goal.returns-clause-ok
returns-clause-ok c =
    let t = c.compare_exchange.ensures.2.0 c.if-compare_exchange-from.false in
    let k = c.ticket.inside in
    let me = c.master.inside.seat.me in
    let z = c.master.inside.seat.table_id in
    let x = c.exchange-berth.ensures in
    let ticket : TicketView = record { slot = k.slot; ask = k.ask.value; port = k.port; known = k.known } in
    let sent = sent_in (master_view z me.0) c.args.master.now ticket c.args.ticket c.master.view_is c.ticket.view_is c.requires.ticket in
    let held = c.into_record.result.value in
    let letter : held ≡ t.letter =
    taken_record _ _ k.slot _ _ _ x.2 (ap (λ (y : Seat). y.1) t.seat) c.into_record.ensures in
    let asks : t.ask ≡ k.ask.value = (let y = t.was in cc) in
    let spells : SpellsAnswer held k.ask.value.address (told_reply held.replies k.ask.value.address) =
    subst (λ (l : SlotRecord). SpellsAnswer l k.ask.value.address (told_reply l.replies k.ask.value.address))
    (sym letter) (told_spelled t.letter k.ask.value.address t.reply
    (subst (λ (q : Request). SpellsAnswer t.letter q.address t.reply) asks t.answer)) in
    let told = collected _ me c.compare_exchange.new.seat.me t z c.exchange-berth.new.seat.table_id c.exchange-berth.new.seat.me.0 ticket held.index
    (told_reply held.replies k.ask.value.address) held
    (x.0 ∙ c.compare_exchange.ensures.0) (ap (λ (y : Seat). y.0) x.3) refl sent letter refl spells in
    let served : ServedView =
    record {
      slot = k.slot;
      ask = k.ask.value;
      port = k.port;
      index = held.index;
      reply = told_reply held.replies k.ask.value.address;
    } in
    let seat = master_view c.exchange-berth.new.seat.table_id c.exchange-berth.new.seat.me.0 in
    subst (λ (v : MasterView). IsCollected v c.args.ticket served seat) c.master.view_is
    (subst (λ (u : TicketView). IsCollected (master_view z me.0) u served seat) c.ticket.view_is told)

pub into_record-requires : goal.into_record-requires
into_record-requires c =
    let t = c.compare_exchange.ensures.2.0 c.if-compare_exchange-from.false in
    ap (λ (b : Berth). is_some b) (ap head_berth (sym c.exchange-berth.ensures.2 ∙ ap (λ (y : Seat). y.1) t.seat))

pub exchange-berth-requires : goal.exchange-berth-requires
exchange-berth-requires c =
    let t = c.compare_exchange.ensures.2.0 c.if-compare_exchange-from.false in
    let me = c.master.inside.seat.me in
    let arena = master_arena c.master.inside.seat.table_id me.0 c.args.master.now c.args.self.now c.self.inside.table.shared.table_id
    (about_in c.self.inside.table.shared.key) c.master.view_is c.requires.arena c.self.view_is in (
      c.compare_exchange.ensures.0 ∙ arena.0,
      (Some t.letter, taken_first _ _ _ _ (ap (λ (y : Seat). y.1) t.seat)),
    )

pub invariant_of-result : goal.invariant_of-result
invariant_of-result c =
    let t = c.compare_exchange.ensures.2.0 c.if-compare_exchange-from.false in
    let k = c.ticket.inside in
    let me = c.master.inside.seat.me in
    let ticket : TicketView = record { slot = k.slot; ask = k.ask.value; port = k.port; known = k.known } in
    let sent = sent_in (master_view c.master.inside.seat.table_id me.0) c.args.master.now ticket c.args.ticket c.master.view_is c.ticket.view_is c.requires.ticket in
    let held = c.into_record.result.value in
    let letter : held ≡ t.letter =
    taken_record _ _ k.slot _ _ _ c.exchange-berth.ensures.2
    (ap (λ (y : Seat). y.1) t.seat) c.into_record.ensures in
    let asks : t.ask ≡ k.ask.value = (let y = t.was in cc) in
    let spells : Spells held k.ask.value =
    subst (λ (l : SlotRecord). Spells l k.ask.value) (sym letter)
    (subst (λ (q : Request). Spells t.letter q) asks t.spells) in
    let answers : SpellsAnswer held k.ask.value.address (told_reply held.replies k.ask.value.address) =
    subst (λ (l : SlotRecord). SpellsAnswer l k.ask.value.address (told_reply l.replies k.ask.value.address))
    (sym letter) (told_spelled t.letter k.ask.value.address t.reply
    (subst (λ (q : Request). SpellsAnswer t.letter q.address t.reply) asks t.answer)) in
    (spells, answers)
