use Rattle.std.proofs.Common.{is_some, Some, arith, sym, ap, subst, ◌∙◌, ◌≡◌, ◌<◌, ◌∷◌, ◌/◌, ◌%◌, ℕ, refl}
use mathlib.Core.Option.{none}
use Rattle.std.specs.VecDeque.{deque_capacity}
use Rattle.atomic_table.specs.Table.{rest}
use Rattle.tl_slots.specs.declared.phase.Phase.TheVariants.{Posted, Serving}
use Rattle.tl_slots.specs.Word.{word, FitsWord}
use Rattle.tl_slots.proofs.Words.{word-master}
use Rattle.tl_rule.specs.declared.view.About.{About}
use Rattle.tl_rule.specs.Views.{Owns}
use Rattle.tl_slots.specs.declared.event.Event.TheVariants.{Accept}
use Rattle.tl_rule.specs.Moves.{Seat, as_port, IsLawfulDesk}
use Rattle.tl_rule.proofs.Seats.{accepts_at}
use Rattle.tl_arena.specs.Views.{ArenaId, PortView}
use Rattle.tl_arena.specs.Promises.{IsPortStep}
use Rattle.tl_arena.specs.Key.{about_in}
use Rattle.tl_types.specs.Request.{Request}
use Rattle.tl_rule.specs.declared.view.View.{View}
use Rattle.tl_rule.specs.Record.{SlotRecord, Berth, Spells}
use Rattle.tl_rule.specs.Events.{IsEventOf}
use Rattle.tl_arena.specs.Kept.{IsOwner, port_view}
use Rattle.tl_arena.proofs.Keeping.{port_arena, port_recounted, accept_kept}
use Rattle.tl_beats.specs.ToldAsk.{told_ask}
use Rattle.tl_beats.proofs.ToldAsk.{told_ask_is}
use Rattle.tl_arena.proofs.Promised.{accepted, told_asked, port_stepped, taken_record, taken_first, head_berth}
use Rattle.tl_arena.proofs.arena.Arena.accept_from.Goals as goal

pub compare_exchange-requires : goal.compare_exchange-requires
compare_exchange-requires c =
    let s = c.self.invariant in
    let p = c.port.invariant in
    let key = c.self.inside.table.shared.key in
    let me = c.port.inside.seat.me in
    let arena = port_arena c.port.inside.seat.table_id me.0 c.args.port.now c.args.self.now c.self.inside.table.shared.table_id
    (about_in key) c.port.view_is c.requires.arena c.self.view_is in
    let lt = subst (λ (a : ArenaId). c.args.slot < a.about.slots) (sym c.self.view_is) c.requires.slot in (
      arena.0,
      omega arith,
      accepts_at (about_in key) _ _ me c.args.slot _ _ c.args.owner none p.is (omega arith) c.requires.small
          (c.word_of-from.ensures ∙ ap (λ (k : ℕ). word (Posted c.args.owner k)) (sym p.numbered))
          (c.word_of-new.ensures ∙ ap (λ (k : ℕ). word (Serving c.args.owner k)) (sym p.numbered)),
    )

pub returns-then-compare_exchange-from-clause-law : goal.returns-then-compare_exchange-from-clause-law
returns-then-compare_exchange-from-clause-law c =
    subst (λ (k : Seat). IsLawfulDesk (as_port k.0))
    (sym (c.compare_exchange.ensures.2.1 c.if-compare_exchange-from.true)) c.port.invariant.law

pub invariant_of-port-2 : goal.invariant_of-port-2
invariant_of-port-2 c =
    let t = c.compare_exchange.ensures.2.0 c.if-compare_exchange-from.false in
    let i = c.args.slot in
    let s = c.self.invariant in
    let p = c.port.invariant in
    let order = c.port.inside.order in
    let me = c.port.inside.seat.me in
    let arena = port_arena c.port.inside.seat.table_id me.0 c.args.port.now c.args.self.now c.self.inside.table.shared.table_id
    (about_in c.self.inside.table.shared.key) c.port.view_is c.requires.arena c.self.view_is in
    let lt : i < (as_port me.0).about.slots =
    subst (λ (a : About). i < a.slots) (sym arena.1)
    (subst (λ (a : ArenaId). i < a.about.slots) (sym c.self.view_is) c.requires.slot) in
    let now = c.exchange.ensures.3 ∙ ap (λ (y : Seat). (y.0, (i, c.empty.result) ∷ rest y.1)) t.seat in
    let law = subst (λ (y : Seat). IsLawfulDesk (as_port y.0)) (sym c.exchange.ensures.3) t.law in
    let fits : FitsWord (Posted c.args.owner c.port.inside.number) =
    record {
      owner = c.requires.small;
      port = let below = p.law.number in let few = p.in_limit in let is = p.numbered in omega arith;
    } in
    let named : c.word_of-from.result / 8 % 256 ≡ c.args.owner =
    ap (λ (n : ℕ). n / 8 % 256) c.word_of-from.ensures
    ∙ word-master (Posted c.args.owner c.port.inside.number) fits in
    let own : IsOwner (as_port me.0).about c.args.owner t.ask.source =
    record {
      owns = subst (λ (o : ℕ). Owns (as_port me.0).about o t.ask.source) named t.owner;
      small = c.requires.small;
    } in
    port_recounted c.exchange.new.seat.me _ _ _ _ _ c.port.inside.number c.port.inside.served c.push_front_reserved.ensures.items c.push_front_reserved.ensures.capacity
    (accept_kept me order.items
    (deque_capacity order) c.port.inside.owners.items c.port.inside.number c.port.inside.served p c.exchange.new.seat.me i c.args.owner t.ask c.empty.result now t.free law lt own)

pub returns-clause-some : goal.returns-clause-some
returns-clause-some c =
    let t = c.compare_exchange.ensures.2.0 c.if-compare_exchange-from.false in
    let x = c.exchange.ensures in
    let held = c.into_record-record.result.value in
    let letter : held ≡ t.letter =
    taken_record _ _ c.args.slot _ _ _ x.2 (ap (λ (y : Seat). y.1) t.seat) c.into_record-record.ensures in
    let spells : Spells held (told_ask held.beats) =
    subst (λ (l : SlotRecord). Spells l (told_ask l.beats)) (sym letter) (told_asked t.letter t.ask t.spells) in
    let told = accepted _ c.port.inside.seat.me c.compare_exchange.new.seat.me t c.port.inside.seat.table_id c.exchange.new.seat.table_id c.exchange.new.seat.me.0 c.args.port.now c.args.slot
    (told_ask held.beats) held
    (x.0 ∙ c.compare_exchange.ensures.0) (ap (λ (y : Seat). y.0) x.3) c.port.view_is refl letter spells in
    (refl, told.0, told.1)

pub returns-clause-event : goal.returns-clause-event
returns-clause-event c =
    let t = c.compare_exchange.ensures.2.0 c.if-compare_exchange-from.false in
    let x = c.exchange.ensures in
    let me = c.port.inside.seat.me in
    let owner = c.word_of-from.result / 8 % 256 in
    let held = c.into_record-record.result.value in
    let letter : held ≡ t.letter =
    taken_record _ _ c.args.slot _ _ _ x.2 (ap (λ (y : Seat). y.1) t.seat) c.into_record-record.ensures in
    let asks : t.ask ≡ told_ask held.beats =
    sym (told_ask_is t.ask t.letter.beats t.spells.lawful t.spells.beats)
    ∙ ap (λ (l : SlotRecord). told_ask l.beats) (sym letter) in
    let owns : Owns (as_port me.0).about owner (told_ask held.beats).source =
    subst (λ (q : Request). Owns (as_port me.0).about owner q.source) asks t.owner in
    let view = ap (λ (y : Seat). y.0) x.3 in
    record {
      owner = owner;
      owns = subst (λ (u : PortView). Owns u.arena.about owner (told_ask held.beats).source) c.port.view_is owns;
      step = subst (λ (u : PortView). IsPortStep (Accept c.args.slot owner u.number) c.args.port.now
          (port_view c.exchange.new.seat.table_id c.exchange.new.seat.me.0)) c.port.view_is
          (port_stepped (Accept c.args.slot owner
          (as_port me.0).number) c.port.inside.seat.table_id c.exchange.new.seat.table_id me c.exchange.new.seat.me.0 _ c.args.port.now _ c.port.invariant.is
          (view ∙ ap (λ (y : Seat). y.0) t.seat) c.port.view_is refl
          (subst (λ (y : View). IsEventOf (as_port me.0).about
          (Accept c.args.slot owner (as_port me.0).number) me.0 y) (sym view) t.event));
    }

pub into_record-record-requires : goal.into_record-record-requires
into_record-record-requires c =
    let t = c.compare_exchange.ensures.2.0 c.if-compare_exchange-from.false in
    ap (λ (b : Berth). is_some b) (ap head_berth (sym c.exchange.ensures.2 ∙ ap (λ (y : Seat). y.1) t.seat))

pub exchange-requires : goal.exchange-requires
exchange-requires c =
    let t = c.compare_exchange.ensures.2.0 c.if-compare_exchange-from.false in
    let me = c.port.inside.seat.me in
    let arena = port_arena c.port.inside.seat.table_id me.0 c.args.port.now c.args.self.now c.self.inside.table.shared.table_id
    (about_in c.self.inside.table.shared.key) c.port.view_is c.requires.arena c.self.view_is in (
      c.compare_exchange.ensures.0 ∙ arena.0,
      (Some t.letter, taken_first _ _ _ _ (ap (λ (y : Seat). y.1) t.seat)),
    )

pub invariant_of-result : goal.invariant_of-result
invariant_of-result c =
    let t = c.compare_exchange.ensures.2.0 c.if-compare_exchange-from.false in
    let letter : c.into_record-record.result.value ≡ t.letter =
    taken_record _ _ c.args.slot _ _ _ c.exchange.ensures.2
    (ap (λ (y : Seat). y.1) t.seat) c.into_record-record.ensures in
    subst (λ (l : SlotRecord). Spells l (told_ask l.beats)) (sym letter) (told_asked t.letter t.ask t.spells)
