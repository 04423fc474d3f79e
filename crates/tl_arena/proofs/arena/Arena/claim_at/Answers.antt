use Rattle.std.proofs.Common.{arith, sym, ap, ◌∙◌, ℕ, Some, is_some}
use mathlib.Core.Option.{none}
use Rattle.std.specs.VecDeque.{deque_capacity}
use Rattle.tl_slots.specs.declared.phase.Phase.TheVariants.{Filling}
use Rattle.tl_slots.specs.Word.{word}
use Rattle.tl_rule.specs.Carried.{is_carried}
use Rattle.tl_rule.specs.Record.{Berth}
use Rattle.tl_rule.specs.Moves.{Seat}
use Rattle.tl_rule.proofs.Seats.{claims_at}
use Rattle.tl_arena.specs.Views.{ArenaId, MasterView}
use Rattle.tl_arena.specs.Key.{about_in}
use Rattle.tl_arena.proofs.Keeping.{master_room}
use Rattle.tl_arena.proofs.Promised.{taken_first, head_berth}
use Rattle.tl_arena.proofs.arena.Arena.claim_at.Goals as goal

pub compare_exchange-requires : goal.compare_exchange-requires
compare_exchange-requires c =
    let s = c.self.invariant in
    let m = c.master.invariant in
    let lt = c.requires.slot in
    let about = ap (λ (a : ArenaId). a.about.slots) c.self.view_is in (
      ap (λ (v : MasterView). v.arena.table) c.master.view_is
          ∙ ap (λ (a : ArenaId). a.table) (c.requires.arena ∙ sym c.self.view_is),
      omega arith,
      claims_at (about_in c.self.inside.table.shared.key) _ _ c.master.inside.seat.me c.args.slot _ none m.is m.present
          (omega arith) (c.word_of-new.ensures ∙ ap (λ (k : ℕ). word (Filling k)) (sym m.numbered)),
    )

pub push_front_reserved-requires : goal.push_front_reserved-requires
push_front_reserved-requires c =
    let t = c.compare_exchange.ensures.2.0 c.if-compare_exchange-ne-FREE.false in
    let order = c.master.inside.order in
    let room = master_room c.master.inside.seat.me order.items
    (deque_capacity order) c.master.inside.number c.master.inside.owned c.master.inside.collected c.master.invariant c.args.slot t.inside
    (ap is_carried t.free) in
    let ok = order.ok in
    omega arith

pub exchange-berth-requires : goal.exchange-berth-requires
exchange-berth-requires c =
    let t = c.compare_exchange.ensures.2.0 c.if-compare_exchange-ne-FREE.false in (
      c.compare_exchange.ensures.0 ∙ ap (λ (v : MasterView). v.arena.table) c.master.view_is
          ∙ ap (λ (a : ArenaId). a.table) (c.requires.arena ∙ sym c.self.view_is),
      (Some t.letter, taken_first _ _ _ _ (ap (λ (y : Seat). y.1) t.seat)),
    )

pub into_record-requires : goal.into_record-requires
into_record-requires c =
    let t = c.compare_exchange.ensures.2.0 c.if-compare_exchange-ne-FREE.false in
    ap (λ (b : Berth). is_some b) (ap head_berth (sym c.exchange-berth.ensures.2 ∙ ap (λ (y : Seat). y.1) t.seat))
