use Rattle.std.proofs.Common.{◌≡◌, ℕ, List, [], replicate, Option, None, refl, ap, arith, ◌∙◌}
use Rattle.tl_types.specs.declared.trace.Entry.{Entry}
use Rattle.tl_journal.specs.Trace.{TraceView}
use Rattle.tl_arena.specs.Views.{TicketView}
use Rattle.tl_master.specs.Master.{MasterState, count_of}
use Rattle.tl_map.proofs.Counted.{count_low}
use Rattle.tl_master.proofs.Busy.{busy_none}
use Rattle.tl_master.proofs.Turns.{same_state}
use Rattle.tl_master.proofs.Starting.{new_kept, sources_are, wide_are, sources_fit}
use Rattle.tl_master.proofs.master.Master.new.Goals as goal

pub invariant_of-result : goal.invariant_of-result
invariant_of-result c =
    let owners = c.args.sources.now in
    let seat = c.args.seat in
    let made : MasterState =
    record { seat = seat; out = c.in-Ok.out.items; trace = c.in-Ok-with_room.trace.items; limit = c.args.limit } in
    let sources = sources_are owners c.requires.blocks seat _ _ _ _ c.widen.result c.requires.sources c.number-number.ensures.value c.count.ensures c.unwrap_or-sources_own.ensures c.unwrap_or-start.ensures in
    let wide = wide_are owners c.requires.blocks seat _ _ _ _ c.widen.result c.requires.sources c.number-number.ensures.value c.count.ensures c.unwrap_or-sources_own.ensures c.unwrap_or-start.ensures c.widen.ensures in
    let fits = sources_fit owners c.requires.blocks seat _ _ _ _ c.widen.result c.requires.sources c.number-number.ensures.value c.count.ensures c.unwrap_or-sources_own.ensures c.unwrap_or-start.ensures c.widen.ensures in (
      new_kept made _ _ c.requires.owned c.requires.collected c.in-Ok.ensures
          (ap (λ (t : TraceView). t.items) c.in-Ok-with_room.ensures) sources wide fits,
      rw c.in-Ok-with_room.ensures (omega arith),
      busy_none _ made.out _ c.count.result c.in-Ok.ensures c.unwrap_or-sources_own.ensures (rw c.count.ensures (count_low owners c.requires.blocks c.number-number.result)) c.new.ensures,
    )

pub returns-clause-ok : goal.returns-clause-ok
returns-clause-ok c =
    let owners = c.args.sources.now in
    let seat = c.args.seat in
    let sources = sources_are owners c.requires.blocks seat _ _ _ _ c.widen.result c.requires.sources c.number-number.ensures.value c.count.ensures c.unwrap_or-sources_own.ensures c.unwrap_or-start.ensures in
    let none : List (Option TicketView) = replicate (count_of seat.arena.about.owners seat.number) None in
    let out : c.in-Ok.out.items ≡ none = c.in-Ok.ensures ∙ ap (λ (n : ℕ). replicate n None) sources in
    let empty : List Entry = [] in
    same_state seat seat c.in-Ok.out.items none c.in-Ok-with_room.trace.items empty c.args.limit c.args.limit refl out
    (ap (λ (t : TraceView). t.items) c.in-Ok-with_room.ensures) refl
