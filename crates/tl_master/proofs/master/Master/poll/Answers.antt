use Rattle.std.proofs.Common.{◌≡◌, Some, refl, sym, subst, ◌∙◌, ap, arith, IsSome, ◌<◌, length, slice_set, Option}
use Rattle.tl_arena.specs.Views.{TicketView}
use Rattle.tl_journal.specs.Trace.{TraceView}
use Rattle.tl_master.specs.Master.{MasterState, ticket_at}
use Rattle.tl_master.specs.Kept.{IsKeptMaster}
use Rattle.tl_master.specs.SourceSet.{IsSetOfOut}
use Rattle.tl_master.proofs.Busy.{shown, busy_set}
use Rattle.tl_master.proofs.Hands.{shown_at}
use Rattle.tl_master.specs.Steps.{CollectsOne}
use Rattle.tl_master.proofs.Turns.{stays, collects_on, collects_one}
use Rattle.tl_master.proofs.master.Master.poll.Goals as goal

pub invariant_of-self-in-Err : goal.invariant_of-self-in-Err
invariant_of-self-in-Err c =
    let old : MasterState =
    record {
      seat = c.self.inside.seat;
      out = c.self.inside.out.items;
      trace = c.self.inside.trace.items;
      limit = c.self.inside.limit;
    } in
    let new : MasterState =
    record {
      seat = c.collect_entry.new.seat;
      out = slice_set (slice_set c.self.inside.out.items c.args.source c.take.new.self) c.args.source
          (Some c.in-Err.ticket);
      trace = c.collect_entry.new.trace.items;
      limit = c.self.inside.limit;
    } in
    let within : c.args.source < length old.out = omega (arith, c.len.ensures, c.if-at-len.false) in
    let was : ticket_at old.out c.args.source ≡ Some c.in-Some.ticket =
    shown_at old.out c.args.source c.index_mut.result.now within c.index_mut.ensures.value
    ∙ (sym c.take.ensures.value ∙ c.in-Some.is) in
    let same : new ≡ old =
    stays old new c.args.source c.take.new.self c.in-Some.ticket c.in-Err.ticket was c.take.ensures.after c.in-Err.ensures.err.0 c.in-Err.ensures.err.1 refl
    (ap (λ (t : TraceView). t.items) c.in-Err.ensures.err.2) refl in (
      subst (λ (m : MasterState). IsKeptMaster m c.self.inside.start c.self.inside.count) (sym same) c.self.invariant.0,
      rw c.in-Err.ensures.capacity c.self.invariant.1,
      subst (λ (m : MasterState). IsSetOfOut c.self.inside.busy.words m.out) (sym same) c.self.invariant.2,
    )

pub invariant_of-self-in-Ok : goal.invariant_of-self-in-Ok
invariant_of-self-in-Ok c =
    let old : MasterState =
    record {
      seat = c.self.inside.seat;
      out = c.self.inside.out.items;
      trace = c.self.inside.trace.items;
      limit = c.self.inside.limit;
    } in
    let new : MasterState =
    record {
      seat = c.collect_entry.new.seat;
      out = slice_set c.self.inside.out.items c.args.source c.take.new.self;
      trace = c.collect_entry.new.trace.items;
      limit = c.self.inside.limit;
    } in
    let within : c.args.source < length old.out = omega (arith, c.len.ensures, c.if-at-len.false) in
    let was : ticket_at old.out c.args.source ≡ Some c.in-Some.ticket =
    shown_at old.out c.args.source c.index_mut.result.now within c.index_mut.ensures.value
    ∙ (sym c.take.ensures.value ∙ c.in-Some.is) in (
      collects_on old new _ _ _ c.in-Some.ticket c.in-Ok.ensures.ok.entry c.self.invariant.0 was c.in-Ok.ensures.ok.reply
          (ap (λ (x : Option TicketView). slice_set old.out c.args.source x) c.take.ensures.after) c.in-Ok.ensures.ok.is refl,
      rw c.in-Ok.ensures.capacity c.self.invariant.1,
      busy_set c.self.inside.busy.words c.remove.new.self.words old.out c.args.source c.take.new.self c.self.invariant.2 within
          (c.remove.ensures.here ∙ sym (ap shown c.take.ensures.after)) c.remove.ensures.others,
    )

pub remove-requires : goal.remove-requires
remove-requires c = let within : c.args.source < length c.self.inside.out.items = omega (arith, c.len.ensures, c.if-at-len.false) in
    let known = c.self.invariant.2.known in omega arith

pub returns-in-Err-clause-polls : goal.returns-in-Err-clause-polls
returns-in-Err-clause-polls c =
    let old : MasterState =
    record {
      seat = c.self.inside.seat;
      out = c.self.inside.out.items;
      trace = c.self.inside.trace.items;
      limit = c.self.inside.limit;
    } in
    let new : MasterState =
    record {
      seat = c.collect_entry.new.seat;
      out = slice_set (slice_set c.self.inside.out.items c.args.source c.take.new.self) c.args.source
          (Some c.in-Err.ticket);
      trace = c.collect_entry.new.trace.items;
      limit = c.self.inside.limit;
    } in
    let within : c.args.source < length old.out = omega (arith, c.len.ensures, c.if-at-len.false) in
    let was : ticket_at old.out c.args.source ≡ Some c.in-Some.ticket =
    shown_at old.out c.args.source c.index_mut.result.now within c.index_mut.ensures.value
    ∙ (sym c.take.ensures.value ∙ c.in-Some.is) in
    let same : new ≡ old =
    stays old new c.args.source c.take.new.self c.in-Some.ticket c.in-Err.ticket was c.take.ensures.after c.in-Err.ensures.err.0 c.in-Err.ensures.err.1 refl
    (ap (λ (t : TraceView). t.items) c.in-Err.ensures.err.2) refl in (
      same ∙ c.self.view_is,
      subst (λ (m : MasterState). IsSome (ticket_at m.out c.args.source)) c.self.view_is
          (rw was refl),
    )

pub returns-in-Ok-clause-polls : goal.returns-in-Ok-clause-polls
returns-in-Ok-clause-polls c =
    let old : MasterState =
    record {
      seat = c.self.inside.seat;
      out = c.self.inside.out.items;
      trace = c.self.inside.trace.items;
      limit = c.self.inside.limit;
    } in
    let new : MasterState =
    record {
      seat = c.collect_entry.new.seat;
      out = slice_set c.self.inside.out.items c.args.source c.take.new.self;
      trace = c.collect_entry.new.trace.items;
      limit = c.self.inside.limit;
    } in
    let within : c.args.source < length old.out = omega (arith, c.len.ensures, c.if-at-len.false) in
    let was : ticket_at old.out c.args.source ≡ Some c.in-Some.ticket =
    shown_at old.out c.args.source c.index_mut.result.now within c.index_mut.ensures.value
    ∙ (sym c.take.ensures.value ∙ c.in-Some.is) in
    subst (λ (m : MasterState). CollectsOne m c.args.source c.in-Ok.place new) c.self.view_is
    (collects_one old new _ _ c.args.source c.in-Ok.place c.in-Some.ticket c.in-Ok.ensures.ok.entry c.self.invariant.0 was c.in-Ok.ensures.ok.reply c.in-Ok.ensures.ok.place_is
    (ap (λ (x : Option TicketView). slice_set old.out c.args.source x) c.take.ensures.after) c.in-Ok.ensures.ok.is refl)
