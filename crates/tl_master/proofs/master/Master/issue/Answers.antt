use Rattle.std.proofs.Common.{◌≡◌, ◌≢◌, ◌+◌, None, refl, sym, ◌∙◌, arith, ◌<◌, length, slice_set, Some, ap, ℕ, subst}
use Rattle.tl_types.specs.Request.{Request}
use Rattle.tl_master.specs.Master.{MasterState, ticket_at}
use Rattle.tl_master.proofs.Hands.{shown_at, none_shown}
use Rattle.tl_master.proofs.Busy.{busy_set}
use Rattle.tl_master.proofs.Turns.{sends_on}
use Rattle.tl_master.proofs.master.Master.issue.Goals as goal

pub invariant_of-self-2 : goal.invariant_of-self-2
invariant_of-self-2 c =
    let old : MasterState =
    record {
      seat = c.self.inside.seat;
      out = c.self.inside.out.items;
      trace = c.self.inside.trace.items;
      limit = c.self.inside.limit;
    } in
    let ticket = c.post_routed-ticket.result.0 in
    let new : MasterState =
    record {
      seat = c.post_routed-ticket.new.seat;
      out = slice_set c.self.inside.out.items c.source-source.result (Some ticket);
      trace = c.self.inside.trace.items;
      limit = c.self.inside.limit;
    } in
    let posted = c.post_routed-ticket.ensures.posted in
    let claimed = c.in-Some.ensures.some in
    let within : c.source-source.result < length old.out = omega (arith, c.len.ensures, c.if-source-len.false) in
    let room : length old.trace + c.self.inside.count ≢ old.limit =
    subst (λ (n : ℕ). n + c.self.inside.count ≢ old.limit) c.len-2.ensures.value c.if-len-self.false in
    let idle : ticket_at old.out c.source-source.result ≡ None =
    shown_at old.out c.source-source.result c.index.result.now within c.index.ensures
    ∙ none_shown c.index.result.now (sym c.is_some.ensures ∙ c.if-is_some.false) in
    let source : ticket.ask.source ≡ c.self.inside.start + c.source-source.result =
    ap (λ (q : Request). q.source) posted.ask
    ∙ ap (λ (s : ℕ). c.self.inside.start + s) (c.source.ensures ∙ sym c.source-source.ensures) in (
      sends_on old new _ _ _ c.in-Some.claim ticket c.claim.new.master c.self.invariant.0 within idle room claimed.0 claimed.1 claimed.2 posted.from source posted.since c.post_routed-ticket.ensures.seat refl refl refl,
      c.self.invariant.1,
      busy_set c.self.inside.busy.words c.insert.new.self.words old.out c.source-source.result
          (Some ticket) c.self.invariant.2 within c.insert.ensures.here c.insert.ensures.others,
    )

pub insert-requires : goal.insert-requires
insert-requires c =
    let within : c.source-source.result < length c.self.inside.out.items =
    omega (arith, c.len.ensures, c.if-source-len.false) in
    let known = c.self.invariant.2.known in
    omega arith
