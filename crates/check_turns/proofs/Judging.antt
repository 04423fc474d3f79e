-- What a step answers where replies come in order, from what it answers of a beat where it crosses.
use Rattle.std.proofs.Common.{◌≡◌, ◌∙◌, inl, inr, ⊎_elim, ◌<◌, List, ◌∷◌, Option, Some, None, refl, ap, sym, subst, arith}
use Rattle.std.specs.Prelude.{Result, Ok, Err, IfErr, IfOk, OnOk, OnSome}
use Rattle.tl_types.specs.Fault.{IsFirstOf}
use Rattle.check_watch.specs.declared.beat.Beat.{Beat}
use Rattle.check_watch.specs.declared.beat.Beat.TheVariants.{A, D}
use Rattle.check_watch.specs.declared.fault.Fault.{Fault}
use Rattle.check_watch.specs.declared.fault.Fault.TheVariants as faults
use Rattle.check_watch.specs.declared.fault.Reason.{Reason}
use Rattle.check_watch.specs.declared.fault.Reason.TheVariants.{OutOfOrder, WrongReply}
use Rattle.check_watch.specs.declared.fault.StepError.{StepError}
use Rattle.check_watch.specs.declared.fault.StepError.TheVariants.{Memory, Unlawful}
use Rattle.check_watch.specs.declared.seen.Ended.{Ended}
use Rattle.check_watch.specs.declared.seen.Seen.{Seen}
use Rattle.check_watch.specs.Faults.{reason_of, reason_rank}
use Rattle.check_watch.specs.Lawful.{IsAllowedBeat, IsFirstReason, IsFirstReasonOf, OfFault, TellsReplies}
use Rattle.check_watch.specs.Plan.{Layout, Plan, Sighting}
use Rattle.check_watch.specs.Scene.{Scene}
use Rattle.check_watch.proofs.Judging.{no_ask_reason}
use Rattle.check_watch.proofs.Replying.{no_reply_reason}
use Rattle.check_watch.proofs.Stepping.{if_ok, on_err}
use Rattle.check_sides.specs.Groups.{past_at, plan_at}
use Rattle.check_sides.specs.Lawful as sides
use Rattle.check_sides.specs.Lawful.{scene}
use Rattle.check_sides.specs.Steps as sides_steps
use Rattle.check_sides.specs.View as sides_view
use Rattle.check_turns.specs.Lawful.{HasReason, HasReasonThere, IsFirstFaultInOrder, IsLawfulInOrder}
use Rattle.check_turns.specs.Steps.{IsStepInOrder, IsTakeInOrder}
use Rattle.check_turns.specs.Turns.{IsInTurn}
use Rattle.check_turns.specs.View.{KeepsOrdered, KeepsTurns, TurnsView, OrderedView}

module _ (plan : Plan) (past : List Sighting) (x : Sighting) where
  abbrev there : Plan
  there = plan_at plan x.link

  abbrev here : Scene
  here = scene plan past x

  -- ---- the first fault

  first_there : (beat : Beat) (reason : Reason) → IsFirstReasonOf there here x beat reason
      → IsFirstOf (HasReasonThere there here x beat) reason_rank reason
  first_there (A ask) reason is = is
  first_there (D reply) reason is = is

  -- a beat that is lawful where it crosses has no reason not to be
  pub none_there : (beat : Beat) → IsAllowedBeat there here x beat → (reason : Reason)
      → HasReasonThere there here x beat reason → ⊥
  none_there (A ask) allowed = no_ask_reason there.layout x.link here ask x.known x.lanes allowed
  none_there (D reply) allowed = no_reply_reason there.layout x.link here reply x.known x.lanes allowed

  tells_none : (beat : Beat) (fault : Fault) → (reason_of fault ≡ WrongReply → ⊥) → TellsReplies here x beat fault
  tells_none (A ask) fault other = tt
  tells_none (D reply) fault other = λ wrong. absurd (other wrong)

  -- the first reason where a beat crosses is the first of all, if it is tried before the order of replies
  pub tells_earlier : (reason : Reason) → IsFirstReason there (past_at plan.layout x.link past) x reason
      → reason_rank reason < 14 → (fault : Fault) → reason_of fault ≡ reason → IsFirstFaultInOrder plan past x fault
  tells_earlier reason first small fault is =
      let found = first_there x.beat reason first in
      record {
        reason = subst (λ (r : Reason). IsFirstOf (HasReason plan past x) reason_rank r) (sym is) (record {
          applies = inl found.applies;
          first = λ other lower has. ⊎_elim (λ has. found.first other lower has) (λ out. later other lower out.0) has;
        });
        replies = tells_none x.beat fault (λ wrong. late (sym is ∙ wrong));
      }
    where
      later : (other : Reason) → reason_rank other < reason_rank reason → other ≡ OutOfOrder → ⊥
      later other lower same =
          let rank : reason_rank other ≡ 14 = ap reason_rank same in absurd (omega (arith, lower, rank, small))

      late : reason ≡ WrongReply → ⊥
      late same = let rank : reason_rank reason ≡ 20 = ap reason_rank same in absurd (omega (arith, rank, small))

  -- a reply is out of turn, and nothing that is tried before applies
  pub tells_out : (IsInTurn plan past x → ⊥)
      → ((reason : Reason) → reason_rank reason < 14 → HasReasonThere there here x x.beat reason → ⊥)
      → IsFirstFaultInOrder plan past x faults.OutOfOrder
  tells_out out none = record {
    reason = record {
      applies = inr (refl, out);
      first = λ other lower has. ⊎_elim (λ has. none other lower has) (λ same. itself other lower same.0) has;
    };
    replies = tells_none x.beat faults.OutOfOrder (λ wrong. absurd (cc));
  }
    where
      itself : (other : Reason) → reason_rank other < 14 → other ≡ OutOfOrder → ⊥
      itself other lower same = let rank : reason_rank other ≡ 14 = ap reason_rank same in absurd (omega (arith, lower, rank))

  pub none_before : (reason : Reason) → IsFirstReason there (past_at plan.layout x.link past) x reason
      → (reason_rank reason < 14 → ⊥)
      → (other : Reason) → reason_rank other < 14 → HasReasonThere there here x x.beat other → ⊥
  none_before reason first late other lower has =
      (first_there x.beat reason first).first other (omega (arith, late, lower)) has

  -- a beat that is in turn has the fault that it has where it crosses
  pub same_fault : IsInTurn plan past x → (fault : Fault) → sides.IsFirstFault plan past x fault
      → IsFirstFaultInOrder plan past x fault
  same_fault in_turn fault is =
      let found = first_there x.beat (reason_of fault) is.reason in
      record {
        reason = record {
          applies = inl found.applies;
          first = λ other lower has. ⊎_elim (λ has. found.first other lower has) (λ out. out.1 in_turn) has;
        };
        replies = is.replies;
      }

  -- ---- a beat that is in turn

  module _ (old : OrderedView) (keeps : KeepsOrdered plan past old) (in_turn : IsInTurn plan past x) where
    pub lawful_too : sides.IsLawful plan (x ∷ past) → IsLawfulInOrder plan (x ∷ past)
    lawful_too is = record { beats = is; turns = (keeps.turns.lawful, in_turn) }

    module _ (beats : sides_view.View) (turns : TurnsView) (layout : Layout) (same : layout ≡ plan.layout) where
      abbrev now : OrderedView
      now = record { layout = layout; beats = beats; turns = turns }

      kept : sides_view.Keeps plan (x ∷ past) beats → KeepsTurns plan (x ∷ past) turns → KeepsOrdered plan (x ∷ past) now
      kept is order = record {
        suits = record { lawful = keeps.suits.lawful; layout = same };
        lawful = lawful_too is.lawful;
        beats = is;
        turns = order;
      }

      pub step_on : (r : Result Seen StepError) → sides_steps.IsStepAfter plan past x beats r
          → OnOk r (KeepsTurns plan (x ∷ past) turns) → IsStepInOrder plan past x now r
      step_on r is order = record {
        lawful = λ other. let iff = is.lawful other in (λ ok. lawful_too (iff.0 ok), λ right. iff.1 right.beats);
        keeps = both r is.keeps order;
        seen = is.seen;
        fault = told r is.fault;
        memory = λ refused. lawful_too (is.memory refused);
        needed = is.needed;
      }
        where
          both : (r : Result Seen StepError) → OnOk r (sides_view.Keeps plan (x ∷ past) beats)
              → OnOk r (KeepsTurns plan (x ∷ past) turns) → OnOk r (KeepsOrdered plan (x ∷ past) now)
          both (Ok seen) one other = kept one other
          both (Err why) one other = tt

          told : (r : Result Seen StepError) → IfErr r (OfFault (sides.IsFirstFault plan past x))
              → IfErr r (OfFault (IsFirstFaultInOrder plan past x))
          told (Ok seen) first = tt
          told (Err (Unlawful fault)) first = same_fault in_turn fault first
          told (Err Memory) first = tt

      pub take_on : {E : Type 0} (r : Result (Option Ended) E) → sides_steps.IsTakeAfter plan past x beats r
          → IfOk r (λ end. OnSome end (KeepsTurns plan (x ∷ past) turns)) → IsTakeInOrder plan past x now r
      take_on {E = E} r is order = record {
        lawful = if_ok r (λ (end : Option Ended) iff. (λ some. lawful_too (iff.0 some), λ right. iff.1 right.beats)) is.lawful;
        keeps = both r is.keeps order;
        ended = is.ended;
        memory = on_err r lawful_too is.memory;
        needed = is.needed;
      }
        where
          of_end : (end : Option Ended) → OnSome end (sides_view.Keeps plan (x ∷ past) beats)
              → OnSome end (KeepsTurns plan (x ∷ past) turns) → OnSome end (KeepsOrdered plan (x ∷ past) now)
          of_end (Some end) one other = kept one other
          of_end None one other = tt

          both : (r : Result (Option Ended) E) → IfOk r (λ end. OnSome end (sides_view.Keeps plan (x ∷ past) beats))
              → IfOk r (λ end. OnSome end (KeepsTurns plan (x ∷ past) turns))
              → IfOk r (λ end. OnSome end (KeepsOrdered plan (x ∷ past) now))
          both (Ok end) one other = of_end end one other
          both (Err why) one other = tt

-- a beginning of a lawful list is lawful
pub lawful_before : (plan : Plan) (x : Sighting) (past : List Sighting) → IsLawfulInOrder plan (x ∷ past) → IsLawfulInOrder plan past
lawful_before plan x past lawful = record { beats = lawful.beats.0; turns = lawful.turns.0 }
