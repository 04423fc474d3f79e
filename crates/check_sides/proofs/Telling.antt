-- The fault that is told of a beat at a port's link that is judged by itself.
use Rattle.std.proofs.Common.{◌≡◌, ◌∙◌, ℕ, List, refl, sym, subst}
use Rattle.check_beats.specs.declared.beat.AskHead.{AskHead}
use Rattle.check_beats.specs.declared.beat.ReplyHead.{ReplyHead}
use Rattle.check_watch.specs.declared.beat.Beat.{Beat}
use Rattle.check_watch.specs.declared.beat.Beat.TheVariants.{A, D}
use Rattle.check_watch.specs.declared.beat.Link.TheVariants.{Port}
use Rattle.check_watch.specs.declared.fault.Fault.{Fault}
use Rattle.check_watch.specs.declared.fault.Fault.TheVariants as faults
use Rattle.check_watch.specs.declared.fault.Reason.{Reason}
use Rattle.check_watch.specs.declared.fault.Reason.TheVariants.{WrongReply}
use Rattle.check_watch.specs.Faults.{IsFirstReplyReason, IsWrongReply, reason_of}
use Rattle.check_watch.specs.Lawful.{IsFirstGroupFault, IsFirstReason, TellsReplies}
use Rattle.check_watch.specs.Past.{scene_in_group}
use Rattle.check_watch.specs.Plan.{Plan, Sighting}
use Rattle.check_watch.specs.Scene.{Scene}
use Rattle.check_sides.specs.View.{KeepsPort, PortView, port_scene}
use Rattle.check_sides.proofs.PortSteps.{at_port, beyond_of, carried, found}

wrong_reason : (here : Scene) (beat : ReplyHead) (known : ℕ) (lanes : List ℕ) (fault : Fault)
    → IsWrongReply here beat known lanes fault → reason_of fault ≡ WrongReply
wrong_reason here beat known lanes (faults.WrongReply expected reply) is = refl
wrong_reason here beat known lanes (faults.Form f) is = absurd is
wrong_reason here beat known lanes faults.NoSuchSource is = absurd is
wrong_reason here beat known lanes faults.SourceBusy is = absurd is
wrong_reason here beat known lanes faults.WrongPort is = absurd is
wrong_reason here beat known lanes faults.NoRequest is = absurd is
wrong_reason here beat known lanes faults.EarlyReply is = absurd is
wrong_reason here beat known lanes faults.OutOfOrder is = absurd is
wrong_reason here beat known lanes faults.WrongSize is = absurd is
wrong_reason here beat known lanes faults.WrongOpcode is = absurd is
wrong_reason here beat known lanes faults.UnknownData is = absurd is
wrong_reason here beat known lanes faults.NotSent is = absurd is
wrong_reason here beat known lanes faults.NotGiven is = absurd is

module _ (plan : Plan) (port : ℕ) (past : List Sighting) (view : PortView) (known : ℕ) (lanes : List ℕ)
    (keeps : KeepsPort plan port past view) (fault : Fault) where
  abbrev x_of : Beat → Sighting
  x_of beat = at_port plan port past view known lanes keeps beat

  pub tells_wrong : (beat : ReplyHead)
      → (IsFirstReplyReason plan.layout (Port port)
      (port_scene plan.layout port (beyond_of plan port past view known lanes keeps beat.source) view (D beat))
      beat known lanes WrongReply
      → IsWrongReply (port_scene plan.layout port (beyond_of plan port past view known lanes keeps beat.source) view
      (D beat)) beat known lanes fault)
      → IsFirstReason plan past (x_of (D beat)) WrongReply → IsFirstGroupFault plan past (x_of (D beat)) fault
  tells_wrong beat says first =
      let wrong = carried plan port past view known lanes keeps (D beat)
      (λ (s : Scene). IsWrongReply s beat known lanes fault)
      (says (found plan port past view known lanes keeps (D beat)
      (λ (s : Scene). IsFirstReplyReason plan.layout (Port port) s beat known lanes WrongReply) first)) in
      record {
        reason = subst (λ (r : Reason). IsFirstReason plan past (x_of (D beat)) r)
            (sym (wrong_reason (scene_in_group plan past (x_of (D beat))) beat known lanes fault wrong)) first;
        replies = λ is. wrong;
      }

  -- a request has no wrong reply
  pub asks_tell : (beat : AskHead) → IsFirstReason plan past (x_of (A beat)) WrongReply
      → IsFirstGroupFault plan past (x_of (A beat)) fault
  asks_tell beat first = absurd first.applies

  pub tells_other : (beat : Beat) (reason : Reason) → (reason ≡ WrongReply → ⊥) → reason_of fault ≡ reason
      → IsFirstReason plan past (x_of beat) reason → IsFirstGroupFault plan past (x_of beat) fault
  tells_other beat reason other is first = record {
    reason = subst (λ (r : Reason). IsFirstReason plan past (x_of beat) r) (sym is) first;
    replies = none beat (scene_in_group plan past (x_of beat));
  }
    where
      none : (b : Beat) (here : Scene) → TellsReplies here (x_of beat) b fault
      none (A b) here = tt
      none (D b) here = λ wrong. absurd (other (sym is ∙ wrong))
