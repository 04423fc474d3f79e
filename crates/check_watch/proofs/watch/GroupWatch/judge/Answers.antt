use Rattle.std.proofs.Common.{sym, subst}
use Rattle.std.specs.Prelude.{◌∷◌, OnOk, IfErr}
use Rattle.check_watch.specs.declared.beat.Beat.{Beat}
use Rattle.check_watch.specs.declared.beat.Beat.TheVariants.{A, D}
use Rattle.check_watch.specs.Allowed.{IsAllowedAsk, IsAllowedReply}
use Rattle.check_watch.specs.Faults.{IsFirstAskReason, IsFirstReplyReason}
use Rattle.check_watch.specs.Lawful.{IsLawfulGroup, IsFirstReason}
use Rattle.check_watch.specs.Plan.{seen_at}
use Rattle.check_watch.proofs.Keeping.{carried, if_err, on_ok}
use Rattle.check_watch.proofs.watch.GroupWatch.judge.Goals as goal

pub returns-in-A-clause-reason : goal.returns-in-A-clause-reason
returns-in-A-clause-reason c plan past keeps =
    let link = c.args.link in
    let known = c.args.known in
    let lanes = c.args.lanes.now in
    let beat = c.in-A.beat in
    let P : Beat → Type 0 = λ b. IfErr c.judge_ask.result (IsFirstReason plan past (seen_at link b known lanes)) in
    subst P (sym c.in-A.is) (if_err c.judge_ask.result
    (λ reason. carried plan past c.args.self.now (seen_at link (A beat) known lanes) keeps
    (λ l s. IsFirstAskReason l link s beat known lanes reason)) (c.judge_ask.ensures.reason plan keeps.suits))

pub returns-in-A-clause-allowed : goal.returns-in-A-clause-allowed
returns-in-A-clause-allowed c plan past keeps =
    let link = c.args.link in
    let known = c.args.known in
    let lanes = c.args.lanes.now in
    let beat = c.in-A.beat in
    let P : Beat → Type 0 = λ b. OnOk c.judge_ask.result (IsLawfulGroup plan (seen_at link b known lanes ∷ past)) in
    subst P (sym c.in-A.is) (on_ok c.judge_ask.result (λ allowed. (
      keeps.lawful,
      carried plan past c.args.self.now (seen_at link (A beat) known lanes) keeps
          (λ l s. IsAllowedAsk l link s beat known lanes) allowed,
    )) (c.judge_ask.ensures.allowed plan keeps.suits))

pub returns-in-D-clause-reason : goal.returns-in-D-clause-reason
returns-in-D-clause-reason c plan past keeps =
    let link = c.args.link in
    let known = c.args.known in
    let lanes = c.args.lanes.now in
    let beat = c.in-D.beat in
    let P : Beat → Type 0 = λ b. IfErr c.judge_reply.result (IsFirstReason plan past (seen_at link b known lanes)) in
    subst P (sym c.in-D.is) (if_err c.judge_reply.result
    (λ reason. carried plan past c.args.self.now (seen_at link (D beat) known lanes) keeps
    (λ l s. IsFirstReplyReason l link s beat known lanes reason)) (c.judge_reply.ensures.reason plan keeps.suits))

pub returns-in-D-clause-allowed : goal.returns-in-D-clause-allowed
returns-in-D-clause-allowed c plan past keeps =
    let link = c.args.link in
    let known = c.args.known in
    let lanes = c.args.lanes.now in
    let beat = c.in-D.beat in
    let P : Beat → Type 0 = λ b. OnOk c.judge_reply.result (IsLawfulGroup plan (seen_at link b known lanes ∷ past)) in
    subst P (sym c.in-D.is) (on_ok c.judge_reply.result (λ allowed. (
      keeps.lawful,
      carried plan past c.args.self.now (seen_at link (D beat) known lanes) keeps
          (λ l s. IsAllowedReply l link s beat known lanes) allowed,
    )) (c.judge_reply.ensures.allowed plan keeps.suits))
