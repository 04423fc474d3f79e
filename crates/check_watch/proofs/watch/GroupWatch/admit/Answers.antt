use Rattle.std.proofs.Common.{◌≡◌, ◌∙◌, refl, sym, subst}
use Rattle.std.specs.Prelude.{◌∷◌, IfOk, OnErr, OnOk}
use Rattle.check_watch.specs.declared.beat.Beat.{Beat}
use Rattle.check_watch.specs.declared.seen.Ended.{Ended}
use Rattle.check_watch.specs.Lawful.{IsLawfulGroup, GroupMayNeedMemory, seen_in_group}
use Rattle.check_watch.specs.Scene.{ended_by}
use Rattle.check_watch.specs.Plan.{seen_at}
use Rattle.check_watch.specs.View.{IsPlace, KeepsGroup}
use Rattle.check_watch.proofs.Ending.{ask_ended, reply_ended}
use Rattle.check_watch.proofs.Keeping.{ask_keeps, ask_needs, on_ok, reply_keeps, reply_needs}
use Rattle.check_watch.specs.declared.beat.Beat.TheVariants.{D}
use Rattle.check_watch.proofs.Stepping.{if_ok, on_err}
use Rattle.check_watch.proofs.watch.GroupWatch.admit.Goals as goal

pub returns-in-A-clause-keeps : goal.returns-in-A-clause-keeps
returns-in-A-clause-keeps c plan past keeps =
    let view = c.args.self.now in
    let link = c.args.link in
    let known = c.args.known in
    let lanes = c.args.lanes.now in
    let r = c.admit_ask.result in
    let new = c.admit_ask.new.self in
    let P : Beat → Type 0 =
    λ b. IsPlace view link b c.args.place → IsLawfulGroup plan (seen_at link b known lanes ∷ past)
    → OnOk r (KeepsGroup plan (seen_at link b known lanes ∷ past) new) in
    subst P (sym c.in-A.is)
    (λ at lawful. on_ok r (ask_keeps plan past view new link known lanes c.args.place keeps c.sized.ensures.sized
    c.requires.known c.in-A.beat at lawful) c.admit_ask.ensures.after) c.requires.place

pub returns-in-A-clause-ended : goal.returns-in-A-clause-ended
returns-in-A-clause-ended c plan past keeps lawful =
    let link = c.args.link in
    let known = c.args.known in
    let lanes = c.args.lanes.now in
    let r = c.admit_ask.result in
    let P : Beat → Type 0 = λ b. IfOk r (λ e. e ≡ ended_by (seen_in_group plan past (seen_at link b known lanes))) in
    subst P (sym c.in-A.is) (if_ok r (λ (e : Ended) is.
    is ∙ ask_ended plan past c.args.self.now link known lanes keeps _ c.in-A.beat refl) c.admit_ask.ensures.ends)

pub returns-in-A-clause-needed : goal.returns-in-A-clause-needed
returns-in-A-clause-needed c plan past keeps lawful =
    let view = c.args.self.now in
    let link = c.args.link in
    let known = c.args.known in
    let lanes = c.args.lanes.now in
    let r = c.admit_ask.result in
    let P : Beat → Type 0 =
    λ b. IsPlace view link b c.args.place → OnErr r (GroupMayNeedMemory plan past (seen_at link b known lanes)) in
    subst P (sym c.in-A.is) (λ at. on_err r (ask_needs plan past view link known lanes c.args.place keeps c.in-A.beat at)
    c.admit_ask.ensures.needed) c.requires.place

pub returns-in-D-clause-keeps : goal.returns-in-D-clause-keeps
returns-in-D-clause-keeps c plan past keeps =
    let view = c.args.self.now in
    let link = c.args.link in
    let known = c.args.known in
    let lanes = c.args.lanes.now in
    let r = c.admit_reply.result in
    let new = c.admit_reply.new.self in
    let P : Beat → Type 0 =
    λ b. IsPlace view link b c.args.place → IsLawfulGroup plan (seen_at link b known lanes ∷ past)
    → OnOk r (KeepsGroup plan (seen_at link b known lanes ∷ past) new) in
    subst P (sym c.in-D.is)
    (λ at lawful. on_ok r (reply_keeps plan past view new link known lanes c.args.place keeps c.sized.ensures.sized
    c.requires.known c.in-D.beat at lawful) c.admit_reply.ensures.after) c.requires.place

pub returns-in-D-clause-ended : goal.returns-in-D-clause-ended
returns-in-D-clause-ended c plan past keeps =
    let link = c.args.link in
    let known = c.args.known in
    let lanes = c.args.lanes.now in
    let r = c.admit_reply.result in
    let P : Beat → Type 0 =
    λ b. IsLawfulGroup plan (seen_at link b known lanes ∷ past)
    → IfOk r (λ e. e ≡ ended_by (seen_in_group plan past (seen_at link b known lanes))) in
    let Q : Ended → Type 0 = λ e. e ≡ ended_by (seen_in_group plan past (seen_at link (D c.in-D.beat) known lanes)) in
    subst P (sym c.in-D.is) (λ lawful.
    let told = reply_ended plan past c.args.self.now link known lanes keeps _ c.in-D.beat lawful refl in
    if_ok {Q = Q} r (λ (e : Ended) is. is ∙ told) c.admit_reply.ensures.ends)

pub returns-in-D-clause-needed : goal.returns-in-D-clause-needed
returns-in-D-clause-needed c plan past keeps lawful =
    let view = c.args.self.now in
    let link = c.args.link in
    let known = c.args.known in
    let lanes = c.args.lanes.now in
    let r = c.admit_reply.result in
    let P : Beat → Type 0 =
    λ b. IsPlace view link b c.args.place → OnErr r (GroupMayNeedMemory plan past (seen_at link b known lanes)) in
    subst P (sym c.in-D.is) (λ at. on_err r (reply_needs plan past view link known lanes c.args.place keeps c.in-D.beat at)
    c.admit_reply.ensures.needed) c.requires.place
