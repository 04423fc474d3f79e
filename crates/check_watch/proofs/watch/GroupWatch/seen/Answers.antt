-- What a beat ends, told by what stands at its link.
use Rattle.std.proofs.Common.{◌≡◌, ◌∙◌, true, false, ap, subst, sym}
use Rattle.check_beats.specs.State.{Under, ends_ask}
use Rattle.check_watch.specs.declared.beat.Beat.{Beat}
use Rattle.check_watch.specs.declared.beat.Beat.TheVariants.{D}
use Rattle.check_watch.specs.declared.seen.Seen.TheVariants.{Part, WholeAsk}
use Rattle.check_watch.specs.Lawful.{seen_in_group}
use Rattle.check_watch.specs.Plan.{seen_at}
use Rattle.check_watch.specs.Scene.{seen}
use Rattle.check_watch.proofs.Ending.{ask_seen}
use Rattle.check_watch.proofs.Keeping.{carried}
use Rattle.check_watch.proofs.watch.GroupWatch.seen.Goals as goal

pub returns-then-ends_ask : goal.returns-then-ends_ask
returns-then-ends_ask c plan past keeps =
    let link = c.args.link in
    let known = c.args.known in
    let lanes = c.args.lanes.now in
    let P : Beat → Type 0 = λ b. WholeAsk ≡ seen_in_group plan past (seen_at link b known lanes) in
    subst P (sym c.in-A.is) (ask_seen plan past c.args.self.now link known lanes keeps true c.in-A.beat
    (sym c.if-ends_ask.true ∙ c.ends_ask.ensures ∙ ap (λ (u : Under). ends_ask u.bus u.asking c.in-A.beat) c.link.ensures))

pub returns-else-ends_ask : goal.returns-else-ends_ask
returns-else-ends_ask c plan past keeps =
    let link = c.args.link in
    let known = c.args.known in
    let lanes = c.args.lanes.now in
    let P : Beat → Type 0 = λ b. Part ≡ seen_in_group plan past (seen_at link b known lanes) in
    subst P (sym c.in-A.is) (ask_seen plan past c.args.self.now link known lanes keeps false c.in-A.beat
    (sym c.if-ends_ask.false ∙ c.ends_ask.ensures ∙ ap (λ (u : Under). ends_ask u.bus u.asking c.in-A.beat) c.link.ensures))

pub returns-in-D : goal.returns-in-D
returns-in-D c plan past keeps =
    let link = c.args.link in
    let known = c.args.known in
    let lanes = c.args.lanes.now in
    let P : Beat → Type 0 = λ b. c.seen_reply.result ≡ seen_in_group plan past (seen_at link b known lanes) in
    subst P (sym c.in-D.is) (carried plan past c.args.self.now (seen_at link (D c.in-D.beat) known lanes) keeps
    (λ l s. c.seen_reply.result ≡ seen l link s (D c.in-D.beat) known lanes) (c.seen_reply.ensures plan keeps.suits))
