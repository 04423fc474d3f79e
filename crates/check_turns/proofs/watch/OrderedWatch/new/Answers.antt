-- What is kept before any beat.
use Rattle.std.proofs.Common.{◌≡◌, ◌∙◌, [], ap, sym, subst}
use Rattle.check_watch.specs.Fifos.{FifoFlags, is_fifo_by}
use Rattle.check_watch.specs.Plan.{Layout, Plan}
use Rattle.check_sides.specs.View as sides
use Rattle.check_turns.specs.View.{IsFreshBy, KeepsOrdered, turns_at}
use Rattle.check_turns.proofs.Turning.{fresh_turns}
use Rattle.check_turns.proofs.watch.OrderedWatch.new.Goals as goal

-- the judge of beats keeps them, and no message has begun
kept : (c : goal.In_ok-beats) (plan : Plan) → c.in_ok-beats.beats.layout ≡ plan.layout → c.args.wiring.fifos ≡ plan.layout.fifos
    → sides.Keeps plan [] c.in_ok-beats.beats
    → KeepsOrdered plan [] (record {
      layout = c.in_ok-beats.beats.layout;
      beats = c.in_ok-beats.beats;
      turns = c.in_ok-turns.turns;
    })
kept c plan layout fifos beats = record {
  suits = record { lawful = beats.suits.lawful; layout = layout };
  lawful = record { beats = beats.lawful; turns = tt };
  beats = beats;
  turns = fresh_turns plan c.in_ok-turns.turns
      (λ link. subst (λ (f : FifoFlags). IsFreshBy (is_fifo_by f link) (turns_at c.in_ok-turns.turns link))
      (ap (λ (l : Layout). l.fifos) c.wiring.view_is ∙ fifos) (c.in_ok-turns.ensures link));
}

pub returns-clause-keeps : goal.returns-clause-keeps
returns-clause-keeps c plan lawful layout resets own =
    kept c plan (c.in_ok-beats.ensures.layout ∙ sym layout) (ap (λ (l : Layout). l.fifos) (sym layout))
    (c.in_ok-beats.ensures.keeps plan lawful layout resets own)

pub returns-clause-plan : goal.returns-clause-plan
returns-clause-plan c =
    let found = c.in_ok-beats.ensures.plan in
    let layout = found.3.suits.layout in (
      found.0,
      found.1,
      found.2,
      kept c found.0 layout
          (ap (λ (l : Layout). l.fifos) (sym c.in_ok-beats.ensures.layout) ∙ ap (λ (l : Layout). l.fifos) layout) found.3,
    )
