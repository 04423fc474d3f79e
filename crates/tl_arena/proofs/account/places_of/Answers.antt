use Rattle.std.proofs.Common.{rules, ℕ, sym, subst, ◌+◌, Vec, Global}
use Rattle.tl_arena.proofs.Chosen.{Chosen, chosen_none, place_taken, place_skipped, places_all, Here}
use Rattle.tl_arena.proofs.account.places_of.Goals.{then-word-wanted+in_ok-push, else-word-wanted}
use Rattle.tl_arena.proofs.account.places_of.Goals as goal

pub loop-place-init : goal.loop-place-init
loop-place-init c = rw c.new-places.ensures.items (chosen_none (λ (i : ℕ). i) (Here c.args.words.now c.args.wanted))

pub loop-place-preserved : goal.loop-place-preserved
loop-place-preserved c = elim c.if-word-wanted.branch [
  | then-word-wanted+in_ok-push w ↦ place_taken c.args.words.now c.loop-place.places.items c.if-word-wanted.places.items c.args.wanted c.loop-place.place c.loop-place.invariant c.loop-place-test.true w.if-word-wanted.true
      (search rules)
  | else-word-wanted w ↦ subst (λ (v : Vec ℕ Global). Chosen (λ (i : ℕ). i) (Here c.args.words.now c.args.wanted)
      (c.loop-place.place + 1) v.items) (sym w.places-is)
      (place_skipped c.args.words.now c.loop-place.places.items c.args.wanted c.loop-place.place c.loop-place.invariant c.loop-place-test.true w.if-word-wanted.false)
]

pub returns-clause-just : goal.returns-clause-just
returns-clause-just c =
    places_all c.args.words.now c.loop-place.places.items c.args.wanted c.loop-place.place c.loop-place.invariant c.loop-place-test.false

pub returns-clause-rising : goal.returns-clause-rising
returns-clause-rising c = c.loop-place.invariant.rising
