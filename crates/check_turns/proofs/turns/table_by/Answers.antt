-- No link, or one link more.
use Rattle.std.proofs.Common.{◌≡◌, ◌∙◌, ◌++◌, [], ◌∷◌, get_or, Bool, List, Option, false, length, take, sym, subst, arith}
use Rattle.std.specs.Prelude.{slice_index_or}
use Rattle.std.proofs.lemmas.List.{length-take-le, take_more}
use Rattle.check_turns.specs.View.{IsFreshBy, LinkTurnsView, turns_in}
use Rattle.check_turns.proofs.Turning.{more_fresh, none_fresh}
use Rattle.check_turns.proofs.turns.table_by.Goals as goal

pub returns-then-not-is_any_set : goal.returns-then-not-is_any_set
returns-then-not-is_any_set c number =
    subst (λ (l : List (Option LinkTurnsView)). IsFreshBy (slice_index_or c.args.flags.now number false) (turns_in l number))
    (sym c.new.ensures.items) (none_fresh c.args.flags.now number (sym c.is_any_set.ensures ∙ c.if-not-is_any_set.true))

pub loop-in_order-preserved : goal.loop-in_order-preserved
loop-in_order-preserved c =
    let flags = c.args.flags.now in
    let i = c.loop-in_order.in_order-index in
    let table = c.loop-in_order.table.items in
    let more = take_more flags i false (omega (arith, c.loop-in_order-test.true)) in
    let taken = length-take-le i flags (omega (arith, c.loop-in_order-test.true)) in
    let same : length (take i flags) ≡ length table = omega (arith, taken, c.loop-in_order.invariant.0) in (
      omega (arith, c.in_ok-push.ensures.len, c.loop-in_order.invariant.0),
      λ number. subst (λ (l : List Bool). IsFreshBy (slice_index_or l number false) (turns_in c.push.new.self.items number)) (sym more)
          (subst (λ (l : List (Option LinkTurnsView)). IsFreshBy (slice_index_or (take i flags ++ get_or flags i false ∷ []) number false) (turns_in l number))
          (sym c.in_ok-push.ensures.items)
          (more_fresh (take i flags) table (get_or flags i false) c.in_ok-turns_by.field-0 same c.loop-in_order.invariant.1 c.in_ok-turns_by.ensures number)),
    )
