use Rattle.std.proofs.Common.{◌≡◌, ◌∙◌, ℕ, ◌+◌, ◌≤◌, List, length, take, drop, map, Option, sym, ap, arith}
use Rattle.std.specs.List.{zip}
use Rattle.std.proofs.lemmas.List.{length-take-le, length-drop}
use Rattle.tl_types.specs.Bytes.{bit_in, given_in}
use Rattle.tl_types.proofs.Given.{length-given_in}
use Rattle.tl_ops.specs.Window.{merged}
use Rattle.tl_ops.proofs.LaneLists.{length-with_window}
use Rattle.check_memory.specs.Known.{replaced}
use Rattle.check_memory.specs.Cells.{put_cell}
use Rattle.check_memory.proofs.PageCells.{put_shown, length-merged'}
use Rattle.check_memory.proofs.sheet.Sheet.put.Goals as goal

pub put-requires-clause-inside : goal.put-requires-clause-inside
put-requires-clause-inside c =
    omega (
      arith,
      c.requires.inside,
      ap length c.self.view_is,
      length-given_in (bit_in c.self.inside.masks) c.self.inside.lanes,
    )

pub give-requires-clause-inside : goal.give-requires-clause-inside
give-requires-clause-inside c =
    omega (
      arith,
      c.requires.inside,
      ap length c.self.view_is,
      length-given_in (bit_in c.self.inside.masks) c.self.inside.lanes,
      c.self.invariant.lanes_counted,
      c.self.invariant.masks_counted,
    )

pub give-requires-clause-limit : goal.give-requires-clause-limit
give-requires-clause-limit c =
    omega (
      arith,
      c.requires.inside,
      ap length c.self.view_is,
      length-given_in (bit_in c.self.inside.masks) c.self.inside.lanes,
      c.self.invariant.lanes_counted,
    )

lanes_long : (c : goal.After-give) → length c.put.new.self ≡ length c.self.inside.lanes
lanes_long c =
    let inside : c.args.start + length c.args.given.now ≤ length c.self.inside.lanes =
    omega (
      arith,
      c.requires.inside,
      ap length c.self.view_is,
      length-given_in (bit_in c.self.inside.masks) c.self.inside.lanes,
    ) in
    let old = take (length c.args.given.now) (drop c.args.start c.self.inside.lanes) in
    let wide : length c.args.given.now ≡ length old =
    sym (length-take-le (length c.args.given.now) (drop c.args.start c.self.inside.lanes)
    (omega (arith, inside, length-drop c.args.start c.self.inside.lanes))) in
    ap length c.put.ensures.after
    ∙ length-with_window c.self.inside.lanes c.args.start (merged old c.args.given.now)
    (omega (arith, inside, wide, length-merged' old c.args.given.now wide))

pub invariant_of-self : goal.invariant_of-self
invariant_of-self c = record {
  lanes_counted = lanes_long c ∙ c.self.invariant.lanes_counted;
  masks_counted = c.give.auto.masks ∙ c.self.invariant.masks_counted;
}

pub returns-clause-after : goal.returns-clause-after
returns-clause-after c =
    let n = length c.args.given.now in
    let start = c.args.start in
    let inside : start + n ≤ length c.self.inside.lanes =
    omega (
      arith,
      c.requires.inside,
      ap length c.self.view_is,
      length-given_in (bit_in c.self.inside.masks) c.self.inside.lanes,
    ) in
    let bits = c.give.ensures.inside in
    let others = c.give.ensures.outside in
    let left : List (Option ℕ) → List (Option ℕ) =
    λ cells. replaced cells start
    (map (λ pair. put_cell pair.0 pair.1) (zip (take n (drop start cells)) c.args.given.now)) in
    ap (given_in (bit_in c.give.new.masks)) c.put.ensures.after
    ∙ put_shown c.self.inside.masks c.give.new.masks c.self.inside.lanes start c.args.given.now inside bits others
    ∙ ap left c.self.view_is

pub returns-clause-len : goal.returns-clause-len
returns-clause-len c =
    length-given_in (bit_in c.give.new.masks) c.put.new.self ∙ lanes_long c
    ∙ sym (length-given_in (bit_in c.self.inside.masks) c.self.inside.lanes) ∙ ap length c.self.view_is
