-- The row is put in at its place, or stands where another does.
use Rattle.std.proofs.Common.{◌∙◌, arith, refl}
use Rattle.std.proofs.lemmas.List.Sorted.{IsPermutation-insert}
use Rattle.check_rows.specs.Row.{seen_row}
use Rattle.check_rows.proofs.MomentLemmas.{beat-seen, gap-seen, links-kept}
use Rattle.check_rows.proofs.moment.Moment.put.Goals as goal

pub find_gap-requires : goal.find_gap-requires
find_gap-requires c =
    rw c.deref.ensures.0 (links-kept c.self.inside.lanes.items c.self.inside.rows.items c.self.invariant.moment.links)

pub returns-in_default-clause-fault : goal.returns-in_default-clause-fault
returns-in_default-clause-fault c =
    let here = rw c.deref.ensures.0 at c.in_default.ensures.none in
    rw (← c.self.view_is) (
      let low = c.if-row-self.false in let high = c.if-row-self-2.false in omega (arith, low, high),
      beat-seen c.self.inside.time c.self.inside.lanes.items c.self.inside.rows.items here.0
          (seen_row c.args.row.now c.args.lanes.now) here.1 (here.2 ∙ c.place_of_row.ensures.value),
    )

pub insert-requires-clause-gap : goal.insert-requires-clause-gap
insert-requires-clause-gap c =
    let gap = rw (c.place_of_row.ensures.value, c.deref.ensures.0) at c.in-Some.ensures.some in
    rw (← c.self.view_is) (gap-seen c.self.inside.lanes.items c.self.inside.rows.items _ c.in-Some.count gap)

pub returns-clause-ok : goal.returns-clause-ok
returns-clause-ok c =
    rw c.insert.ensures (record {
      now = rw (← c.self.view_is)
          (let low = c.if-row-self.false in let high = c.if-row-self-2.false in omega (arith, low, high));
      time = refl;
      rows = IsPermutation-insert c.args.self.now.rows c.in-Some.count (seen_row c.args.row.now c.args.lanes.now);
    })
