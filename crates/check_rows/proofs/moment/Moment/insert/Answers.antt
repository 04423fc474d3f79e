-- The row has a place among those of its time, and room for its lanes.
use Rattle.std.proofs.Common.{◌≡◌, ◌∙◌, ◌++◌, ℕ, List, map, length, take, arith, ap}
use Rattle.std.specs.List.{insert}
use Rattle.std.proofs.lemmas.List.{length-take-le}
use Rattle.check_beats.specs.Bus.{bus_bytes}
use Rattle.check_rows.specs.Moment.{kept_row}
use Rattle.check_rows.specs.Row.{SeenRow, seen_row}
use Rattle.check_rows.proofs.MomentLemmas.{added, bus-small, can-be-kept, kept-insert, kept-inside, kept-room, rows-insert}
use Rattle.check_rows.proofs.moment.Moment.insert.Goals as goal

pub unwrap-requires : goal.unwrap-requires
unwrap-requires c =
    let can = can-be-kept c.self.inside.time c.self.inside.rows.items c.self.inside.lanes.items c.args.lanes.now
    c.args.row.now c.args.count c.args.self.now c.self.view_is c.self.invariant c.requires.link c.requires.now
    c.requires.lanes c.requires.gap in
    let few = kept-room _ _ _ _ _ _ can in
    let room = c.self.invariant.room in
    let bytes = c.bytes.ensures.value in
    let small = bus-small c.args.row.now.bus in
    let long = c.requires.lanes in
    let size : length (take c.bytes.result c.args.lanes.now) ≡ c.bytes.result =
    length-take-le c.bytes.result c.args.lanes.now (omega (arith, bytes, long)) in
    c.try_extend_from_slice.ensures.variant.1 (omega (arith, few, room, bytes, small, size))

pub insert-requires : goal.insert-requires
insert-requires c =
    let can = can-be-kept c.self.inside.time c.self.inside.rows.items c.self.inside.lanes.items c.args.lanes.now
    c.args.row.now c.args.count c.args.self.now c.self.view_is c.self.invariant c.requires.link c.requires.now
    c.requires.lanes c.requires.gap in
    (omega arith, (kept-inside _ _ _ _ _ _ can, kept-room _ _ _ _ _ _ can))

pub invariant_of-self : goal.invariant_of-self
invariant_of-self c =
    let can = can-be-kept c.self.inside.time c.self.inside.rows.items c.self.inside.lanes.items c.args.lanes.now
    c.args.row.now c.args.count c.args.self.now c.self.view_is c.self.invariant c.requires.link c.requires.now
    c.requires.lanes c.requires.gap in
    let part : c.try_extend_from_slice.new.self.items
    ≡ c.self.inside.lanes.items ++ take (bus_bytes c.args.row.now.bus) c.args.lanes.now =
    rw c.unwrap.ensures at c.try_extend_from_slice.ensures.ok
    ∙ ap (λ (n : ℕ). c.self.inside.lanes.items ++ take n c.args.lanes.now) c.bytes.ensures.value in
    let row : c.insert.new.self.items
    ≡ insert c.self.inside.rows.items c.args.count (added c.args.row.now c.self.inside.lanes.items) =
    c.insert.ensures.items
    ∙ ap (λ (n : ℕ). insert c.self.inside.rows.items c.args.count (record { row = c.args.row.now; first = n }))
    c.len-first.ensures.value in
    rw (part, row) (kept-insert _ _ _ _ _ _ can)

pub returns : goal.returns
returns c =
    let part : c.try_extend_from_slice.new.self.items
    ≡ c.self.inside.lanes.items ++ take (bus_bytes c.args.row.now.bus) c.args.lanes.now =
    rw c.unwrap.ensures at c.try_extend_from_slice.ensures.ok
    ∙ ap (λ (n : ℕ). c.self.inside.lanes.items ++ take n c.args.lanes.now) c.bytes.ensures.value in
    let row : c.insert.new.self.items
    ≡ insert c.self.inside.rows.items c.args.count (added c.args.row.now c.self.inside.lanes.items) =
    c.insert.ensures.items
    ∙ ap (λ (n : ℕ). insert c.self.inside.rows.items c.args.count (record { row = c.args.row.now; first = n }))
    c.len-first.ensures.value in
    let rows : map (kept_row c.try_extend_from_slice.new.self.items) c.insert.new.self.items
    ≡ insert (map (kept_row c.self.inside.lanes.items) c.self.inside.rows.items) c.args.count
    (seen_row c.args.row.now c.args.lanes.now) =
    rw (part, row)
    (rows-insert c.self.inside.rows.items c.self.inside.lanes.items c.args.lanes.now c.args.row.now c.args.count
    c.self.invariant.inside) in
    rw (← c.self.view_is) (ap (λ (xs : List SeenRow). record { time = c.self.inside.time; rows = xs }) rows)
