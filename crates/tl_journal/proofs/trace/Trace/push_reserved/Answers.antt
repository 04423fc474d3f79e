-- The new entry stands after the others.
use Rattle.std.proofs.Common.{◌∙◌, ◌<◌, ◌++◌, ◌∷◌, [], ap, arith, length}
use Rattle.tl_journal.specs.Trace.{served_entry}
use Rattle.tl_journal.proofs.Placed.{entries_of-push, length-entries_of}
use Rattle.tl_journal.proofs.Room.{length_push}
use Rattle.tl_journal.proofs.trace.Trace.push_reserved.Goals as goal

pub push_reserved-requires : goal.push_reserved-requires
push_reserved-requires c =
    let counted = length-entries_of c.self.inside.journal.items c.self.inside.places.items c.self.invariant.counted in
    omega (arith, rw (← c.self.view_is) at c.requires, counted)

pub push_reserved-requires-2 : goal.push_reserved-requires-2
push_reserved-requires-2 c =
    let counted = length-entries_of c.self.inside.journal.items c.self.inside.places.items c.self.invariant.counted in
    let more : length c.self.inside.journal.items < c.self.inside.journal.room =
    omega (arith, rw (← c.self.view_is) at c.requires, counted) in
    omega (arith, more, c.self.invariant.counted, c.self.invariant.places_fit)

pub invariant_of-self : goal.invariant_of-self
invariant_of-self c =
    let counted = length-entries_of c.self.inside.journal.items c.self.inside.places.items c.self.invariant.counted in
    let more : length c.self.inside.journal.items < c.self.inside.journal.room =
    omega (arith, rw (← c.self.view_is) at c.requires, counted) in
    let pairs = length_push c.self.inside.journal.items _ c.push_reserved.new.self.items c.push_reserved.ensures.items in
    let places = length_push c.self.inside.places.items c.args.place c.push_reserved-2.new.self.items c.push_reserved-2.ensures.items in
    record {
      counted = omega (arith, pairs, places, c.self.invariant.counted);
      few = omega (arith, pairs, more, c.push_reserved.ensures.room);
      places_fit = omega (
        arith,
        c.self.invariant.places_fit,
        c.push_reserved.ensures.room,
        c.push_reserved-2.ensures.capacity,
      );
    }

pub returns-clause-items : goal.returns-clause-items
returns-clause-items c =
    rw (c.push_reserved.ensures.items, c.push_reserved-2.ensures.items)
    (entries_of-push c.self.inside.journal.items c.self.inside.places.items _ c.args.place c.self.invariant.counted
    ∙ ap (λ v. v.items ++ served_entry (record c.args.ask.now { source = c.args.source })
    (record c.args.reply.now { source = c.args.source }) c.args.place ∷ []) c.self.view_is)
