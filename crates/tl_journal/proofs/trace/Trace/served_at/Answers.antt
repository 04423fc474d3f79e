-- Where the entries were served stands beside them.
use Rattle.std.proofs.Common.{◌≡◌, ◌∙◌, ◌<◌, Some, IsSomeAnd, ap, arith, length, slice_get, subst, sym}
use Rattle.std.proofs.lemmas.Option.{slice_get-get_or}
use Rattle.tl_journal.specs.Trace.{TraceView, place_of}
use Rattle.tl_journal.proofs.Placed.{length-entries_of, place_of-entries_of}
use Rattle.tl_journal.proofs.trace.Trace.served_at.Goals as goal

pub index-requires : goal.index-requires
index-requires c =
    let counted = length-entries_of c.self.inside.journal.items c.self.inside.places.items c.self.invariant.counted in
    omega (arith, rw (← c.self.view_is) at c.requires, counted, c.self.invariant.counted)

pub returns : goal.returns
returns c =
    let place = c.index.result.now in
    let counted = length-entries_of c.self.inside.journal.items c.self.inside.places.items c.self.invariant.counted in
    let within : c.args.place < length c.self.inside.places.items =
    omega (arith, rw (← c.self.view_is) at c.requires, counted, c.self.invariant.counted) in
    let there : slice_get c.self.inside.places.items c.args.place ≡ Some place =
    slice_get-get_or c.self.inside.places.items c.args.place place within ∙ ap (λ at. Some at) (sym c.index.ensures) in
    subst (λ (v : TraceView). IsSomeAnd (slice_get v.items c.args.place)
    (λ entry. place ≡ place_of entry)) c.self.view_is
    (place_of-entries_of c.self.inside.journal.items c.self.inside.places.items c.args.place place c.self.invariant.counted there)
