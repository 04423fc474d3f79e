-- The request and its reply stand at this place of the journal, and where they were served beside them.
use Rattle.std.proofs.Common.{◌≡◌, ◌∙◌, ◌<◌, Some, ap, arith, length, slice_get, sym}
use Rattle.std.proofs.lemmas.Option.{slice_get-get_or}
use Rattle.tl_journal.proofs.Placed.{length-entries_of, slice_get-entries_of}
use Rattle.tl_journal.proofs.trace.Trace.read.Goals as goal

pub read-requires : goal.read-requires
read-requires c =
    let counted = length-entries_of c.self.inside.journal.items c.self.inside.places.items c.self.invariant.counted in
    omega (arith, rw (← c.self.view_is) at c.requires, counted)

pub index-requires : goal.index-requires
index-requires c =
    let counted = length-entries_of c.self.inside.journal.items c.self.inside.places.items c.self.invariant.counted in
    omega (arith, rw (← c.self.view_is) at c.requires, counted, c.self.invariant.counted)

pub returns : goal.returns
returns c =
    let counted = length-entries_of c.self.inside.journal.items c.self.inside.places.items c.self.invariant.counted in
    let within : c.args.place < length c.self.inside.places.items =
    omega (arith, rw (← c.self.view_is) at c.requires, counted, c.self.invariant.counted) in
    let there : slice_get c.self.inside.places.items c.args.place ≡ Some c.index.result.now =
    slice_get-get_or c.self.inside.places.items c.args.place c.index.result.now within
    ∙ ap (λ place. Some place) (sym c.index.ensures) in
    ap (λ v. slice_get v.items c.args.place) (sym c.self.view_is)
    ∙ slice_get-entries_of c.self.inside.journal.items c.self.inside.places.items c.args.place
    (c.read.new.ask, c.read.new.reply) c.index.result.now c.read.ensures there
